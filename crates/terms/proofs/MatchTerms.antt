-- What the match of one pattern with one term leaves, at each of its returns, and that its arguments are lower. Assumes nothing.
use mathlib.Core.Path.{◌≡◌, refl, sym, ap, ◌∙◌, subst}
use mathlib.Core.List.{List, [], ◌∷◌}
use Rattle.std.specs.Prelude.{max, Option, Some as some, None as nothing}
use Prim.Native.Nat.{ℕ, zero, suc, ◌+◌, ◌-◌, ◌≤◌, ◌<◌}
use native.Mathlib.Omega.{arith}
use Rattle.std.proofs.Math.Nat.{le-max_left, le-max_right, max-le}
use native.Mathlib.Decide.{ℕ_discrete}
use lib.Dec.{eqb}
use borrow.Author.Tests.{eq-eqb, ne_eqb}
use Rattle.std.specs.Bool.{then_some}
use lib.ListN.{length, get_or, set, length-drop}
use lib.Seq.{drop-cons, get_or-drop}
use Rattle.rules.specs.Limits.{SYMBOLS, RULEVARS}
use Rattle.rules.specs.Tree.{Tree, Trees, var, app, size, sizes, count_trees}
use Rattle.rules.specs.Store.{Made}
use Rattle.rules.specs.Match.{Bound, matches, match_all}
use Rattle.terms.specs.declared.store.Mark.{Mark}
use Rattle.terms.specs.Table.{node_at, args_of, tree_at, made, Shaped, is_var, is_app, Good}
use Rattle.terms.specs.Sets.{counted_from_1}
use Rattle.terms.specs.Patterns.{arity, cells_of, bound_of, Cells, Matchable, AllMatchable, Tried, miss, TriedAt, TriedAll}
use Rattle.terms.specs.Laws.Bound.{cells_long, cell_of, cells_of_set}
use Rattle.terms.specs.Laws.Tables.{length_trees, tree_here, shaped_some, args_count}
use Rattle.terms.proofs.Arguments.{behind}
use Rattle.terms.proofs.Nodes.{behind_head}
use Rattle.terms.proofs.Matches.{stands_var, stands_app, reads_var, var_new, var_same, var_other, all_other, app_same, app_other}

-- The node of a term -------------------------------------------------------------------------------------------------------------

-- an argument of a node is a lower term
arg_low : (n : ℕ) {w : List ℕ} (i : ℕ) → Shaped n w → 1 ≤ i → i < length w → get_or w i 0 < n
arg_low n i (is_var {h = h} p u) f b = absurd (omega arith)
arg_low n zero (is_app {xs = xs} p b) f k = absurd (omega arith)
arg_low n (suc i) (is_app {xs = xs} p b) f k = b i (omega arith)

module _ (I W : List ℕ) (m : Mark) (id : ℕ) (w : List ℕ) (g : Good I W m) (h : id < m.terms) (q : w ≡ node_at I W id) where
  node_shaped : Shaped id w
  node_shaped = subst (Shaped id) (sym q) (g.shaped id h)

  pub node_some : 0 < length w
  node_some = shaped_some id node_shaped

  tree_split : get_or (made I W m) id (var 0) ≡ tree_at (made I W m) (get_or w 0 0 ∷ behind w)
  tree_split =
      tree_here I W m g id h ∙ ap (tree_at (made I W m)) (sym q ∙ drop-cons w 0 0 node_some ∙ ap (λ (xs : List ℕ). get_or w 0 0 ∷ xs) (sym (behind_head w)))

  pub arg_falls : (k : ℕ) → k < length (behind w) → get_or (behind w) k 0 < id
  arg_falls k a =
      let l : length (behind w) ≡ length w - 1 = ap length (behind_head w) ∙ length-drop 1 w in
      let e : get_or (behind w) k 0 ≡ get_or w (1 + k) 0 = ap (λ (l : List ℕ). get_or l k 0) (behind_head w) ∙ get_or-drop 1 w k 0 in
      let t = arg_low id (1 + k) node_shaped (omega arith) (omega arith) in
      omega arith

-- What falls ---------------------------------------------------------------------------------------------------------------------

-- one more than the greatest of the numbers
pub above : List ℕ → ℕ
above [] = 0
above (x ∷ xs) = max (suc x) (above xs)

pub above_all : (xs : List ℕ) (k : ℕ) → k < length xs → get_or xs k 0 < above xs
unfolding above
above_all [] k h = absurd (omega arith)
above_all (x ∷ xs) zero h = let a = le-max_left (suc x) (above xs) in omega arith
above_all (x ∷ xs) (suc k) h = let a = le-max_right (suc x) (above xs) in let b = above_all xs k (omega arith) in omega arith

above_least : (xs : List ℕ) (n : ℕ) → ((k : ℕ) → k < length xs → get_or xs k 0 < n) → above xs ≤ n
unfolding above
above_least [] n f = omega arith
above_least (x ∷ xs) n f = max-le (let z = f 0 (omega arith) in omega arith) (above_least xs n (λ k h. f (suc k) (omega arith)))

-- The head -----------------------------------------------------------------------------------------------------------------------

module _ (S P I W : List ℕ) (m : Mark) (B : List ℕ) (at id : ℕ) (q : Matchable S P I W m B at id) where
  abbrev M : Made
  M = made I W m

  cells_made : Cells (length M) B
  cells_made =
      record { long = q.cells.long; within = λ v. let z = length_trees I W m.terms in let y = q.cells.within v in omega arith }

  there_made : id < length M
  there_made = let z = length_trees I W m.terms in let y = q.there in omega arith

  -- the pattern is known from its first word
  as_var : (D : List ℕ) (r : Option ℕ) → SYMBOLS ≤ get_or P at 0
      → (get_or P at 0 - SYMBOLS < RULEVARS → Tried M D (matches (var (get_or P at 0 - SYMBOLS)) (get_or M id (var 0)) (bound_of M B)) (at + size (var (get_or P at 0 - SYMBOLS))) r)
      → TriedAt S P I W m B D at id r
  as_var D r l f p s =
      let v = stands_var S P at p s l in
      subst (λ (t : Tree). Tried M D (matches t (get_or M id (var 0)) (bound_of M B)) (at + size t) r) (sym v.0) (f v.1)

  term_new : SYMBOLS ≤ get_or P at 0 → get_or B (get_or P at 0 - SYMBOLS) 0 ≡ 0 → TriedAt S P I W m B (set B (get_or P at 0 - SYMBOLS) (id + 1)) at id (some (at + 1))
  term_new l e = as_var _ _ l (λ small. var_new M B (get_or P at 0 - SYMBOLS) id cells_made small there_made e at)

  term_same : SYMBOLS ≤ get_or P at 0 → get_or B (get_or P at 0 - SYMBOLS) 0 ≡ id + 1 → TriedAt S P I W m B B at id (some (at + 1))
  term_same l e = as_var _ _ l (λ small. var_same M B (get_or P at 0 - SYMBOLS) id cells_made small there_made e at)

  term_differs : SYMBOLS ≤ get_or P at 0 → (get_or B (get_or P at 0 - SYMBOLS) 0 ≡ 0 → ⊥) → (get_or B (get_or P at 0 - SYMBOLS) 0 ≡ id + 1 → ⊥) → TriedAt S P I W m B B at id nothing
  term_differs l n e = as_var _ _ l (λ small. var_other M B (get_or P at 0 - SYMBOLS) id cells_made small there_made q.good.apart n e at)

  module _ (w : List ℕ) (e : w ≡ node_at I W id) (l : get_or P at 0 < SYMBOLS) where
    as_app : ((ts : Trees) → count_trees ts ≡ arity S (get_or P at 0) → matches (app (get_or P at 0) ts) (tree_at M (get_or w 0 0 ∷ behind w)) (bound_of M B) ≡ nothing)
        → TriedAt S P I W m B B at id nothing
    as_app f p st =
        let a = stands_app S P at p st l in
        miss (ap (λ (t : Tree). matches t (get_or M id (var 0)) (bound_of M B)) a.is ∙ ap (λ (t : Tree). matches (app (get_or P at 0) a.args) t (bound_of M B)) (tree_split I W m id w q.good q.there e) ∙ f a.args a.count) q.cells.long refl

    pub term_head : (get_or w 0 0 ≡ get_or P at 0 → ⊥) → TriedAt S P I W m B B at id nothing
    term_head n = as_app (λ ts c. app_other M (get_or P at 0) ts (bound_of M B) l (get_or w 0 0) (behind w) n)

    module _ (h : get_or w 0 0 ≡ get_or P at 0) (k : ℕ) (f : k ≡ arity S (get_or P at 0)) where
      pub term_count : (length (behind w) ≡ k → ⊥) → TriedAt S P I W m B B at id nothing
      term_count n =
          as_app
          (λ ts c.
          app_same M (get_or P at 0) ts (bound_of M B) l (get_or w 0 0) (behind w) h
          ∙ all_other ts (args_of M (behind w)) (bound_of M B) (λ d. let a = args_count M (behind w) in n (omega arith)))

      module _ (n : length (behind w) ≡ k) where
        pub args_asked : AllMatchable S P I W m B (at + 1) (behind w)
        args_asked =
            let a = stands_app S P at q.reads.tree q.reads.stands l in
            let c = a.count in
            let t = q.there in
            record {
              good = q.good;
              symbols = q.symbols;
              reads = record { patterns = a.args; stands = a.rest; count = omega arith };
              cells = q.cells;
              there = λ j h. let z = arg_falls I W m id w q.good q.there e j h in omega arith;
            }

        pub args_below : above (behind w) ≤ id
        args_below = above_least (behind w) id (arg_falls I W m id w q.good q.there e)

        pub args_tried : (C : List ℕ) (r : Option ℕ) → TriedAll S P I W m B C (at + 1) (behind w) r → TriedAt S P I W m B C at id r
        unfolding size
        args_tried C r t p st =
            let a = stands_app S P at p st l in
            let c = a.count in
            let z : at + 1 + sizes a.args ≡ at + suc (sizes a.args) = omega arith in
            let ends : at + 1 + sizes a.args ≡ at + size p = z ∙ ap (λ (k : ℕ). at + k) (sym (ap size a.is)) in
            let is : match_all a.args (args_of M (behind w)) (bound_of M B) ≡ matches p (get_or M id (var 0)) (bound_of M B) =
            sym (ap (λ (t : Tree). matches t (get_or M id (var 0)) (bound_of M B)) a.is
            ∙ ap (λ (t : Tree). matches (app (get_or P at 0) a.args) t (bound_of M B)) (tree_split I W m id w q.good q.there e)
            ∙ app_same M (get_or P at 0) a.args (bound_of M B) l (get_or w 0 0) (behind w) h) in
            subst (λ (j : ℕ). Tried M C (matches p (get_or M id (var 0)) (bound_of M B)) j r) ends
            (subst (λ (K : Option Bound). Tried M C K (at + 1 + sizes a.args) r) is (t a.args a.rest (omega arith)))

-- A variable's binding -------------------------------------------------------------------------------------------------------------

module _ (S P I W : List ℕ) (m : Mark) (O : List (Option ℕ)) (at id : ℕ) (q : Matchable S P I W m (cells_of O) at id) (l : SYMBOLS ≤ get_or P at 0) where
  abbrev v : ℕ
  v = get_or P at 0 - SYMBOLS

  pub bound_in : v < RULEVARS
  bound_in = reads_var S P at q.reads l

  cell_is : (d o : Option ℕ) → get_or O v d ≡ o → get_or (cells_of O) v 0 ≡ counted_from_1 o
  cell_is d o e = let i = bound_in in let n = cells_long O in let c = q.cells.long in cell_of O v d (omega arith) ∙ ap counted_from_1 e

  pub bound_new : (d : Option ℕ) → get_or O v d ≡ nothing → TriedAt S P I W m (cells_of O) (cells_of (set O v (some id))) at id (some (at + 1))
  bound_new d e =
      subst (λ (C : List ℕ). TriedAt S P I W m (cells_of O) C at id (some (at + 1))) (sym (cells_of_set O v id)) (term_new S P I W m (cells_of O) at id q l (cell_is d nothing e))

  pub bound_meets : (d : Option ℕ) (t : ℕ) → get_or O v d ≡ some t → TriedAt S P I W m (cells_of O) (cells_of O) at id (then_some (eqb t id) (at + 1))
  bound_meets d t e =
      let c : get_or (cells_of O) v 0 ≡ suc t = cell_is d (some t) e in
      elim (ℕ_discrete t id) [
        | yes p ↦ rw (eq-eqb _ _ p) (term_same S P I W m (cells_of O) at id q l (omega arith))
        | no n ↦ rw (ne_eqb _ _ n) (term_differs S P I W m (cells_of O) at id q l (λ z. omega arith) (λ z. n (omega arith)))
      ]
