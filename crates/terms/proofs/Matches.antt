-- Matching a pattern in words with a term of the tables: each case of a head, and the loop over the arguments. Assumes nothing.
use mathlib.Core.Path.{◌≡◌, refl, sym, ap, ◌∙◌, subst}
use mathlib.Core.Bool.{Bool, true, false}
use mathlib.Core.List.{List, [], ◌∷◌}
use Rattle.std.specs.Prelude.{Option, Some as some, None as nothing}
use Prim.Native.Nat.{ℕ, zero, suc, ◌+◌, ◌-◌, ◌≤◌, ◌<◌}
use native.Mathlib.Omega.{arith}
use native.Mathlib.Decide.{dec_lt}
use native.Mathlib.Numerals.{add-one}
use lib.ListN.{length, get_or, set}
use borrow.Author.Tests.{eq-eqb, ne_eqb}
use Rattle.rules.specs.Limits.{SYMBOLS, ARGUMENTS, RULEVARS}
use Rattle.rules.specs.Tree.{Tree, Trees, var, app, none, more, size, sizes, count_trees}
use Rattle.rules.specs.Laws.Tree.{not_same, same_self}
use Rattle.rules.specs.Store.{Made}
use Rattle.rules.specs.Laws.Store.{Apart}
use Rattle.rules.specs.Match.{Bound, match_var, and_then, matches, match_all}
use Rattle.terms.specs.Table.{args_of, tree_at}
use Rattle.terms.specs.Patterns.{arity, Stands, Standing, PatternAt, tree_in, bound_of, Cells, Tried, hit, miss}
use Rattle.terms.specs.Laws.Tables.{tree_app, tree_var}
use Rattle.terms.specs.Laws.Patterns.{stands_in}
use Rattle.terms.specs.Laws.Bound.{bound_set, cells_set}

-- Patterns in words ------------------------------------------------------------------------------------------------------------

pub reads_in : (S P : List ℕ) (at : ℕ) → PatternAt S P at → at < length P
reads_in S P at r = stands_in S P at r.tree r.stands

-- a word from SYMBOLS on is a variable's
pub stands_var : (S P : List ℕ) (at : ℕ) (p : Tree) → Stands S P at p → SYMBOLS ≤ get_or P at 0 → (p ≡ var (get_or P at 0 - SYMBOLS)) × (get_or P at 0 - SYMBOLS < RULEVARS)
unfolding Stands
stands_var S P at (var v) h l =
    let a = h.1 in
    let b = h.2 in
    let e : v ≡ get_or P at 0 - SYMBOLS = omega arith in
    (ap var e, omega arith)
stands_var S P at (app c ts) h l = let a = h.1 in let b = h.2 in absurd (omega arith)

pub reads_var : (S P : List ℕ) (at : ℕ) → PatternAt S P at → SYMBOLS ≤ get_or P at 0 → get_or P at 0 - SYMBOLS < RULEVARS
reads_var S P at r l = (stands_var S P at r.tree r.stands l).1

-- a word below SYMBOLS is a symbol's, and its arguments stand behind it
pub record Applied (S P : List ℕ) (at : ℕ) (p : Tree) : Type 0 where
  pub args : Trees
  pub is : p ≡ app (get_or P at 0) args
  pub count : count_trees args ≡ arity S (get_or P at 0)
  pub few : count_trees args ≤ ARGUMENTS
  pub rest : Standing S P (at + 1) args

pub stands_app : (S P : List ℕ) (at : ℕ) (p : Tree) → Stands S P at p → get_or P at 0 < SYMBOLS → Applied S P at p
unfolding Stands
stands_app S P at (var v) h l = let a = h.1 in absurd (omega arith)
stands_app S P at (app c ts) h l =
    record
    { args = ts; is = ap (λ (k : ℕ). app k ts) (sym h.1); count = h.3 ∙ ap (arity S) (sym h.1); few = h.4; rest = h.5 }

-- A variable -------------------------------------------------------------------------------------------------------------------

module _ (M : Made) (B : List ℕ) (v id : ℕ) (c : Cells (length M) B) (l : v < RULEVARS) (h : id < length M) where
  meets : ℕ → Option Bound
  meets x = match_var v (get_or M id (var 0)) (bound_of M B) (tree_in M x)

  pub var_new : get_or B v 0 ≡ 0 → (at : ℕ) → Tried M (set B v (id + 1)) (matches (var v) (get_or M id (var 0)) (bound_of M B)) (at + size (var v)) (some (at + 1))
  unfolding matches match_var bound_of tree_in size meets
  var_new e at = hit (ap meets e ∙ ap some (sym (bound_set M B v id c l h))) (cells_set M B v id c l h) refl

  pub var_same : get_or B v 0 ≡ id + 1 → (at : ℕ) → Tried M B (matches (var v) (get_or M id (var 0)) (bound_of M B)) (at + size (var v)) (some (at + 1))
  unfolding matches match_var bound_of tree_in size meets
  var_same e at =
      hit (ap meets (e ∙ add-one id) ∙ ap (λ (b : Bool). elim b [ true ↦ some (bound_of M B) | false ↦ nothing ]) (same_self (get_or M id (var 0)))) c refl

  other_cell : Apart M → (x : ℕ) → x ≤ length M → (x ≡ 0 → ⊥) → (x ≡ id + 1 → ⊥) → meets x ≡ nothing
  unfolding meets match_var tree_in Apart
  other_cell a zero le n q = absurd (n refl)
  other_cell a (suc x) le n q =
      ap (λ (b : Bool). elim b [ true ↦ some (bound_of M B) | false ↦ nothing ])
      (not_same (get_or M x (var 0)) (get_or M id (var 0)) (λ e. let z = a x id (omega arith) h e in q (omega arith)))

  pub var_other : Apart M → (get_or B v 0 ≡ 0 → ⊥) → (get_or B v 0 ≡ id + 1 → ⊥) → (at : ℕ) → Tried M B (matches (var v) (get_or M id (var 0)) (bound_of M B)) (at + size (var v)) nothing
  unfolding matches bound_of meets
  var_other a n q at = miss (other_cell a (get_or B v 0) (c.within v) n q) c.long refl

-- A symbol ---------------------------------------------------------------------------------------------------------------------

-- trees of another number are no match
pub all_other : (ps ts : Trees) (b : Bound) → (count_trees ps ≡ count_trees ts → ⊥) → match_all ps ts b ≡ nothing
unfolding matches count_trees and_then
all_other none none b n = absurd (n refl)
all_other none (more t ts) b n = refl
all_other (more p ps) none b n = refl
all_other (more p ps) (more t ts) b n = go (λ c. all_other ps ts c (λ e. n (ap suc e))) (matches p t b)
  where
    go : ((c : Bound) → match_all ps ts c ≡ nothing) → (o : Option Bound) → and_then o (λ c. match_all ps ts c) ≡ nothing
    go f nothing = refl
    go f (some c) = f c

module _ (M : Made) (c : ℕ) (ps : Trees) (b : Bound) (l : c < SYMBOLS) (h : ℕ) (xs : List ℕ) where
  abbrev on_tree : Tree → Option Bound
  on_tree t = matches (app c ps) t b

  pub app_same : h ≡ c → matches (app c ps) (tree_at M (h ∷ xs)) b ≡ match_all ps (args_of M xs) b
  unfolding matches
  app_same e =
      ap on_tree (tree_app M h xs (omega arith)) ∙ ap (λ (d : Bool). elim d [ true ↦ match_all ps (args_of M xs) b | false ↦ nothing ]) (eq-eqb c h (sym e))

  pub app_other : (h ≡ c → ⊥) → matches (app c ps) (tree_at M (h ∷ xs)) b ≡ nothing
  unfolding matches
  app_other n = elim (dec_lt h SYMBOLS) [
    | yes p ↦ ap on_tree (tree_app M h xs p) ∙ ap (λ (d : Bool). elim d [ true ↦ match_all ps (args_of M xs) b | false ↦ nothing ]) (ne_eqb c h (λ e. n (sym e)))
    | no q ↦ ap on_tree (tree_var M h xs (omega arith))
  ]

-- Arguments one by one -----------------------------------------------------------------------------------------------------------

-- what is left decides: patterns from `place` on, and the terms xs
pub record Matching (S P : List ℕ) (M : Made) (K : Option Bound) (behind : ℕ) (C : List ℕ) (place : ℕ) (xs : List ℕ) : Type 0 where
  pub patterns : Trees
  pub stands : Standing S P place patterns
  pub count : count_trees patterns ≡ length xs
  pub ends : place + sizes patterns ≡ behind
  pub cells : Cells (length M) C
  pub left : K ≡ match_all patterns (args_of M xs) (bound_of M C)

module _ (S P : List ℕ) (M : Made) (K : Option Bound) (behind : ℕ) (C : List ℕ) (place : ℕ) where
  pub matching_reads : (x : ℕ) (xs : List ℕ) → Matching S P M K behind C place (x ∷ xs) → PatternAt S P place
  unfolding Stands count_trees
  matching_reads x xs q = go q.patterns q.stands q.count
    where
      go : (ps : Trees) → Standing S P place ps → count_trees ps ≡ suc (length xs) → PatternAt S P place
      go none s e = absurd (omega arith)
      go (more p ps) s e = record { tree = p; stands = s.0 }

  module _ (x : ℕ) (xs D : List ℕ) {r : Option ℕ} (q : Matching S P M K behind C place (x ∷ xs))
      (called : (p : Tree) → Stands S P place p → Tried M D (matches p (get_or M x (var 0)) (bound_of M C)) (place + size p) r) where
    pub matching_on : (next : ℕ) → r ≡ some next → Matching S P M K behind D next xs
    unfolding Stands count_trees size matches args_of and_then
    matching_on next n = go q.patterns q.stands q.count q.ends q.left
      where
        go : (ps : Trees) → Standing S P place ps → count_trees ps ≡ suc (length xs) → place + sizes ps ≡ behind → K ≡ match_all ps (args_of M (x ∷ xs)) (bound_of M C)
            → Matching S P M K behind D next xs
        go none s e f k = absurd (omega arith)
        go (more p ps) s e f k = done (called p s.0)
          where
            done : Tried M D (matches p (get_or M x (var 0)) (bound_of M C)) (place + size p) r → Matching S P M K behind D next xs
            done (hit a cs b) =
                let y : next ≡ place + size p = (cc) in
                record {
                  patterns = ps;
                  stands = subst (λ (j : ℕ). Standing S P j ps) (sym y) s.1;
                  count = omega arith;
                  ends = omega arith;
                  cells = cs;
                  left = k ∙ ap (λ (o : Option Bound). and_then o (λ c. match_all ps (args_of M xs) c)) a;
                }
            done (miss a cs b) = absurd (cc)

    pub matching_miss : r ≡ nothing → (K ≡ nothing) × (length D ≡ RULEVARS)
    unfolding Stands count_trees size matches args_of and_then
    matching_miss z = go q.patterns q.stands q.count q.left
      where
        go : (ps : Trees) → Standing S P place ps → count_trees ps ≡ suc (length xs) → K ≡ match_all ps (args_of M (x ∷ xs)) (bound_of M C) → (K ≡ nothing) × (length D ≡ RULEVARS)
        go none s e k = absurd (omega arith)
        go (more p ps) s e k = done (called p s.0)
          where
            done : Tried M D (matches p (get_or M x (var 0)) (bound_of M C)) (place + size p) r → (K ≡ nothing) × (length D ≡ RULEVARS)
            done (hit a cs b) = absurd (cc)
            done (miss a cs b) = (k ∙ ap (λ (o : Option Bound). and_then o (λ c. match_all ps (args_of M xs) c)) a, cs)

  pub matching_ends : Matching S P M K behind C place [] → (K ≡ some (bound_of M C)) × Cells (length M) C × (place ≡ behind)
  unfolding count_trees size matches args_of
  matching_ends q = go q.patterns q.count q.ends q.left
    where
      go : (ps : Trees) → count_trees ps ≡ 0 → place + sizes ps ≡ behind → K ≡ match_all ps none (bound_of M C)
          → (K ≡ some (bound_of M C)) × Cells (length M) C × (place ≡ behind)
      go none e f k = (k, q.cells, omega arith)
      go (more p ps) e f k = absurd (omega arith)
