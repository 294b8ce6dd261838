-- Building a tree from a pattern in words: a variable's tree, the loop over the arguments, and the node at the end. Assumes nothing.
use mathlib.Core.Path.{◌≡◌, refl, sym, ap, ◌∙◌, subst}
use mathlib.Core.List.{List, [], ◌∷◌}
use Prim.Native.Nat.{ℕ, suc, ◌+◌, ◌-◌, ◌≤◌, ◌<◌, suc-le-suc}
use native.Mathlib.Omega.{arith}
use native.Mathlib.Nat.{zero-lt-suc}
use lib.ListN.{length, get_or}
use Rattle.rules.specs.Limits.{SYMBOLS}
use Rattle.rules.specs.Out.{Out, ok, refuse, then, found}
use Rattle.rules.specs.Tree.{Tree, Trees, var, app, none, more, size, sizes, count_trees}
use Rattle.rules.specs.Store.{Made, keep}
use Rattle.rules.specs.Match.{Bound, build, builds}
use Rattle.terms.specs.Table.{args_of}
use Rattle.terms.specs.Patterns.{arity, Stands, Standing, PatternAt, tree_in, bound_of}
use Rattle.rules.specs.Laws.Out.{then_then}
use Rattle.terms.specs.Laws.Below.{ahead, ahead_none}
use Rattle.terms.proofs.Matches.{stands_app}

-- Trees before others ------------------------------------------------------------------------------------------------------------

pub ahead_agree : (M N : Made) (k : ℕ) (xs : List ℕ) (ts : Trees) → ((j : ℕ) → j < length xs → get_or xs j 0 < k) → ((i : ℕ) → i < k → get_or M i (var 0) ≡ get_or N i (var 0)) → ahead M xs ts ≡ ahead N xs ts
unfolding ahead
ahead_agree M N k [] ts b e = refl
ahead_agree M N k (x ∷ xs) ts b e = λ i. more (e x (b 0 (zero-lt-suc (length xs))) i) (ahead_agree M N k xs ts (λ j l. b (suc j) (suc-le-suc l)) e i)

-- Variables ----------------------------------------------------------------------------------------------------------------------

pub build_none : (M : Made) (B : List ℕ) (v : ℕ) → get_or B v 0 ≡ 0 → build (var v) (bound_of M B) M ≡ refuse 38 0 M
unfolding build bound_of tree_in
build_none M B v e = ap (λ (x : ℕ). found 38 (tree_in M x) M) e

pub build_some : (M : Made) (B : List ℕ) (v : ℕ) → (get_or B v 0 ≡ 0 → ⊥) → build (var v) (bound_of M B) M ≡ ok (get_or M (get_or B v 0 - 1) (var 0)) M
unfolding build bound_of tree_in
build_some M B v n = let e : get_or B v 0 ≡ suc (get_or B v 0 - 1) = omega arith in ap (λ (x : ℕ). found 38 (tree_in M x) M) e

-- Arguments one by one -------------------------------------------------------------------------------------------------------------

-- what is left decides: patterns from `place` on; k of the arguments are built, the trees numbered xs
pub record Remaining (S P : List ℕ) (b : Bound) (K : Out Made Tree) (behind c count : ℕ) (M : Made) (place k : ℕ) (xs : List ℕ) : Type 0 where
  pub patterns : Trees
  pub stands : Standing S P place patterns
  pub counted : count_trees patterns + k ≡ count
  pub ends : place + sizes patterns ≡ behind
  pub left : K ≡ then (builds patterns b M) (λ ts s. keep (app c (ahead M xs ts)) s)

pub remaining_begins : (S P : List ℕ) (b : Bound) (M : Made) (at : ℕ) (p : Tree) → Stands S P at p → get_or P at 0 < SYMBOLS
    → Remaining S P b (build p b M) (at + size p) (get_or P at 0) (arity S (get_or P at 0)) M (at + 1) 0 []
unfolding build ahead size
remaining_begins S P b M at p st l =
    let a = stands_app S P at p st l in
    let c = a.count in
    let z = ap size a.is in
    record {
      patterns = a.args;
      stands = a.rest;
      counted = omega arith;
      ends = let y : at + 1 + sizes a.args ≡ at + suc (sizes a.args) = omega arith in y ∙ ap (λ (k : ℕ). at + k) (sym z);
      left = ap (λ (t : Tree). build t b M) a.is;
    }

module _ (S P : List ℕ) (b : Bound) (K : Out Made Tree) (behind c count : ℕ) (M : Made) (place k : ℕ) (xs : List ℕ) (q : Remaining S P b K behind c count M place k xs) where
  pub remaining_reads : k < count → PatternAt S P place
  unfolding Stands count_trees
  remaining_reads h = go q.patterns q.stands q.counted
    where
      go : (ps : Trees) → Standing S P place ps → count_trees ps + k ≡ count → PatternAt S P place
      go none s e = absurd (omega arith)
      go (more p ps) s e = record { tree = p; stands = s.0 }

  pub remaining_on : k < count → (t : Tree) (N : Made) (next : ℕ) → ((p : Tree) → Stands S P place p → (build p b M ≡ ok t N) × (next ≡ place + size p))
      → (ys : List ℕ) → ((ts : Trees) → ahead M xs (more t ts) ≡ ahead N ys ts) → Remaining S P b K behind c count N next (k + 1) ys
  unfolding Stands count_trees size build then
  remaining_on h t N next f ys agree = go q.patterns q.stands q.counted q.ends q.left
    where
      go : (ps : Trees) → Standing S P place ps → count_trees ps + k ≡ count → place + sizes ps ≡ behind
          → K ≡ then (builds ps b M) (λ ts s. keep (app c (ahead M xs ts)) s) → Remaining S P b K behind c count N next (k + 1) ys
      go none s e d l = absurd (omega arith)
      go (more p ps) s e d l =
          let a = f p s.0 in
          let z = a.1 in
          record {
            patterns = ps;
            stands = subst (λ (j : ℕ). Standing S P j ps) (sym a.1) s.1;
            counted = omega arith;
            ends = omega arith;
            left =
                l
                ∙ ap (λ (J : Out Made Tree). then (then J (λ t s. then (builds ps b s) (λ ts n. ok (more t ts) n))) (λ ts s. keep (app c (ahead M xs ts)) s)) a.0
                ∙ then_then (builds ps b N) (λ ts n. ok (more t ts) n) (λ ts s. keep (app c (ahead M xs ts)) s)
                ∙ ap (λ (F : Trees → Trees). then (builds ps b N) (λ ts s. keep (app c (F ts)) s)) (λ i ts. agree ts i);
          }

  pub remaining_stops : k < count → (n d : ℕ) (N : Made) → ((p : Tree) → Stands S P place p → build p b M ≡ refuse n d N) → K ≡ refuse n d N
  unfolding Stands count_trees build then
  remaining_stops h n d N f = go q.patterns q.stands q.counted q.left
    where
      go : (ps : Trees) → Standing S P place ps → count_trees ps + k ≡ count → K ≡ then (builds ps b M) (λ ts s. keep (app c (ahead M xs ts)) s) → K ≡ refuse n d N
      go none s e l = absurd (omega arith)
      go (more p ps) s e l =
          l ∙ ap (λ (J : Out Made Tree). then (then J (λ t s. then (builds ps b s) (λ ts n. ok (more t ts) n))) (λ ts s. keep (app c (ahead M xs ts)) s)) (f p s.0)

  pub remaining_ends : count ≤ k → (K ≡ keep (app c (args_of M xs)) M) × (place ≡ behind)
  unfolding count_trees size build then
  remaining_ends h = go q.patterns q.counted q.ends q.left
    where
      go : (ps : Trees) → count_trees ps + k ≡ count → place + sizes ps ≡ behind → K ≡ then (builds ps b M) (λ ts s. keep (app c (ahead M xs ts)) s)
          → (K ≡ keep (app c (args_of M xs)) M) × (place ≡ behind)
      go none e d l = (l ∙ ap (λ (ts : Trees). keep (app c ts) M) (ahead_none M xs), omega arith)
      go (more p ps) e d l = absurd (omega arith)
