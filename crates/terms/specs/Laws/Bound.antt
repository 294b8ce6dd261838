-- The cells of a rule's variables: what they bind, one that gets a tree, that trees made later do not change them; and that a pattern whose
-- variables are all bound is built as its substitution is. Assumes nothing.
use Rattle.std.specs.Prelude.{◌≡◌, Bool, List, length, set, replicate, Option, Some as some, None as nothing}
use Rattle.std.proofs.Math.Path.{refl, sym, ap}
use Rattle.std.proofs.Common.{◌∙◌, length-set, get_or-set_other, eq-eqb, ne_eqb}
use Rattle.std.proofs.Math.Bool.{true, false}
use Prim.Native.Nat.{ℕ, zero, suc, ◌+◌, ◌≤◌, ◌<◌}
use native.Mathlib.Omega.{arith}
use Rattle.std.proofs.Math.Decide.{ℕ_discrete}
use Rattle.std.proofs.Math.ListN.{get_or}
use Rattle.std.proofs.lemmas.List.{length-replicate, length-map, get_or-map, map-set}
use Rattle.std.proofs.Math.Seq.{get_or-set_same}
use Rattle.rules.specs.Limits.{RULEVARS}
use Rattle.rules.specs.Tree.{Tree, Trees, var, variables, variables_of}
use Rattle.rules.specs.Store.{Made, number, substitute, substitutes}
use Rattle.rules.specs.Match.{unbound, bind, build, builds}
use Rattle.rules.specs.Laws.Store.{Apart, number_of_lem}
use Rattle.rules.specs.Laws.Build.{build_substitutes, builds_substitutes}
use Rattle.terms.specs.declared.store.Mark.{Mark}
use Rattle.terms.specs.Table.{made, Good, Grown}
use Rattle.terms.specs.Sets.{counted_from_1}
use Rattle.terms.specs.Patterns.{cells_of, tree_in, bound_of, Cells}
use Rattle.terms.specs.Laws.Zeros.{get_d_zeros}
use Rattle.terms.specs.Laws.Growth.{made_length, grown_tree}
use Rattle.terms.specs.Laws.Numbers.{made_closed}

-- Cells of what is bound ---------------------------------------------------------------------------------------------------------------

module _ (O : List (Option ℕ)) where
  pub cells_long : length (cells_of O) ≡ length O
  cells_long = length-map O counted_from_1

  pub cell_of : (v : ℕ) (d : Option ℕ) → v < length O → get_or (cells_of O) v 0 ≡ counted_from_1 (get_or O v d)
  cell_of v d h = get_or-map counted_from_1 O v d 0 h

  pub cells_of_set : (v t : ℕ) → cells_of (set O v (some t)) ≡ set (cells_of O) v (t + 1)
  cells_of_set v t = let e : suc t ≡ t + 1 = omega arith in map-set counted_from_1 O v (some t) ∙ ap (set (cells_of O) v) e

-- One cell -----------------------------------------------------------------------------------------------------------------------------

module _ (M : Made) (B : List ℕ) (v : ℕ) where
  pub bound_none : get_or B v 0 ≡ 0 → bound_of M B v ≡ nothing
  unfolding bound_of tree_in
  bound_none e = ap (tree_in M) e

  pub bound_some : (id : ℕ) → get_or B v 0 ≡ suc id → bound_of M B v ≡ some (get_or M id (var 0))
  unfolding bound_of tree_in
  bound_some id e = ap (tree_in M) e

-- cells of zeros bind nothing
pub bound_zeros : (M : Made) (n : ℕ) → bound_of M (replicate n 0) ≡ unbound
bound_zeros M n = λ i v. bound_none M (replicate n 0) v (get_d_zeros n v) i

pub cells_zeros : (n : ℕ) → Cells n (replicate RULEVARS 0)
cells_zeros n = record { long = length-replicate {A = ℕ} RULEVARS 0; within = λ v. let z = get_d_zeros RULEVARS v in omega arith }

-- cell v gets term id
module _ (M : Made) (B : List ℕ) (v id : ℕ) (c : Cells (length M) B) (l : v < RULEVARS) (h : id < length M) where
  bind_at : (w : ℕ) → bound_of M (set B v (id + 1)) w ≡ bind (bound_of M B) v (get_or M id (var 0)) w
  unfolding bound_of bind
  bind_at w =
      let long = c.long in
      elim (ℕ_discrete w v) [
        | yes e ↦
            (let z : id + 1 ≡ suc id = omega arith in
            bound_some M (set B v (id + 1)) w id (ap (λ (k : ℕ). get_or (set B v (id + 1)) k 0) e ∙ get_or-set_same B v (id + 1) 0 (omega arith) ∙ z)
            ∙ sym (ap (λ (b : Bool). elim b [ true ↦ some (get_or M id (var 0)) | false ↦ bound_of M B w ]) (eq-eqb w v e)))
        | no q ↦ ap (tree_in M) (get_or-set_other B v w (id + 1) 0 q) ∙ sym (ap (λ (b : Bool). elim b [ true ↦ some (get_or M id (var 0)) | false ↦ bound_of M B w ]) (ne_eqb w v q))
      ]

  pub bound_set : bound_of M (set B v (id + 1)) ≡ bind (bound_of M B) v (get_or M id (var 0))
  bound_set = λ i w. bind_at w i

  pub cells_set : Cells (length M) (set B v (id + 1))
  cells_set =
      record {
        long = length-set B v (id + 1) ∙ c.long;
        within = λ w. elim (ℕ_discrete w v) [
          | yes e ↦ (let long = c.long in let z = ap (λ (k : ℕ). get_or (set B v (id + 1)) k 0) e ∙ get_or-set_same B v (id + 1) 0 (omega arith) in omega arith)
          | no q ↦ (let z = get_or-set_other B v w (id + 1) 0 q in let y = c.within w in omega arith)
        ];
      }

-- Growth -------------------------------------------------------------------------------------------------------------------------------

module _ {I W J X : List ℕ} {old new : Mark} (w : Grown I W J X old new) where
  pub tree_in_grown : (x : ℕ) → x ≤ old.terms → tree_in (made J X new) x ≡ tree_in (made I W old) x
  unfolding tree_in
  tree_in_grown zero l = refl
  tree_in_grown (suc x) l = ap some (grown_tree w x l)

  module _ {B : List ℕ} (c : Cells old.terms B) where
    pub bound_grown : bound_of (made J X new) B ≡ bound_of (made I W old) B
    unfolding bound_of
    bound_grown = λ i v. tree_in_grown (get_or B v 0) (c.within v) i

    pub cells_grown : Cells new.terms B
    cells_grown = let l = w.more in record { long = c.long; within = λ v. let z = c.within v in omega arith }

-- Building -----------------------------------------------------------------------------------------------------------------------------

-- a tree that a cell binds is there
cell_has : (M : Made) → Apart M → (x : ℕ) → x ≤ length M → (t : Tree) → tree_in M x ≡ some t → number M t < length M
unfolding tree_in
cell_has M a zero l t e = absurd (let z : ◌≡◌ {A = ℕ} 0 1 = cc in omega arith)
cell_has M a (suc x) l t e = let z : get_or M x (var 0) ≡ t = cc in let n = number_of_lem M a x l t z in omega arith

module _ {I W : List ℕ} {m : Mark} (g : Good I W m) {B : List ℕ} (c : Cells m.terms B) (ρ : ℕ → Tree) where
  bound_has : (v : ℕ) → bound_of (made I W m) B v ≡ some (ρ v) → number (made I W m) (ρ v) < length (made I W m)
  unfolding bound_of
  bound_has v e = let l = made_length I W m in let z = c.within v in cell_has (made I W m) g.apart (get_or B v 0) (omega arith) (ρ v) e

  -- where ρ gives the trees of the cells, a pattern is built as `substitute ρ` makes it
  pub build_is : (p : Tree) → ((v : ℕ) → variables p v ≡ true → bound_of (made I W m) B v ≡ some (ρ v))
      → build p (bound_of (made I W m) B) (made I W m) ≡ substitute ρ p (made I W m)
  build_is p h = build_substitutes ρ (bound_of (made I W m) B) p (made I W m) (made_closed g) (λ v e. (h v e, bound_has v (h v e)))

  -- the same for patterns one after the other
  pub builds_are : (ps : Trees) → ((v : ℕ) → variables_of ps v ≡ true → bound_of (made I W m) B v ≡ some (ρ v))
      → builds ps (bound_of (made I W m) B) (made I W m) ≡ substitutes ρ ps (made I W m)
  builds_are ps h = builds_substitutes ρ (bound_of (made I W m) B) ps (made I W m) (made_closed g) (λ v e. (h v e, bound_has v (h v e)))
