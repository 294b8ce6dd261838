-- The definition's tests on trees, as `same_tree` and `variables`, and the predicates that they decide: what each answer means.
-- Assumes nothing.
use Rattle.std.specs.Prelude.{◌≡◌, refl, ◌⊎◌, Bool, true, false, ℕ, ◌<◌, eqb}
use Rattle.std.proofs.Common.{sym, ◌∙◌, ap, ap₂, subst, inl, inr, arith, eqb-true, eq-eqb, ne_eqb}
use Rattle.std.proofs.Math.Decide.{ℕ_discrete}
use Rattle.rules.specs.Tree.{Tree, Trees, var, app, none, more, same_tree, same_trees, sub, single, variables, variables_of, is_open, are_open}
use Rattle.rules.specs.Tree.{among}
use Rattle.rules.proofs.Laws.Below.{Below, Belows}
use Rattle.meaning.specs.Trees.Tree.{Occ, Occs, Ground, Grounds, Among, sub_ext, sub_var, ground_occ, grounds_occs}

-- Tests in a row ----------------------------------------------------------------------------------------------------------------

pub true_false : (b : Bool) → b ≡ true → b ≡ false → ⊥
true_false b p q = let z : ◌≡◌ {A = ℕ} 0 1 = let y : true ≡ false = sym p ∙ q in cc in omega arith

pub and_true : (b c : Bool) → elim b as (λ _. Bool) [ true ↦ c | false ↦ false ] ≡ true → (b ≡ true) × (c ≡ true)
and_true true c e = (refl, e)
and_true false c e = absurd (true_false false e refl)

pub true_and : (b c : Bool) → b ≡ true → c ≡ true → elim b as (λ _. Bool) [ true ↦ c | false ↦ false ] ≡ true
true_and true c p q = q
true_and false c p q = p

pub or_true : (b c : Bool) → elim b as (λ _. Bool) [ true ↦ true | false ↦ c ] ≡ true → (b ≡ true) ⊎ (c ≡ true)
or_true true c e = inl e
or_true false c e = inr e

pub true_or : (b c : Bool) → (b ≡ true) ⊎ (c ≡ true) → elim b as (λ _. Bool) [ true ↦ true | false ↦ c ] ≡ true
true_or true c h = refl
true_or false c (inl p) = absurd (true_false false p refl)
true_or false c (inr p) = p

pub not_true_false : (b : Bool) → (b ≡ true → ⊥) → b ≡ false
not_true_false true h = absurd (h refl)
not_true_false false h = refl

-- Equal trees -------------------------------------------------------------------------------------------------------------------

mutual
  unfolding same_tree

  pub same_tree_true : (s t : Tree) → same_tree s t ≡ true → s ≡ t
  same_tree_true (var v) (var w) e = ap var (eqb-true v w e)
  same_tree_true (var v) (app d us) e = absurd (true_false false e refl)
  same_tree_true (app c ts) (var w) e = absurd (true_false false e refl)
  same_tree_true (app c ts) (app d us) e =
      let r = and_true (eqb c d) (same_trees ts us) e in ap₂ app (eqb-true c d r.0) (same_trees_true ts us r.1)

  pub same_trees_true : (ss ts : Trees) → same_trees ss ts ≡ true → ss ≡ ts
  same_trees_true none none e = refl
  same_trees_true none (more u us) e = absurd (true_false false e refl)
  same_trees_true (more t ts) none e = absurd (true_false false e refl)
  same_trees_true (more t ts) (more u us) e =
      let r = and_true (same_tree t u) (same_trees ts us) e in ap₂ more (same_tree_true t u r.0) (same_trees_true ts us r.1)

mutual
  unfolding same_tree

  pub same_tree_refl : (t : Tree) → same_tree t t ≡ true
  same_tree_refl (var v) = eq-eqb v v refl
  same_tree_refl (app c ts) = true_and (eqb c c) (same_trees ts ts) (eq-eqb c c refl) (same_trees_refl ts)

  pub same_trees_refl : (ts : Trees) → same_trees ts ts ≡ true
  same_trees_refl none = refl
  same_trees_refl (more t ts) = true_and (same_tree t t) (same_trees ts ts) (same_tree_refl t) (same_trees_refl ts)

pub eq_same_tree : (s t : Tree) → s ≡ t → same_tree s t ≡ true
eq_same_tree s t e = subst (λ z. same_tree s z ≡ true) e (same_tree_refl s)

pub same_tree_false : (s t : Tree) → same_tree s t ≡ false → ¬ (s ≡ t)
same_tree_false s t f e = true_false (same_tree s t) (eq_same_tree s t e) f

pub ne_same_tree : (s t : Tree) → ¬ (s ≡ t) → same_tree s t ≡ false
ne_same_tree s t n = not_true_false (same_tree s t) (λ e. n (same_tree_true s t e))

-- either way
pub tree_cases : (s t : Tree) → ((s ≡ t) × (same_tree s t ≡ true)) ⊎ (¬ (s ≡ t) × (same_tree s t ≡ false))
tree_cases s t = go (same_tree s t) refl
  where
    go : (b : Bool) → same_tree s t ≡ b → ((s ≡ t) × (same_tree s t ≡ true)) ⊎ (¬ (s ≡ t) × (same_tree s t ≡ false))
    go true e = inl (same_tree_true s t e, e)
    go false e = inr (same_tree_false s t e, e)

-- Variables ---------------------------------------------------------------------------------------------------------------------

mutual
  unfolding variables Occ

  pub variables_true : (t : Tree) (v : ℕ) → variables t v ≡ true → Occ v t
  variables_true (var w) v e = eqb-true v w e
  variables_true (app c ts) v e = variables_of_true ts v e

  pub variables_of_true : (ts : Trees) (v : ℕ) → variables_of ts v ≡ true → Occs v ts
  variables_of_true none v e = absurd (true_false false e refl)
  variables_of_true (more t ts) v e = elim (or_true (variables t v) (variables_of ts v) e) [
    | inl p ↦ inl (variables_true t v p)
    | inr p ↦ inr (variables_of_true ts v p)
  ]

mutual
  unfolding variables Occ

  pub occ_variables : (t : Tree) (v : ℕ) → Occ v t → variables t v ≡ true
  occ_variables (var w) v o = eq-eqb v w o
  occ_variables (app c ts) v o = occs_variables_of ts v o

  pub occs_variables_of : (ts : Trees) (v : ℕ) → Occs v ts → variables_of ts v ≡ true
  occs_variables_of none v o = absurd o
  occs_variables_of (more t ts) v (inl o) = true_or (variables t v) (variables_of ts v) (inl (occ_variables t v o))
  occs_variables_of (more t ts) v (inr o) = true_or (variables t v) (variables_of ts v) (inr (occs_variables_of ts v o))

pub variables_false : (t : Tree) (v : ℕ) → variables t v ≡ false → ¬ (Occ v t)
variables_false t v e o = true_false (variables t v) (occ_variables t v o) e

pub variables_of_false : (ts : Trees) (v : ℕ) → variables_of ts v ≡ false → ¬ (Occs v ts)
variables_of_false ts v e o = true_false (variables_of ts v) (occs_variables_of ts v o) e

-- Variables below a number ----------------------------------------------------------------------------------------------------

-- a variable of a tree that is below n
mutual
  unfolding Below Occ

  pub below_occ : (n : ℕ) (t : Tree) → Below n t → (v : ℕ) → Occ v t → v < n
  below_occ n (var w) h v o = subst (λ z. z < n) (sym o) h
  below_occ n (app c ts) h v o = belows_occs n ts h v o

  pub belows_occs : (n : ℕ) (ts : Trees) → Belows n ts → (v : ℕ) → Occs v ts → v < n
  belows_occs n none h v o = absurd o
  belows_occs n (more t ts) h v (inl o) = below_occ n t h.0 v o
  belows_occs n (more t ts) h v (inr o) = belows_occs n ts h.1 v o

-- Open trees --------------------------------------------------------------------------------------------------------------------

mutual
  unfolding is_open Occ

  pub is_open_true : (t : Tree) → is_open t ≡ true → (v : ℕ) × Occ v t
  is_open_true (var w) e = (w, refl)
  is_open_true (app c ts) e = are_open_true ts e

  pub are_open_true : (ts : Trees) → are_open ts ≡ true → (v : ℕ) × Occs v ts
  are_open_true none e = absurd (true_false false e refl)
  are_open_true (more t ts) e = elim (or_true (is_open t) (are_open ts) e) [
    | inl p ↦ let r = is_open_true t p in (r.0, inl r.1)
    | inr p ↦ let r = are_open_true ts p in (r.0, inr r.1)
  ]

mutual
  unfolding is_open Occ

  pub occ_is_open : (t : Tree) (v : ℕ) → Occ v t → is_open t ≡ true
  occ_is_open (var w) v o = refl
  occ_is_open (app c ts) v o = occs_are_open ts v o

  pub occs_are_open : (ts : Trees) (v : ℕ) → Occs v ts → are_open ts ≡ true
  occs_are_open none v o = absurd o
  occs_are_open (more t ts) v (inl o) = true_or (is_open t) (are_open ts) (inl (occ_is_open t v o))
  occs_are_open (more t ts) v (inr o) = true_or (is_open t) (are_open ts) (inr (occs_are_open ts v o))

mutual
  unfolding is_open Ground

  pub is_open_false : (t : Tree) → is_open t ≡ false → Ground t
  is_open_false (var w) e = true_false false (sym e) refl
  is_open_false (app c ts) e = are_open_false ts e

  pub are_open_false : (ts : Trees) → are_open ts ≡ false → Grounds ts
  are_open_false none e = tt
  are_open_false (more t ts) e = (
    is_open_false t (not_true_false (is_open t) (λ p. true_false (are_open (more t ts)) (true_or (is_open t) (are_open ts) (inl p)) e)),
    are_open_false ts (not_true_false (are_open ts) (λ p. true_false (are_open (more t ts)) (true_or (is_open t) (are_open ts) (inr p)) e)),
  )

pub ground_is_open : (t : Tree) → Ground t → is_open t ≡ false
ground_is_open t g = not_true_false (is_open t) (λ e. let r = is_open_true t e in ground_occ t g r.0 r.1)

pub grounds_are_open : (ts : Trees) → Grounds ts → are_open ts ≡ false
grounds_are_open ts g = not_true_false (are_open ts) (λ e. let r = are_open_true ts e in grounds_occs ts g r.0 r.1)

-- One variable replaced -----------------------------------------------------------------------------------------------------------

pub single_cases : (x : ℕ) (u : Tree) (v : ℕ) → ((v ≡ x) × (single x u v ≡ u)) ⊎ (¬ (v ≡ x) × (single x u v ≡ var v))
unfolding single
single_cases x u v = go (ℕ_discrete v x)
  where
    go : Dec (v ≡ x) → ((v ≡ x) × (single x u v ≡ u)) ⊎ (¬ (v ≡ x) × (single x u v ≡ var v))
    go (yes p) = inl (p, rw (eq-eqb v x p, single))
    go (no p) = inr (p, rw (ne_eqb v x p, single))

pub single_same : (x : ℕ) (u : Tree) → single x u x ≡ u
single_same x u = elim (single_cases x u x) [ inl p ↦ p.1 | inr p ↦ absurd (p.0 refl) ]

pub single_other : (x : ℕ) (u : Tree) (v : ℕ) → ¬ (v ≡ x) → single x u v ≡ var v
single_other x u v n = elim (single_cases x u v) [ inl p ↦ absurd (n p.0) | inr p ↦ p.1 ]

-- a tree without x stays
pub single_still : (x : ℕ) (u t : Tree) → ¬ (Occ x t) → sub (single x u) t ≡ t
single_still x u t n = sub_ext (single x u) var t (λ v o. single_other x u v (λ p. n (subst (λ z. Occ z t) p o))) ∙ sub_var t

-- Lists of trees ------------------------------------------------------------------------------------------------------------------

pub among_true : (ts : Trees) (t : Tree) → among ts t ≡ true → Among t ts
unfolding among Among
among_true none t e = true_false false e refl
among_true (more u us) t e = elim (or_true (same_tree u t) (among us t) e) [
  | inl p ↦ inl (sym (same_tree_true u t p))
  | inr p ↦ inr (among_true us t p)
]

pub among_is : (ts : Trees) (t : Tree) → Among t ts → among ts t ≡ true
unfolding among Among
among_is none t i = absurd i
among_is (more u us) t (inl p) = true_or (same_tree u t) (among us t) (inl (eq_same_tree u t (sym p)))
among_is (more u us) t (inr i) = true_or (same_tree u t) (among us t) (inr (among_is us t i))

pub among_false : (ts : Trees) (t : Tree) → among ts t ≡ false → ¬ (Among t ts)
among_false ts t e i = true_false (among ts t) (among_is ts t i) e
