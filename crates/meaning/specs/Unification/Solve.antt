-- Binding one variable after the other: what `solve` answers is a most general unifier of the pairs, or rightly that there is none, and
-- the number of bindings suffices. Assumes nothing.
use Rattle.std.specs.Prelude.{◌≡◌, List, length, Option, Some as some, None as nothing}
use Rattle.std.proofs.Math.Path.{refl, sym, ap, subst}
use Rattle.std.proofs.Common.{◌∙◌}
use Rattle.std.proofs.Math.Logic.{inl, inr}
use Prim.Native.Nat.{ℕ, zero, suc, ◌+◌, ◌<◌}
use native.Mathlib.Omega.{arith}
use Rattle.rules.specs.Out.{Out, Act}
use Rattle.rules.specs.Tree.{Tree, sub, single}
use Rattle.rules.specs.Store.{Made}
use Rattle.rules.specs.Unify.{Binding, along, insert, Pair, Found, finished, clashed, bound, weight, outcome, solve}
use Rattle.meaning.specs.Trees.Tree.{Occ, Sig, Sorted, sub_ext, sub_sub, sub_occ, sorted_sub}
use Rattle.meaning.specs.Trees.Tests.{single_cases, single_same}
use Rattle.meaning.specs.Unification.Acts.{Ok, done, stopped, ok_then}
use Rattle.meaning.specs.Unification.List.{Bound, Rises, Settled, along_unbound, rises_length, each_map, replace_ok, extended}
use Rattle.meaning.specs.Unification.List.{along_extended, length_extended, rises_extended, each_extended, settled_extended}
use Rattle.meaning.specs.Unification.Pairs.{Unifies, Absorbs, SortedPairs, Within, WithinPairs}
use Rattle.meaning.specs.Unification.Peel.{SortedBindings, WithinBindings, Binds, Peeled, peel_ok}

-- One binding more ----------------------------------------------------------------------------------------------------------------

module _ (x : ℕ) (u : Tree) (θ : List Binding) (new : ¬ (Bound x θ)) where
  -- u for x changes nothing under a γ that makes them equal
  single_absorbed : (γ : ℕ → Tree) → γ x ≡ sub γ u → (t : Tree) → sub γ (sub (single x u) t) ≡ sub γ t
  unfolding sub
  single_absorbed γ e t = sub_sub γ (single x u) t ∙ sub_ext (λ z. sub γ (single x u z)) γ t (λ z o. point z)
    where
      point : (z : ℕ) → sub γ (single x u z) ≡ γ z
      point z = elim (single_cases x u z) [
        | inl p ↦ ap (sub γ) p.1 ∙ (sym e ∙ ap γ (sym p.0))
        | inr p ↦ ap (sub γ) p.1
      ]

  absorbs_to : (γ : ℕ → Tree) → Absorbs γ (along θ) → γ x ≡ sub γ u → Absorbs γ (along (extended x u θ))
  absorbs_to γ a e v = ap (sub γ) (along_extended x u θ new v) ∙ (single_absorbed γ e (along θ v) ∙ a v)

  absorbs_from : (γ : ℕ → Tree) → Absorbs γ (along (extended x u θ)) → (γ x ≡ sub γ u) × Absorbs γ (along θ)
  unfolding sub
  absorbs_from γ a =
      (at_x, λ v. sym (single_absorbed γ at_x (along θ v)) ∙ (sym (ap (sub γ) (along_extended x u θ new v)) ∙ a v))
    where
      at_x : γ x ≡ sub γ u
      at_x =
          sym (a x)
          ∙ ap (sub γ) (along_extended x u θ new x ∙ (ap (sub (single x u)) (along_unbound θ x new) ∙ single_same x u))

  sorted_extended : (S : Sig) (vs : ℕ → ℕ) → Sorted S vs u (vs x) → SortedBindings S vs θ → SortedBindings S vs (extended x u θ)
  unfolding Sorted
  sorted_extended S vs k b =
      each_extended x u θ new (λ v t. Sorted S vs t (vs v)) (λ v t. Sorted S vs t (vs v)) k
      (λ v t h. sorted_sub S vs vs (single x u) t (vs v) h (λ z o. point z)) b
    where
      point : (z : ℕ) → Sorted S vs (single x u z) (vs z)
      point z = elim (single_cases x u z) [
        | inl p ↦ subst (λ t. Sorted S vs t (vs z)) (sym p.1) (subst (λ y. Sorted S vs u (vs y)) (sym p.0) k)
        | inr p ↦ subst (λ t. Sorted S vs t (vs z)) (sym p.1) refl
      ]

  pub within_extended : (Own : ℕ → Type 0) → Own x × Within Own u → WithinBindings Own θ → WithinBindings Own (extended x u θ)
  unfolding Occ
  within_extended Own k b =
      each_extended x u θ new (λ v t. Own v × Within Own t) (λ v t. Own v × Within Own t) k
      (λ v t h. (h.0, λ w o. let r = sub_occ (single x u) t w o in point t h.1 w r.0 r.1 r.2)) b
    where
      point : (t : Tree) → Within Own t → (w z : ℕ) → Occ z t → Occ w (single x u z) → Own w
      point t h w z oz ow = elim (single_cases x u z) [
        | inl p ↦ k.1 w (subst (λ r. Occ w r) p.1 ow)
        | inr p ↦ subst Own (sym (subst (λ r. Occ w r) p.1 ow)) (h z oz)
      ]

-- The answers ---------------------------------------------------------------------------------------------------------------------

-- a list as `solve` keeps it
pub record Proper (Own : ℕ → Type 0) (θ : List Binding) : Type 0 where
  pub rises : Rises 0 θ
  pub settled : Settled θ
  pub own : WithinBindings Own θ

-- ζ is the most general unifier of the pairs w among what absorbs θ
pub record Mgu (Own : ℕ → Type 0) (θ : List Binding) (w : List Pair) (ζ : List Binding) : Type 0 where
  pub proper : Proper Own ζ
  pub from : (γ : ℕ → Tree) → Absorbs γ (along ζ) → Absorbs γ (along θ) × Unifies γ w
  pub general : (γ : ℕ → Tree) → Absorbs γ (along θ) → Unifies γ w → Absorbs γ (along ζ)
  pub sorts : (S : Sig) (vs : ℕ → ℕ) → SortedBindings S vs θ → SortedPairs S vs w → SortedBindings S vs ζ

-- `nothing` is right where the variables are below n
unfoldable pub Answers : (ℕ → Type 0) → ℕ → List Binding → List Pair → Option (List Binding) → Type 0
Answers Own n θ w (some ζ) = Mgu Own θ w ζ
Answers Own n θ w nothing = ((v : ℕ) → Own v → v < n) → (γ : ℕ → Tree) → Absorbs γ (along θ) → Unifies γ w → ⊥

module _ (Own : ℕ → Type 0) (n : ℕ) where
  module _ (θ : List Binding) (w : List Pair) (x : ℕ) (u : Tree) (v : List Pair) (b : Binds Own θ w x u v) where
    answers_back : (a : Option (List Binding)) → Answers Own n (extended x u θ) v a → Answers Own n θ w a
    unfolding Answers
    answers_back (some ζ) m = record {
      proper = m.proper;
      from = λ γ a.
          let r = m.from γ a in
          let q = absorbs_from x u θ b.unbound γ r.0 in
          (q.1, b.from γ q.1 q.0 r.1);
      general = λ γ a q. let r = b.to γ a q in m.general γ (absorbs_to x u θ b.unbound γ a r.0) r.1;
      sorts = λ S vs c q.
          let r = b.sorts S vs c q in
          m.sorts S vs (sorted_extended x u θ b.unbound S vs r.0 c) r.1;
    }
    answers_back nothing m = λ l γ a q.
        let r = b.to γ a q in m l γ (absorbs_to x u θ b.unbound γ a r.0) r.1

    ok_back : {o : Out Made (Option (List Binding))} → Ok (Answers Own n (extended x u θ) v) o → Ok (Answers Own n θ w) o
    ok_back (done {a} h) = done (answers_back a h)
    ok_back stopped = stopped

    proper_extended : Proper Own θ → Proper Own (extended x u θ)
    proper_extended p = record {
      rises = rises_extended x u θ b.unbound p.rises;
      settled = settled_extended x u θ b.unbound p.settled b.absent b.free;
      own = within_extended x u θ b.unbound Own b.own p.own;
    }

  -- k and the bindings there are together exceed the variables
  abbrev Enough : ℕ → List Binding → Type 0
  Enough k θ = ((v : ℕ) → Own v → v < n) → n < k + length θ

  outcome_ok : (k : ℕ) (go : List Binding → List Pair → Act Made (Option (List Binding)))
      → ((ζ : List Binding) (v : List Pair) → Proper Own ζ → WithinPairs Own v → Enough k ζ → (m : Made) → Ok (Answers Own n ζ v) (go ζ v m))
      → (θ : List Binding) (w : List Pair) → Proper Own θ → Enough (suc k) θ
      → (f : Found) → Peeled Own θ w f → (m : Made) → Ok (Answers Own n θ w) (outcome go θ f m)
  unfolding outcome Peeled Answers extended
  outcome_ok k go rec θ w p l finished h m =
      done {a = some θ} (record { proper = p; from = λ γ a. (a, h γ a); general = λ γ a q. a; sorts = λ S vs b q. b })
  outcome_ok k go rec θ w p l clashed h m = done {a = nothing} (λ _. h)
  outcome_ok k go rec θ w p l (bound x u v) h m =
      ok_then (replace_ok x u θ m) (λ ζ m' e.
      subst (λ z. Ok (Answers Own n θ w) (go (insert (record { variable = x; value = u }) z) v m')) (sym e)
      (ok_back θ w x u v h
      (rec (extended x u θ) v (proper_extended θ w x u v h p) h.rest
      (λ i. let j = l i in let q = length_extended x u θ h.unbound in omega arith) m')))

  pub solve_ok : (k : ℕ) (θ : List Binding) (w : List Pair) → Proper Own θ → WithinPairs Own w → Enough k θ → (m : Made)
      → Ok (Answers Own n θ w) (solve k θ w m)
  unfolding solve Answers
  solve_ok zero θ w p i l m =
      done {a = nothing} (λ j.
      let q = rises_length 0 n θ p.rises (each_map (λ v t. Own v × Within Own t) (λ v t. v < n) θ (λ v t h. j v h.0) p.own) (omega arith) in
      let r = l j in let z : ⊥ = omega arith in absurd z)
  solve_ok (suc k) θ w p i l m =
      ok_then (peel_ok Own θ p.settled p.own (suc (weight θ w)) w (omega arith) i m) (λ f m' h.
      outcome_ok k (λ ζ v. solve k ζ v) (λ ζ v a b c m''. solve_ok k ζ v a b c m'') θ w p l f h m')
