-- The entries of a list by number: of one that has grown, and of one whose entry was replaced. Assumes nothing.
use Prim.Native.Nat.{ℕ, zero, suc, ◌<◌}
use Rattle.std.proofs.Math.Path.{◌≡◌, refl, subst, ap}
use Rattle.std.specs.Prelude.{◌⊎◌, length, Option, Some as some, None as nothing}
use Rattle.std.proofs.Math.Logic.{inl, inr}
use mathlib.Core.List.{List, [], ◌∷◌, ◌++◌}
use native.Mathlib.Omega.{arith}
use Rattle.rules.specs.Out.{ok, found}
use Rattle.rules.specs.Find.{entry, change}
use Rattle.rules.specs.State.{State, Fact}
use Rattle.rules.specs.Reference.{fact_at}
use Rattle.rules.specs.Laws.Theory.{All, empty, both}

module _ {A : Type 0} where
  pub entry_below : (xs : List A) (i : ℕ) (x : A) → entry xs i ≡ some x → i < length xs
  unfolding entry
  entry_below [] i x e = absurd (let z : ◌≡◌ {A = ℕ} 0 1 = cc in omega arith)
  entry_below (y ∷ xs) zero x e = omega arith
  entry_below (y ∷ xs) (suc i) x e = let h = entry_below xs i x e in omega arith

  pub entry_front : (xs ys : List A) (i : ℕ) (x : A) → entry xs i ≡ some x → entry (xs ++ ys) i ≡ some x
  unfolding entry
  entry_front [] ys i x e = absurd (let z : ◌≡◌ {A = ℕ} 0 1 = cc in omega arith)
  entry_front (y ∷ xs) ys zero x e = e
  entry_front (y ∷ xs) ys (suc i) x e = entry_front xs ys i x e

  -- an entry of a list with one more
  pub entry_snoc : (xs : List A) (y : A) (i : ℕ) (x : A) → entry (xs ++ (y ∷ [])) i ≡ some x → (entry xs i ≡ some x) ⊎ ((i ≡ length xs) × (x ≡ y))
  unfolding entry
  entry_snoc [] y zero x e = inr (refl, cc)
  entry_snoc [] y (suc i) x e = absurd (let z : ◌≡◌ {A = ℕ} 0 1 = cc in omega arith)
  entry_snoc (z ∷ xs) y zero x e = inl e
  entry_snoc (z ∷ xs) y (suc i) x e = elim (entry_snoc xs y i x e) [ inl q ↦ inl q | inr q ↦ inr (omega (arith, q.0), q.1) ]

  pub entry_last : (xs : List A) (y : A) → entry (xs ++ (y ∷ [])) (length xs) ≡ some y
  unfolding entry
  entry_last [] y = refl
  entry_last (x ∷ xs) y = entry_last xs y

  -- an entry has what all have
  pub all_entry : {P : A → Type 0} (xs : List A) (i : ℕ) (x : A) → All P xs → entry xs i ≡ some x → P x
  unfolding entry
  all_entry [] i x h e = absurd (let z : ◌≡◌ {A = ℕ} 0 1 = cc in omega arith)
  all_entry {P = P} (y ∷ xs) zero x (both p h) e = let q : y ≡ x = cc in subst P q p
  all_entry (y ∷ xs) (suc i) x (both p h) e = all_entry xs i x h e

  pub change_length : (xs : List A) (k : ℕ) (f : A → A) → length (change xs k f) ≡ length xs
  unfolding change
  change_length [] k f = refl
  change_length (x ∷ xs) zero f = refl
  change_length (x ∷ xs) (suc k) f = ap suc (change_length xs k f)

  pub change_all : {P : A → Type 0} (xs : List A) (k : ℕ) (f : A → A) → ((x : A) → P x → P (f x)) → All P xs → All P (change xs k f)
  unfolding change
  change_all [] k f h a = empty
  change_all (x ∷ xs) zero f h (both p a) = both (h x p) a
  change_all (x ∷ xs) (suc k) f h (both p a) = both p (change_all xs k f h a)

-- the fact that was found
pub fact_entry : {S : Type 0} (Σ : State) (i : ℕ) (s u : S) (f : Fact) → fact_at Σ i s ≡ ok f u → entry Σ.facts i ≡ some f
unfolding fact_at
fact_entry {S} Σ i s u f e = go (entry Σ.facts i) e
  where
    go : (o : Option Fact) → found {S = S} 34 o s ≡ ok f u → o ≡ some f
    go (some g) e = cc
    go nothing e = absurd (let z : ◌≡◌ {A = ℕ} 0 1 = cc in omega arith)
