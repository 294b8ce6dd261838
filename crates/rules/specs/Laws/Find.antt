-- What `first` finds, and the entries of a list that has grown. Assumes nothing.
use Prim.Native.Nat.{ℕ, zero, suc, ◌+◌, ◌<◌, ◌≤◌}
use Rattle.std.proofs.Math.Path.{◌≡◌, refl}
use Rattle.std.specs.Prelude.{Bool, length, get_or, drop, Option, Some as some, None as nothing}
use Rattle.std.proofs.Math.Bool.{true, false}
use mathlib.Core.List.{List, [], ◌∷◌, ◌++◌}
use Rattle.std.proofs.Common.{arith, add-one, drop_of_length-le, drop-cons}
use Rattle.rules.specs.Find.{first}

module _ {A : Type 0} where
  -- what `first` finds
  pub record First (p : A → Bool) (xs : List A) (k i : ℕ) (d : A) : Type 0 where
    pub place : ℕ
    pub is : i ≡ k + place
    pub inside : place < length xs
    pub passes : p (get_or xs place d) ≡ true

  pub first_some : (p : A → Bool) (xs : List A) (k i : ℕ) (d : A) → first p xs k ≡ some i → First p xs k i d
  unfolding first
  first_some p [] k i d e = absurd (let z : ◌≡◌ {A = ℕ} 0 1 = cc in omega arith)
  first_some p (x ∷ xs) k i d e = go (p x) refl e (first_some p xs (suc k) i d)
    where
      go : (b : Bool) → p x ≡ b → elim b [ true ↦ some k | false ↦ first p xs (suc k) ] ≡ some i →
          (first p xs (suc k) ≡ some i → First p xs (suc k) i d) → First p (x ∷ xs) k i d
      go true q f h = let z : k ≡ i = cc in record { place = 0; is = omega arith; inside = omega arith; passes = q }
      go false q f h =
          let r = h f in
          record { place = suc r.place; is = omega (arith, r.is); inside = omega (arith, r.inside); passes = r.passes }

  pub get_d_front : (xs ys : List A) (i : ℕ) (d : A) → i < length xs → get_or (xs ++ ys) i d ≡ get_or xs i d
  get_d_front [] ys i d l = absurd (omega arith)
  get_d_front (x ∷ xs) ys zero d l = refl
  get_d_front (x ∷ xs) ys (suc i) d l = get_d_front xs ys i d (omega arith)

  -- a search that stands at a place
  module _ (p : A → Bool) (xs : List A) (i : ℕ) where
    pub first_here : (d : A) → i < length xs → p (get_or xs i d) ≡ true → first p (drop i xs) i ≡ some i
    unfolding first
    first_here d h e = rw (drop-cons xs i d h, e, first)

    pub first_later : (d : A) → i < length xs → p (get_or xs i d) ≡ false → first p (drop i xs) i ≡ first p (drop (i + 1) xs) (i + 1)
    unfolding first
    first_later d h e = rw (drop-cons xs i d h, e, first, add-one)

    pub first_over : length xs ≤ i → first p (drop i xs) i ≡ nothing
    unfolding first
    first_over h = rw (drop_of_length-le xs h)

-- Counting from another number ------------------------------------------------------------------------------------------------------

-- one further
unfoldable pub next : Option ℕ → Option ℕ
next nothing = nothing
next (some k) = some (suc k)

pub first_next : {A : Type 0} (p : A → Bool) (xs : List A) (k : ℕ) → first p xs (suc k) ≡ next (first p xs k)
unfolding first next
first_next p [] k = refl
first_next p (x ∷ xs) k = go (p x) (first_next p xs (suc k))
  where
    go : (b : Bool) → first p xs (suc (suc k)) ≡ next (first p xs (suc k)) →
        elim b [ true ↦ some (suc k) | false ↦ first p xs (suc (suc k)) ] ≡ next (elim b [ true ↦ some k | false ↦ first p xs (suc k) ])
    go true h = refl
    go false h = h
