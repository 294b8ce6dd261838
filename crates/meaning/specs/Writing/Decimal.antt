-- Numbers in decimal digits, and that they are read back as indices. Assumes nothing.
use Rattle.std.specs.Prelude.{ℕ, zero, suc, ◌+◌, ◌-◌, ◌*◌, ◌^◌, ◌≤◌, ◌<◌, ◌≡◌, refl, Bool, true, false, ◌&&◌, List, [], ◌∷◌, leb, ltb, length, Option, Some as some, None as nothing}
use Rattle.std.proofs.Common.{arith, sym, ◌∙◌, ap, ap₂, subst, ltb-true, ltb-false, leb-true, le-leb, lt-ltb, ne_eqb}
use Rattle.rules.specs.Text.{bytes}
use Rattle.rules.specs.Index.{digit, digits, value, unsigned, index_of}
use Rattle.meaning.specs.Trees.Tests.{and_true}
use Rattle.meaning.specs.Bridge.Asked.{both_true}

-- one more, where the digits stand from the last to the first
unfoldable pub bump : List ℕ → List ℕ
bump [] = 49 ∷ []
bump (d ∷ ds) = elim (ltb d 57) [ true ↦ suc d ∷ ds | false ↦ 48 ∷ bump ds ]

unfoldable pub backward : ℕ → List ℕ
backward zero = 48 ∷ []
backward (suc n) = bump (backward n)

-- turned round, in front of others
unfoldable pub turned : List ℕ → List ℕ → List ℕ
turned [] bs = bs
turned (d ∷ ds) bs = turned ds (d ∷ bs)

unfoldable pub decimal : ℕ → List ℕ
decimal n = turned (backward n) []

hundred_three : decimal 103 ≡ bytes "103"
unfolding decimal turned backward bump
hundred_three = refl

-- Digits --------------------------------------------------------------------------------------------------------------------------

unfoldable pub Digits : List ℕ → Type 0
Digits [] = Unit {0}
Digits (d ∷ ds) = (48 ≤ d) × (d ≤ 57) × Digits ds

is_digit : (d : ℕ) → 48 ≤ d → d ≤ 57 → digit d ≡ true
unfolding digit
is_digit d l h = ap₂ ◌&&◌ (le-leb 48 d l) (le-leb d 57 h)

bump_digits : (ds : List ℕ) → Digits ds → Digits (bump ds)
unfolding bump Digits
bump_digits [] h = (omega arith, omega arith, tt)
bump_digits (d ∷ ds) h = go (ltb d 57) refl (bump_digits ds h.2)
  where
    go : (b : Bool) → ltb d 57 ≡ b → Digits (bump ds) → Digits (elim b as (λ _. List ℕ) [ true ↦ suc d ∷ ds | false ↦ 48 ∷ bump ds ])
    go true e k = let l = ltb-true d 57 e in let m = h.0 in (omega arith, omega arith, h.2)
    go false e k = (omega arith, omega arith, k)

backward_digits : (n : ℕ) → Digits (backward n)
unfolding backward Digits
backward_digits zero = (omega arith, omega arith, tt)
backward_digits (suc n) = bump_digits (backward n) (backward_digits n)

turned_digits : (ds bs : List ℕ) → Digits ds → digits bs ≡ true → digits (turned ds bs) ≡ true
unfolding turned Digits digits
turned_digits [] bs h e = e
turned_digits (d ∷ ds) bs h e =
    turned_digits ds (d ∷ bs) h.2 (ap (λ b. elim b as (λ _. Bool) [ true ↦ digits bs | false ↦ false ]) (is_digit d h.0 h.1) ∙ e)

-- Values --------------------------------------------------------------------------------------------------------------------------

weight : List ℕ → ℕ
weight [] = 0
weight (d ∷ ds) = weight ds * 10 + (d - 48)

bump_weight : (ds : List ℕ) → Digits ds → weight (bump ds) ≡ suc (weight ds)
unfolding bump Digits weight
bump_weight [] h = refl
bump_weight (d ∷ ds) h = go (ltb d 57) refl (bump_weight ds h.2)
  where
    go : (b : Bool) → ltb d 57 ≡ b → weight (bump ds) ≡ suc (weight ds)
        → weight (elim b as (λ _. List ℕ) [ true ↦ suc d ∷ ds | false ↦ 48 ∷ bump ds ]) ≡ suc (weight ds * 10 + (d - 48))
    go true e k = let m = h.0 in omega arith
    go false e k = let l = ltb-false d 57 e in let m = h.1 in omega arith

backward_weight : (n : ℕ) → weight (backward n) ≡ n
unfolding backward weight
backward_weight zero = refl
backward_weight (suc n) = bump_weight (backward n) (backward_digits n) ∙ ap suc (backward_weight n)

turned_value : (ds bs : List ℕ) → value 0 (turned ds bs) ≡ value (weight ds) bs
unfolding turned value weight
turned_value [] bs = refl
turned_value (d ∷ ds) bs = turned_value ds (d ∷ bs)

-- Reading -------------------------------------------------------------------------------------------------------------------------

bump_long : (ds : List ℕ) → 1 ≤ length (bump ds)
unfolding bump
bump_long [] = omega arith
bump_long (d ∷ ds) = go (ltb d 57)
  where
    go : (b : Bool) → 1 ≤ length {A = ℕ} (elim b as (λ _. List ℕ) [ true ↦ suc d ∷ ds | false ↦ 48 ∷ bump ds ])
    go true = omega arith
    go false = omega arith

backward_long : (n : ℕ) → 1 ≤ length (backward n)
unfolding backward
backward_long zero = omega arith
backward_long (suc n) = bump_long (backward n)

turned_long : (ds bs : List ℕ) → length (turned ds bs) ≡ length ds + length bs
unfolding turned
turned_long [] bs = omega arith
turned_long (d ∷ ds) bs = let h = turned_long ds (d ∷ bs) in omega arith

first_digit : (b : ℕ) (bs : List ℕ) → digits (b ∷ bs) ≡ true → 48 ≤ b
unfolding digits digit
first_digit b bs e = leb-true 48 b (both_true (leb 48 b) (leb b 57) (and_true (digit b) (digits bs) e).0).0

digits_read : (bs : List ℕ) → 1 ≤ length bs → digits bs ≡ true → value 0 bs < 2 ^ 64 → index_of bs ≡ some (value 0 bs)
unfolding index_of unsigned
digits_read [] l e h = absurd (let z : ⊥ = omega arith in z)
digits_read (b ∷ bs) l e h =
    ap (λ z. elim z as (λ _. Option ℕ) [ true ↦ unsigned bs | false ↦ unsigned (b ∷ bs) ]) (ne_eqb b 43 (λ q. let z = first_digit b bs e in omega arith))
    ∙ ap (λ z. elim z as (λ _. Option ℕ) [ true ↦ some (value 0 (b ∷ bs)) | false ↦ nothing ]) (ap₂ ◌&&◌ e (lt-ltb (value 0 (b ∷ bs)) (2 ^ 64) h))

-- an index in decimal digits is read as itself
pub decimal_read : (n : ℕ) → n < 2 ^ 64 → index_of (decimal n) ≡ some n
unfolding decimal value digits
decimal_read n h =
    let v : value 0 (turned (backward n) []) ≡ n = turned_value (backward n) [] ∙ backward_weight n in
    digits_read (turned (backward n) []) (let a = turned_long (backward n) [] in let b = backward_long n in omega arith)
    (turned_digits (backward n) [] (backward_digits n) refl) (subst (λ z. z < 2 ^ 64) (sym v) h) ∙ ap some v

-- it is of digits alone, at least one
turned_all : (ds bs : List ℕ) → Digits ds → Digits bs → Digits (turned ds bs)
unfolding turned Digits
turned_all [] bs h k = k
turned_all (d ∷ ds) bs h k = turned_all ds (d ∷ bs) h.2 (h.0, h.1, k)

pub decimal_digits : (n : ℕ) → Digits (decimal n)
unfolding decimal Digits
decimal_digits n = turned_all (backward n) [] (backward_digits n) tt

pub decimal_long : (n : ℕ) → 1 ≤ length (decimal n)
unfolding decimal
decimal_long n = let a = turned_long (backward n) [] in let b = backward_long n in omega arith
