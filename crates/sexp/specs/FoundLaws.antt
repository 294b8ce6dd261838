-- Laws for those who look names up: what an answer says of the definition's look-up. Assumes nothing.
use Rattle.std.proofs.Math.Path.{◌≡◌, refl, sym, ap}
use Rattle.std.proofs.Common.{◌∙◌, arith}
use Prim.Native.Nat.{ℕ, zero, suc, ◌+◌, ◌-◌, ◌<◌, ◌≤◌}
use Rattle.std.proofs.Math.Decide.{dec_lt}
use Rattle.std.specs.Prelude.{Bool, length, get_or, drop, MatchOption, Option, Some as some, None as nothing}
use Rattle.std.proofs.Math.Bool.{true, false}
use mathlib.Core.List.{List, [], ◌∷◌}
use Rattle.rules.specs.Text.{same}
use Rattle.rules.specs.Find.{first}
use Rattle.rules.specs.Laws.Find.{first_some, first_here, first_later, first_over}
use Rattle.rules.specs.Sexp.{Name}
use Rattle.rules.specs.Theory.{no_name}
use Rattle.sexp.specs.NameRows.{NameRows}

pub found_at : (o : Option ℕ) (r : Option ℕ) (k : ℕ) → r ≡ o → r ≡ some k → o ≡ some k
found_at o r k a b = sym a ∙ b

pub found_missing : (o : Option ℕ) (r : Option ℕ) → r ≡ o → r ≡ nothing → o ≡ nothing
found_missing o r a b = sym a ∙ b

-- what is found is one of the entries, and passes
pub record FoundEntry {A : Type 0} (p : A → Bool) (xs : List A) (i : ℕ) (d : A) : Type 0 where
  pub inside : i < length xs
  pub passes : p (get_or xs i d) ≡ true

pub found_entry : {A : Type 0} (p : A → Bool) (xs : List A) (d : A) (r : Option ℕ) (i : ℕ) → r ≡ (first p xs 0) → r ≡ some i → FoundEntry p xs i d
found_entry p xs d r i a b =
    let f = first_some p xs 0 i d (found_at (first p xs 0) r i a b) in
    let z : f.place ≡ i = omega (arith, f.is) in
    record { inside = omega (arith, z, f.inside); passes = rw z at f.passes }

pub found_inside : (name : List ℕ) (ns : List Name) (r : Option ℕ) (i : ℕ) → r ≡ (first (λ n. same n.bytes name) ns 0) → r ≡ some i → i < length ns
found_inside name ns r i a b = (found_entry (λ (n : Name). same n.bytes name) ns no_name r i a b).inside

-- The names of things in a list -----------------------------------------------------------------------------------------------------

unfoldable pub names_of : {A : Type 0} → (A → Name) → List A → List Name
names_of f [] = []
names_of f (x ∷ xs) = f x ∷ names_of f xs

module _ {A : Type 0} (f : A → Name) where
  pub length_names : (xs : List A) → length (names_of f xs) ≡ length xs
  unfolding names_of
  length_names [] = refl
  length_names (x ∷ xs) = ap suc (length_names xs)

  pub name_of : (xs : List A) (k : ℕ) (d : A) → f d ≡ no_name → get_or (names_of f xs) k no_name ≡ f (get_or xs k d)
  unfolding names_of
  name_of [] k d e = sym e
  name_of (x ∷ xs) zero d e = refl
  name_of (x ∷ xs) (suc k) d e = name_of xs k d e

  pub first_name : (xs : List A) (n : List ℕ) (k : ℕ) → first (λ x. same (f x).bytes n) xs k ≡ first (λ m. same m.bytes n) (names_of f xs) k
  unfolding names_of first
  first_name [] n k = refl
  first_name (x ∷ xs) n k = go (same (f x).bytes n) (first_name xs n (suc k))
    where
      go : (b : Bool) → first (λ y. same (f y).bytes n) xs (suc k) ≡ first (λ m. same m.bytes n) (names_of f xs) (suc k) →
          ◌≡◌ {A = Option ℕ} (elim b [ true ↦ some k | false ↦ first (λ y. same (f y).bytes n) xs (suc k) ])
          (elim b [ true ↦ some k | false ↦ first (λ m. same m.bytes n) (names_of f xs) (suc k) ])
      go true e = refl
      go false e = e

-- what `named` answers, of things by their names
pub named_so : {A : Type 0} (f : A → Name) (xs : List A) {text table : List ℕ} {w o count : ℕ} (name : List ℕ) (r : Option ℕ) →
    ((ns : List Name) → NameRows text table w o count ns → r ≡ (first (λ n. same n.bytes name) ns 0)) →
    NameRows text table w o count (names_of f xs) →
    r ≡ (first (λ x. same (f x).bytes name) xs 0)
named_so f xs name r a h = a (names_of f xs) h ∙ (sym (first_name f xs name 0))

-- A search over numbers, as `find` answers it, where what is said of a number decides the test of the entry there --------------------

module _ {A : Type 0} (p : A → Bool) (xs : List A) (d : A) (from : ℕ) {count : ℕ} (many : length xs ≡ count) (Yes No : ℕ → Type 0)
    (passes : (k : ℕ) → k < count → Yes k → p (get_or xs k d) ≡ true) (fails : (k : ℕ) → k < count → No k → p (get_or xs k d) ≡ false) where
  passed_over : (n : ℕ) → from + n ≤ count → ((k : ℕ) → from ≤ k → k < from + n → No k) → first p (drop from xs) from ≡ first p (drop (from + n) xs) (from + n)
  passed_over zero l h = ap (λ (k : ℕ). first p (drop k xs) k) (omega arith)
  passed_over (suc n) l h =
      passed_over n (omega arith) (λ k a b. h k a (omega arith))
      ∙ first_later p xs (from + n) d (omega (arith, l, many)) (fails (from + n) (omega arith) (h (from + n) (omega arith) (omega arith)))
      ∙ ap (λ (k : ℕ). first p (drop k xs) k) (omega arith)

  pub first_is : (r : Option ℕ)
      → MatchOption r ((k : ℕ) → from ≤ k → k < count → No k) (λ i. (from ≤ i) × (i < count) × Yes i × ((k : ℕ) → from ≤ k → k < i → No k))
      → r ≡ first p (drop from xs) from
  first_is nothing h =
      elim (dec_lt count from) [
        | yes l ↦ sym (first_over p xs from (omega (arith, l, many)))
        | no l ↦
            let e : from + (count - from) ≡ count = omega arith in
            sym (passed_over (count - from) (omega arith) (λ k a b. h k a (omega (arith, b, e)))
            ∙ ap (λ (k : ℕ). first p (drop k xs) k) e ∙ first_over p xs count (omega (arith, many)))
      ]
  first_is (some i) h =
      let e : from + (i - from) ≡ i = omega (arith, h.0) in
      sym (passed_over (i - from) (omega (arith, h.1, e)) (λ k a b. h.3 k a (omega (arith, b, e)))
      ∙ ap (λ (k : ℕ). first p (drop k xs) k) e ∙ first_here p xs i d (omega (arith, h.1, many)) (passes i h.1 h.2))
