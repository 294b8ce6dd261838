-- Laws of the comparison of bytes. Assumes nothing.
use Rattle.std.specs.Prelude.{◌≡◌, refl, Bool, true, false, ℕ, suc, ◌+◌, ◌≤◌, ◌<◌, List, [], ◌∷◌, eqb, length, get_or, drop}
use Rattle.std.proofs.Common.{sym, ap, ◌∙◌, add-one, drop_of_length-le, drop-cons, eq-eqb, ne_eqb, eqb-true}
use Rattle.rules.specs.Text.{same}

pub same_more : (x y : ℕ) (xs ys : List ℕ) → x ≡ y → same (x ∷ xs) (y ∷ ys) ≡ same xs ys
unfolding same
same_more x y xs ys e = rw (eq-eqb x y e, same)

pub same_not : (x y : ℕ) (xs ys : List ℕ) → (x ≡ y → ⊥) → same (x ∷ xs) (y ∷ ys) ≡ false
unfolding same
same_not x y xs ys e = rw (ne_eqb x y e, same)

pub same_lengths : (xs ys : List ℕ) → (length xs ≡ length ys → ⊥) → same xs ys ≡ false
unfolding same
same_lengths [] [] h = absurd (h refl)
same_lengths [] (y ∷ ys) h = refl
same_lengths (x ∷ xs) [] h = refl
same_lengths (x ∷ xs) (y ∷ ys) h = go (eqb x y) refl (same_lengths xs ys (λ e. h (ap suc e)))
  where
    go : (b : Bool) → eqb x y ≡ b → same xs ys ≡ false → same (x ∷ xs) (y ∷ ys) ≡ false
    go true e k = rw (e, same) k
    go false e k = rw (e, same)

-- at a place of two lists
module _ (s t : List ℕ) (i : ℕ) (h : i < length s) (k : i < length t) where
  pub same_on : get_or s i 0 ≡ get_or t i 0 → same (drop i s) (drop i t) ≡ same (drop (i + 1) s) (drop (i + 1) t)
  same_on e = rw (drop-cons s i 0 h, drop-cons t i 0 k, add-one) (same_more _ _ _ _ e)

  pub same_off : (get_or s i 0 ≡ get_or t i 0 → ⊥) → same (drop i s) (drop i t) ≡ false
  same_off e = rw (drop-cons s i 0 h, drop-cons t i 0 k) (same_not _ _ _ _ e)

pub same_over : (s t : List ℕ) (i : ℕ) → length s ≤ i → length t ≤ i → same (drop i s) (drop i t) ≡ true
unfolding same
same_over s t i h k = rw (drop_of_length-le s h, drop_of_length-le t k)

-- equal names, and names that are not
pub same_self : (xs : List ℕ) → same xs xs ≡ true
unfolding same
same_self [] = refl
same_self (x ∷ xs) = rw (eq-eqb x x refl, same) (same_self xs)

pub same_equal : (xs ys : List ℕ) → same xs ys ≡ true → xs ≡ ys
unfolding same
same_equal [] [] e = refl
same_equal [] (y ∷ ys) e = cc
same_equal (x ∷ xs) [] e = cc
same_equal (x ∷ xs) (y ∷ ys) e = go (eqb x y) refl (same_equal xs ys)
  where
    go : (b : Bool) → eqb x y ≡ b → (same xs ys ≡ true → xs ≡ ys) → x ∷ xs ≡ y ∷ ys
    go true f ih =
        let h : same xs ys ≡ true = sym (same_more x y xs ys (eqb-true x y f)) ∙ e in
        λ i. eqb-true x y f i ∷ ih h i
    go false f ih = let z : same (x ∷ xs) (y ∷ ys) ≡ false = rw (f, same) in cc
