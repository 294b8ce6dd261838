-- Laws of tables made of rows: the length of a table, the cell at a place, one row more. Assumes nothing.
use Prim.Native.Nat.{ℕ, zero, suc, ◌+◌, ◌-◌, ◌*◌, ◌<◌, ◌≤◌}
use Rattle.std.specs.Prelude.{◌≡◌, take, replicate}
use Rattle.std.proofs.Math.Path.{refl, sym, ap}
use Rattle.std.proofs.Common.{◌∙◌, length-take, take_all}
use mathlib.Core.List.{List, [], ◌∷◌, ◌++◌}
use native.Mathlib.Omega.{arith}
use Rattle.std.proofs.Math.Nat.{mul-suc, mul-zero}
use Rattle.std.proofs.Math.ListN.{length, get_or, length-append}
use Rattle.std.proofs.lemmas.List.{length-replicate}
use Rattle.std.proofs.Math.Seq.{get_or-append-add}
use Rattle.rules.specs.Laws.Find.{get_d_front}
use Rattle.rules.specs.TheoryTables.{filled, rows}

pub append_assoc : {A : Type 0} (xs ys zs : List A) → (xs ++ ys) ++ zs ≡ xs ++ (ys ++ zs)
append_assoc [] ys zs = refl
append_assoc (x ∷ xs) ys zs = ap (λ l. x ∷ l) (append_assoc xs ys zs)

pub append-nil : {A : Type 0} (xs : List A) → xs ++ [] ≡ xs
append-nil [] = refl
append-nil (x ∷ xs) = ap (λ l. x ∷ l) (append-nil xs)

-- a table has its named length, whatever it is filled with
pub length_filled : (n : ℕ) (xs : List ℕ) → length (filled n xs) ≡ n
unfolding filled
length_filled n xs =
    omega (arith, length-append (take n xs) (replicate (n - length xs) 0), length-take n xs, length-replicate {A = ℕ} (n - length xs) 0)

pub filled_fits : (n : ℕ) (xs : List ℕ) → length xs ≤ n → filled n xs ≡ xs ++ replicate (n - length xs) 0
unfolding filled
filled_fits n xs h = ap (λ l. l ++ replicate (n - length xs) 0) (take_all n xs h)

module _ {A : Type 0} (f : A → List ℕ) where
  pub rows_snoc : (xs : List A) (y : A) → rows f (xs ++ (y ∷ [])) ≡ rows f xs ++ f y
  unfolding rows
  rows_snoc [] y = append-nil (f y)
  rows_snoc (x ∷ xs) y = ap (λ l. f x ++ l) (rows_snoc xs y) ∙ sym (append_assoc (f x) (rows f xs) (f y))

  -- rows of w cells each
  module _ (w : ℕ) (h : (x : A) → length (f x) ≡ w) where
    pub length_rows : (xs : List A) → length (rows f xs) ≡ w * length xs
    unfolding rows
    length_rows [] = omega arith
    length_rows (x ∷ xs) = omega (arith, length-append (f x) (rows f xs), h x, length_rows xs, mul-suc w (length xs))

    -- the cell j of entry k
    pub row_cell : (xs : List A) (rest : List ℕ) (k j i : ℕ) (d : A) → k < length xs → j < w → i ≡ w * k + j →
        get_or (rows f xs ++ rest) i 0 ≡ get_or (f (get_or xs k d)) j 0
    unfolding rows
    row_cell [] rest k j i d l m e = absurd (omega arith)
    row_cell (x ∷ xs) rest zero j i d l m e =
        let q : i ≡ j = omega (arith, e, mul-zero w) in
        ap (λ l. get_or l i 0) (append_assoc (f x) (rows f xs) rest) ∙ ap (λ n. get_or (f x ++ (rows f xs ++ rest)) n 0) q
        ∙ get_d_front (f x) (rows f xs ++ rest) j 0 (omega (arith, h x, m))
    row_cell (x ∷ xs) rest (suc k) j i d l m e =
        let q : i ≡ length (f x) + (w * k + j) = omega (arith, e, mul-suc w k, h x) in
        ap (λ l. get_or l i 0) (append_assoc (f x) (rows f xs) rest) ∙ ap (λ n. get_or (f x ++ (rows f xs ++ rest)) n 0) q
        ∙ get_or-append-add (f x) (rows f xs ++ rest) (w * k + j) 0
        ∙ row_cell xs rest k j (w * k + j) d (omega arith) m refl
