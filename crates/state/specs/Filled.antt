-- Tables that hold their first cells and zero behind, as they are read and written: a cell, a part, cells more, cells less. Assumes nothing.
use Rattle.std.specs.Prelude.{◌≡◌, refl, ℕ, zero, suc, ◌+◌, ◌-◌, ◌<◌, ◌≤◌, List, [], ◌++◌, length, get_or, take, drop, set, replicate}
use Rattle.std.proofs.Common.{sym, ap, ◌∙◌, append_assoc, append-nil, arith, length-append, length-drop, length-set, drop_of_length-le, take_at, drop_at, get_or-append-add}
use Rattle.std.proofs.Math.Decide.{dec_lt}
use Rattle.std.proofs.lemmas.List.{length-replicate, replicate-append-replicate, take-append-le, drop-append-le, set-append_left}
use Rattle.std.proofs.Math.ListN.{get_or-eq_default, get_or-append}
use Rattle.std.proofs.lemmas.List.Edits.{sets, sets-eq}
use Rattle.std.proofs.Math.Seq.{drop-append-add}
use Rattle.rules.specs.TheoryTables.{filled}
use Rattle.rules.specs.Laws.Row.{filled_fits}
use Rattle.terms.specs.Laws.Zeros.{get_d_zeros}

-- Zeros --------------------------------------------------------------------------------------------------------------------------

pub drop_zeros : (k n : ℕ) → ◌≡◌ {A = List ℕ} (drop k (replicate n 0)) (replicate (n - k) 0)
drop_zeros zero n = ap (λ m. replicate m 0) (let e : n ≡ n - 0 = omega arith in e)
drop_zeros (suc k) zero = ap (λ m. replicate m 0) (let e : 0 ≡ 0 - suc k = omega arith in e)
drop_zeros (suc k) (suc n) = drop_zeros k n ∙ ap (λ m. replicate m 0) (let e : n - k ≡ suc n - suc k = omega arith in e)

-- an empty table
pub filled_none : (N : ℕ) → filled N [] ≡ replicate N 0
filled_none N = filled_fits N [] (omega arith) ∙ ap (λ m. replicate m 0) (let e : N - 0 ≡ N = omega arith in e)

module _ (N : ℕ) (xs : List ℕ) (h : length xs ≤ N) where
  -- Reading --------------------------------------------------------------------------------------------------------------------

  -- a cell: those of the front, and 0 behind, which is what get_or gives there
  pub filled_at : (i : ℕ) → get_or (filled N xs) i 0 ≡ get_or xs i 0
  filled_at i = ap (λ l. get_or l i 0) (filled_fits N xs h) ∙ elim (dec_lt i (length xs)) [
    | yes p ↦ get_or-append xs (replicate (N - length xs) 0) 0 i p
    | no q ↦
        let e : i ≡ length xs + (i - length xs) = omega arith in
        ap (λ j. get_or (xs ++ replicate (N - length xs) 0) j 0) e ∙ get_or-append-add xs (replicate (N - length xs) 0) (i - length xs) 0
        ∙ get_d_zeros (N - length xs) (i - length xs) ∙ sym (get_or-eq_default xs 0 {n = i} (omega arith))
  ]

  -- a part of the front
  pub filled_part : (a n : ℕ) → a + n ≤ length xs → take n (drop a (filled N xs)) ≡ take n (drop a xs)
  filled_part a n l =
      ap (λ l. take n (drop a l)) (filled_fits N xs h) ∙ ap (take n) (drop-append-le a xs (replicate (N - length xs) 0) (omega arith))
      ∙ take-append-le n (drop a xs) (replicate (N - length xs) 0) (omega (arith, length-drop a xs))

  pub filled_front : take (length xs) (filled N xs) ≡ xs
  filled_front = ap (take (length xs)) (filled_fits N xs h) ∙ take_at xs (replicate (N - length xs) 0) (length xs) refl

  -- Writing --------------------------------------------------------------------------------------------------------------------

  -- one cell of the front anew
  pub filled_set : (i v : ℕ) → i < length xs → set (filled N xs) i v ≡ filled N (set xs i v)
  filled_set i v l =
      let e = length-set xs i v in
      ap (λ l. set l i v) (filled_fits N xs h) ∙ set-append_left xs (replicate (N - length xs) 0) i v l
      ∙ ap (λ n. set xs i v ++ replicate (N - n) 0) (sym e) ∙ sym (filled_fits N (set xs i v) (omega (arith, e)))

  -- cells more
  pub filled_more : (at : ℕ) (row : List ℕ) → at ≡ length xs → length xs + length row ≤ N → sets (filled N xs) at row ≡ filled N (xs ++ row)
  filled_more at row e l =
      let z : List ℕ = replicate (N - length xs) 0 in
      let n = length-append xs z in
      let m = length-replicate {A = ℕ} (N - length xs) 0 in
      let k = length-append xs row in
      ap (λ l. sets l at row) (filled_fits N xs h) ∙ ap (λ i. sets (xs ++ z) i row) e
      ∙ sets-eq row (xs ++ z) (length xs) (omega arith)
      ∙ ap (λ l. l ++ row ++ drop (length xs + length row) (xs ++ z)) (take_at xs z (length xs) refl)
      ∙ ap (λ l. xs ++ row ++ l) (drop-append-add xs z (length row) ∙ drop_zeros (length row) (N - length xs)
      ∙ ap (λ m. replicate m 0) (let e : N - length xs - length row ≡ N - length (xs ++ row) = omega arith in e))
      ∙ sym (filled_fits N (xs ++ row) (omega arith))

-- cells more that are zero leave a table as it is
pub filled_zeros : (N : ℕ) (xs : List ℕ) (k : ℕ) → length xs + k ≤ N → filled N (xs ++ replicate k 0) ≡ filled N xs
filled_zeros N xs k h =
    let n = length-append xs (replicate k 0) in
    let m = length-replicate {A = ℕ} k 0 in
    filled_fits N (xs ++ replicate k 0) (omega arith) ∙ append_assoc xs (replicate k 0) (replicate (N - length (xs ++ replicate k 0)) 0)
    ∙ ap (λ l. xs ++ l) (replicate-append-replicate k (N - length (xs ++ replicate k 0)) 0
    ∙ ap (λ m. replicate m 0) (let e : k + (N - length (xs ++ replicate k 0)) ≡ N - length xs = omega arith in e))
    ∙ sym (filled_fits N xs (omega arith))

-- Back -----------------------------------------------------------------------------------------------------------------------------

module _ (N : ℕ) (xs ys : List ℕ) (h : length xs + length ys ≤ N) where
  both_fit : length (xs ++ ys) ≤ N
  both_fit = omega (arith, length-append xs ys)

  -- what stood there before cells came
  pub filled_take : take (length xs) (filled N (xs ++ ys)) ≡ xs
  filled_take =
      ap (take (length xs)) (filled_fits N (xs ++ ys) both_fit ∙ append_assoc xs ys (replicate (N - length (xs ++ ys)) 0))
      ∙ take_at xs (ys ++ replicate (N - length (xs ++ ys)) 0) (length xs) refl

  -- zero from a place on
  pub filled_back : (at : ℕ) → at ≡ length xs → take at (filled N (xs ++ ys)) ++ replicate (N - at) 0 ≡ filled N xs
  filled_back at e =
      ap (λ k. take k (filled N (xs ++ ys)) ++ replicate (N - k) 0) e ∙ ap (λ l. l ++ replicate (N - length xs) 0) filled_take
      ∙ sym (filled_fits N xs (omega arith))

  -- the cells themselves set to zero
  pub filled_less : (at : ℕ) → at ≡ length xs → sets (filled N (xs ++ ys)) at (replicate (length ys) 0) ≡ filled N xs
  filled_less at e =
      let z : List ℕ = replicate (N - length (xs ++ ys)) 0 in
      let n = length-append xs ys in
      let m = length-replicate {A = ℕ} (N - length (xs ++ ys)) 0 in
      let o = length-replicate {A = ℕ} (length ys) 0 in
      let w = length (replicate {A = ℕ} (length ys) 0) in
      let p = length-append ys z in
      let q = length-append xs (ys ++ z) in
      ap (λ i. sets (filled N (xs ++ ys)) i (replicate (length ys) 0)) e
      ∙ ap (λ l. sets l (length xs) (replicate (length ys) 0)) (filled_fits N (xs ++ ys) both_fit ∙ append_assoc xs ys z)
      ∙ sets-eq (replicate (length ys) 0) (xs ++ (ys ++ z)) (length xs) (omega arith)
      ∙ ap (λ l. l ++ replicate (length ys) 0 ++ drop (length xs + w) (xs ++ (ys ++ z))) (take_at xs (ys ++ z) (length xs) refl)
      ∙ ap (λ l. xs ++ replicate (length ys) 0 ++ l) (drop-append-add xs (ys ++ z) w ∙ drop_at ys z w (sym o))
      ∙ append_assoc xs (replicate (length ys) 0) z ∙ ap (λ l. xs ++ l) (replicate-append-replicate (length ys) (N - length (xs ++ ys)) 0
      ∙ ap (λ m. replicate m 0) (let e : length ys + (N - length (xs ++ ys)) ≡ N - length xs = omega arith in e))
      ∙ sym (filled_fits N xs (omega arith))

-- a part that was cleared: what `clear` leaves of a table whose tail is lent to it
pub tail_cleared : (N : ℕ) (table : List ℕ) (at : ℕ) → length table ≡ N → at ≤ N →
    take at table ++ (replicate (N - at) 0 ++ drop (N - at) (drop at table)) ≡ take at table ++ replicate (N - at) 0
tail_cleared N table at e l =
    ap (λ l. take at table ++ (replicate (N - at) 0 ++ l)) (drop_of_length-le (drop at table) {i = N - at} (omega (arith, length-drop at table)))
    ∙ ap (λ l. take at table ++ l) (append-nil (replicate (N - at) 0))
