-- Records written as rows in front of cells: none yet, and one more. Assumes nothing.
use mathlib.Core.Path.{◌≡◌, sym, ap, ◌∙◌}
use Prim.Native.Nat.{ℕ, suc, ◌+◌, ◌*◌, ◌<◌, ◌≤◌}
use native.Mathlib.Omega.{arith}
use native.Mathlib.Nat.{mul-suc, mul-zero}
use native.Mathlib.Numerals.{add-one}
use mathlib.Core.List.{List, ◌++◌}
use lib.ListN.{length, get_or, take, drop, length-append, length-drop}
use lib.Seq.{sets, sets-eq, length-take-le, take-suc, take_at, drop-drop, drop-append-add}
use Rattle.rules.specs.TheoryTables.{rows}
use Rattle.rules.specs.Laws.Row.{rows_snoc, length_rows}
use Rattle.facts.specs.declared.Fact.{Fact}
use Rattle.facts.specs.Table.{blank}

at_zero : (f : Fact → List ℕ) (w : ℕ) (fs : List Fact) (cells : List ℕ) → cells ≡ rows f (take 0 fs) ++ drop (w * 0) cells
unfolding rows
at_zero f w fs cells = ap (λ k. drop k cells) (sym (mul-zero w))

pub none_yet : (f : Fact → List ℕ) (w : ℕ) (fs : List Fact) (cells : List ℕ) (n : ℕ) → n ≡ 0 → cells ≡ rows f (take n fs) ++ drop (w * n) cells
none_yet f w fs cells n e = at_zero f w fs cells ∙ ap (λ k. rows f (take k fs) ++ drop (w * k) cells) (sym e)

module _ (f : Fact → List ℕ) (w : ℕ) (h : (x : Fact) → length (f x) ≡ w) (fs : List Fact) (i : ℕ) (cells : List ℕ) (l : i < length fs)
    (room : w * i + w ≤ length cells) where
  abbrev front : List ℕ
  front = rows f (take i fs)

  abbrev row : List ℕ
  row = f (get_or fs i blank)

  front_length : length front ≡ w * i
  front_length = length_rows f w h (take i fs) ∙ ap (λ k. w * k) (length-take-le i fs (omega (arith, l)))

  behind : drop (w * i + length row) (front ++ drop (w * i) cells) ≡ drop (w * i + length row) cells
  behind =
      ap (λ k. drop (k + length row) (front ++ drop (w * i) cells)) (sym front_length) ∙ drop-append-add front (drop (w * i) cells) (length row)
      ∙ drop-drop (length row) (w * i) cells

  longer : front ++ row ≡ rows f (take (i + 1) fs)
  longer = sym (ap (λ k. rows f (take k fs)) (add-one i) ∙ ap (rows f) (take-suc fs i blank l) ∙ rows_snoc f (take i fs) (get_or fs i blank))

  next_place : w * i + length row ≡ w * (i + 1)
  next_place = let z : w * i + length row ≡ w * suc i = omega (arith, h (get_or fs i blank), mul-suc w i) in z ∙ ap (λ k. w * k) (sym (add-one i))

  fits : w * i + length row ≤ length (front ++ drop (w * i) cells)
  fits =
      omega (arith, length-append front (drop (w * i) cells), front_length, length-drop (w * i) cells, h (get_or fs i blank), room)

  pub row_more : (now : List ℕ) → now ≡ front ++ drop (w * i) cells → sets now (w * i) row ≡ rows f (take (i + 1) fs) ++ drop (w * (i + 1)) cells
  row_more now e =
      ap (λ t. sets t (w * i) row) e ∙ sets-eq row (front ++ drop (w * i) cells) (w * i) fits
      ∙ (λ j. (take_at front (drop (w * i) cells) (w * i) front_length j ++ row) ++ behind j) ∙ (λ j. longer j ++ drop (next_place j) cells)
