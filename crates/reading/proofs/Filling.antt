-- One number more in cells that are zero behind, as far as there are cells. Assumes nothing.
use mathlib.Core.Path.{◌≡◌, sym, ap, ◌∙◌}
use mathlib.Core.List.{List, [], ◌∷◌, ◌++◌}
use Prim.Native.Nat.{ℕ, ◌+◌, ◌-◌, ◌≤◌}
use native.Mathlib.Omega.{arith}
use native.Mathlib.Decide.{dec_lt}
use lib.ListN.{length, set, replicate, length-append}
use lib.Seq.{set_out, take-append-le}
use Rattle.rules.specs.TheoryTables.{filled}
use Rattle.rules.specs.Laws.Row.{length_filled}
use Rattle.state.specs.Filled.{filled_more}

pub length_snoc : (xs : List ℕ) (v : ℕ) → length (xs ++ (v ∷ [])) ≡ length xs + 1
length_snoc xs v = length-append xs (v ∷ [])

-- the cells are full
filled_over : (N : ℕ) (xs : List ℕ) (v : ℕ) → N ≤ length xs → filled N xs ≡ filled N (xs ++ (v ∷ []))
unfolding filled
filled_over N xs v l =
    let e = length_snoc xs v in
    let z : N - length xs ≡ N - length (xs ++ (v ∷ [])) = omega arith in
    λ i. sym (take-append-le N xs (v ∷ []) l) i ++ replicate (z i) 0

pub filled_put : (N : ℕ) (xs : List ℕ) (k v : ℕ) → k ≡ length xs → set (filled N xs) k v ≡ filled N (xs ++ (v ∷ []))
filled_put N xs k v e = elim (dec_lt (length xs) N) [
  | yes l ↦ filled_more N xs (omega (arith, l)) k (v ∷ []) e (omega (arith, l))
  | no q ↦ set_out (filled N xs) k v (omega (arith, q, e, length_filled N xs)) ∙ filled_over N xs v (omega (arith, q))
]

-- the same of cells that are filled so
pub put_more : {out : List ℕ} {k : ℕ} (N : ℕ) (xs : List ℕ) (v : ℕ) → out ≡ filled N xs → k ≡ length xs → set out k v ≡ filled N (xs ++ (v ∷ []))
put_more {k = k} N xs v o e = ap (λ (l : List ℕ). set l k v) o ∙ filled_put N xs k v e

-- Cells that were zero ---------------------------------------------------------------------------------------------------------------------

module _ {before : List ℕ} (now : List ℕ) {n : ℕ} (b : before ≡ replicate n 0) (l : length now ≡ n) where
  -- cleared, they are as they were
  pub cleared : {last : List ℕ} → last ≡ replicate (length now) 0 → last ≡ before
  cleared e = e ∙ ap (λ (m : ℕ). replicate m 0) l ∙ sym b
