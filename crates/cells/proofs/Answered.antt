-- Cells behind an answer: kept, or cleared where it is a refusal. Assumes nothing.
use Rattle.std.proofs.Common.{◌≡◌, refl, true, false, List, Result, Ok, Err, length, replicate}
use Rattle.std.proofs.Math.Bool.{true≢false, false≢true}
use Rattle.std.specs.Result.{is_err}
use Rattle.cells.specs.Cleared.{ClearedBy}

module _ {A E T : Type 0} (zero : T) (answer : Result A E) (cells : List T) where
  pub kept : is_err answer ≡ false → ClearedBy zero answer cells cells
  kept e = go answer e
    where
      go : (r : Result A E) → is_err r ≡ false → ClearedBy zero r cells cells
      go (Ok a) f = refl
      go (Err q) f = absurd (true≢false f)

  pub wiped : is_err answer ≡ true → (after : List T) → after ≡ replicate (length cells) zero → ClearedBy zero answer cells after
  wiped e after c = go answer e
    where
      go : (r : Result A E) → is_err r ≡ true → ClearedBy zero r cells after
      go (Ok a) f = absurd (false≢true f)
      go (Err q) f = c
