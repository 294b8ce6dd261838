-- The loop of `skip`, as steps from place to place. Assumes nothing.
use mathlib.Core.Path.{◌≡◌, refl, ◌∙◌}
use Prim.Native.Nat.{ℕ, ◌+◌, ◌≤◌, ◌<◌}
use mathlib.Core.Bool.{true, false}
use mathlib.Core.List.{List}
use native.Mathlib.Omega.{arith}
use lib.ListN.{length, get_or}
use Rattle.rules.specs.Lex.{white}
use Rattle.rules.specs.Laws.Lex.{kind_blank, place_blank, place_semicolon, kind_semicolon}
use Rattle.sexp.specs.Lexed.{from, LineEnd, Skipped}
use Rattle.sexp.proofs.ByteLaws.{not_blank, not_semicolon}

-- from `start` on there is no token up to here
pub record Skipping (text : List ℕ) (start at : ℕ) : Type 0 where
  pub low : start ≤ at
  pub high : at ≤ length text
  pub same : from text start ≡ from text at

pub begin : (text : List ℕ) (start : ℕ) → start ≤ length text → Skipping text start start
begin text start h = record { low = omega arith; high = h; same = refl }

module _ {text : List ℕ} {start at : ℕ} (s : Skipping text start at) where
  pub past_white : at < length text → white (get_or text at 0) ≡ true → Skipping text start (at + 1)
  past_white i e = record { low = omega (arith, s.low); high = omega arith; same = s.same ∙ place_blank text at i (kind_blank _ e) }

  pub found : white (get_or text at 0) ≡ false → (get_or text at 0 ≡ 59 → ⊥) → Skipped text start at
  found e n = record { low = s.low; high = s.high; same = s.same; no_blank = λ _. not_blank _ e; no_comment = λ _. not_semicolon _ n }

  pub past_comment : at < length text → get_or text at 0 ≡ 59 → (r : ℕ) → LineEnd text (at + 1) r → Skipping text start r
  past_comment i b r l =
      record { low = omega (arith, s.low, l.low); high = l.high; same = s.same ∙ place_semicolon text at i (kind_semicolon _ b) ∙ l.same }

  pub over : length text ≤ at → Skipped text start at
  over h = record { low = s.low; high = s.high; same = s.same; no_blank = λ i. absurd (omega arith); no_comment = λ i. absurd (omega arith) }
