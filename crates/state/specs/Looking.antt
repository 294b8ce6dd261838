-- Looking a named fact up: what the answer of `is_fact` says, and as the test `!is_fact(..)` has it. Assumes nothing.
use Rattle.std.specs.Prelude.{◌≡◌, Bool, true, false, not, ℕ, ◌<◌, ◌≤◌, ltb}
use Rattle.std.proofs.Common.{sym, ◌∙◌, ltb-true, ltb-false}
use Rattle.std.proofs.lemmas.Bool.{not-true, not-false}

pub is_early : (i many : ℕ) (b : Bool) → b ≡ ltb i many → b ≡ true → i < many
is_early i many b e t = ltb-true i many (sym e ∙ t)

pub not_late : (i many : ℕ) (b : Bool) → b ≡ ltb i many → not b ≡ false → i < many
not_late i many b e t = ltb-true i many (sym e ∙ not-false b t)

pub is_late : (i many : ℕ) (b : Bool) → b ≡ ltb i many → not b ≡ true → many ≤ i
is_late i many b e t = ltb-false i many (sym e ∙ not-true b t)
