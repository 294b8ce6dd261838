use Rattle.kernel.proofs.Heads.{place_inside, head_is_lem}
use native.Mathlib.Omega.{arith}
use Rattle.kernel.proofs.rule_readers.Rules.concludes.Goals as goal

pub offset_bounds-self-place : goal.offset_bounds-self-place
offset_bounds-self-place c = omega (arith, place_inside c.requires _ c.conclusion-place.ensures)

pub bounds-self-place : goal.bounds-self-place
bounds-self-place c = place_inside c.requires _ c.conclusion-place.ensures

pub returns : goal.returns
returns c = head_is_lem c.requires _ c.conclusion-place.ensures _
