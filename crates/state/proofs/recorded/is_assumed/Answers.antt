use mathlib.Core.Path.{ap, ◌∙◌}
use native.Mathlib.Omega.{arith}
use Rattle.std.specs.Prelude.{not, eqb}
use Rattle.state.proofs.Cells.{below, number_is}
use Rattle.state.proofs.recorded.is_assumed.Goals as goal

pub bounds-facts-i : goal.bounds-facts-i
bounds-facts-i c = below c.args.facts.now c.args.i c.requires

pub returns : goal.returns
returns c = c.is_assumed.ensures ∙ ap (λ k. not (eqb k 0)) (number_is c.args.facts.now c.args.i c.requires _ 1 (omega arith))
