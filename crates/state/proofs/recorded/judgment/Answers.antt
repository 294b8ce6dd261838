use mathlib.Core.Path.{◌∙◌}
use native.Mathlib.Omega.{arith}
use Rattle.state.proofs.Cells.{below, number_is}
use Rattle.state.proofs.recorded.judgment.Goals as goal

pub judgment_of-requires : goal.judgment_of-requires
judgment_of-requires c = below c.args.facts.now c.args.i c.requires

pub returns : goal.returns
returns c = c.judgment_of.ensures ∙ number_is c.args.facts.now c.args.i c.requires _ 0 (omega arith)
