use Rattle.state.proofs.Cells.{below, both_hold, second_fails, first_fails, not_both}
use Rattle.state.proofs.recorded.is_plain.Goals as goal
use Rattle.state.proofs.recorded.is_plain.Goals.{then-f-ne0, else-f-ne0}

pub bounds-facts-i : goal.bounds-facts-i
bounds-facts-i c = below c.args.facts.now c.args.i c.requires

pub returns-then-f-eq0 : goal.returns-then-f-eq0
returns-then-f-eq0 c = elim c.if-f-ne0.branch [
  | then-f-ne0 w ↦ both_hold c.args.facts.now c.args.i c.requires _ w.if-f-ne0.true w.value-is c.if-f-eq0.true
  | else-f-ne0 w ↦ absurd (not_both c.args.facts.now c.args.i c.requires _ w.if-f-ne0.false w.value-is c.if-f-eq0.true)
]

pub returns-else-f-eq0 : goal.returns-else-f-eq0
returns-else-f-eq0 c = elim c.if-f-ne0.branch [
  | then-f-ne0 w ↦ second_fails c.args.facts.now c.args.i c.requires _ w.if-f-ne0.true w.value-is c.if-f-eq0.false
  | else-f-ne0 w ↦ first_fails c.args.facts.now c.args.i c.requires _ w.if-f-ne0.false c.if-f-eq0.false
]
