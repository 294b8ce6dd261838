use Rattle.casework.proofs.Tree.{sought_start, sought_free, sought_met, sought_on}
use Rattle.casework.proofs.distinct.NameTree.seek.Goals as goal

pub loop-cell-init : goal.loop-cell-init
loop-cell-init c = sought_start c.requires _

pub returns-then-node-eq0 : goal.returns-then-node-eq0
returns-then-node-eq0 c = sought_free c.requires _ c.loop-cell.invariant c.if-node-eq0.true

pub returns-then-same : goal.returns-then-same
returns-then-same c = sought_met c.requires _ c.loop-cell.invariant c.if-node-eq0.false (rw (c.of.ensures, c.span_at-met.ensures) at c.same.ensures) c.if-same.true

pub loop-cell-preserved : goal.loop-cell-preserved
loop-cell-preserved c = sought_on c.requires _ c.loop-cell.invariant c.if-node-eq0.false (rw (c.of.ensures, c.span_at-met.ensures) at c.same.ensures) c.if-same.false c.turn.ensures.0 c.turn.ensures.1
