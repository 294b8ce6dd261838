use Rattle.std.proofs.Common.{arith}
use Rattle.cells.proofs.Fronts.{cleared_more}
use Rattle.cells.proofs.clear.Goals as goal

pub loop-cell-preserved : goal.loop-cell-preserved
loop-cell-preserved g c = rw (c.ZERO.ensures, c.loop-cell.invariant) (cleared_more g.T.Cell.ZERO c.args.cells.now c.loop-cell.cell-index (omega arith))
