use Rattle.std.proofs.Common.{◌≡◌, ◌++◌, replicate, drop}
use Rattle.cells.proofs.clear.Given as goal

abbrev pub invariant-loop-cell : goal.invariant-loop-cell
invariant-loop-cell g l = l.cells ≡ replicate l.cell-index g.T.Cell.ZERO ++ drop l.cell-index l.initial.cells
