use Rattle.referring.proofs.ScopeCells.{cell_option, visiting_readable, visiting_more, visiting_done}
use Rattle.referring.proofs.scope.visit_cells.Goals as goal

pub visit_one-requires-clause-readable_cells : goal.visit_one-requires-clause-readable_cells
visit_one-requires-clause-readable_cells c =
    visiting_readable c.requires.readable_cells c.loop-cell.invariant c.loop-cell-test.true (cell_option _ _ c.checked_sub.ensures)

pub loop-cell-preserved : goal.loop-cell-preserved
loop-cell-preserved c =
    visiting_more c.requires.readable_cells c.loop-cell.invariant c.loop-cell-test.true (cell_option _ _ c.checked_sub.ensures)
    c.visit_one.new.seen c.visit_one.new.set c.visit_one.ensures

pub returns : goal.returns
returns c = visiting_done c.requires.readable_cells c.loop-cell.invariant c.loop-cell-test.false
