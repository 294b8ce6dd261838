use Rattle.referring.proofs.ScopeCells.{Visiting}
use Rattle.referring.proofs.scope.visit_cells.Given as goal

abbrev pub invariant-loop-cell : goal.invariant-loop-cell
invariant-loop-cell l = Visiting l.terms.index.now l.terms.words.now l.terms.mark l.cells l.initial.seen l.initial.set l.seen l.set l.cell-index
