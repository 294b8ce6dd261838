use Rattle.cells.proofs.Fronts.{Writing}
use Rattle.cells.proofs.write.Given as goal

abbrev pub invariant-loop-i : goal.invariant-loop-i
invariant-loop-i l = Writing l.initial.to l.from l.to l.i
