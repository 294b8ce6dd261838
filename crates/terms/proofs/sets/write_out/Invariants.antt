use Rattle.terms.proofs.SetsOut.{LayingAll}
use Rattle.terms.proofs.sets.write_out.Given as goal

abbrev pub invariant-loop-i : goal.invariant-loop-i
invariant-loop-i l = LayingAll l.set l.initial.out l.out l.n l.i
