use Rattle.terms.proofs.SetWords.{Beside}
use Rattle.terms.proofs.sets.lowest_outside.Given as goal

abbrev pub invariant-loop-i : goal.invariant-loop-i
invariant-loop-i l = Beside l.a l.b l.i-iterator.iter.a.rest.now l.i-iterator.iter.b.rest.now l.i-iterator.count
