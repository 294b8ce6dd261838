use Rattle.terms.proofs.SetsOut.{laying_fits, laying_on, laying_done}
use Rattle.terms.proofs.sets.write_word.Goals as goal

pub bounds-out-k : goal.bounds-out-k
bounds-out-k c = laying_fits _ _ _ _ _ _ _ _ c.loop-left.invariant c.loop-left-test.true

pub loop-left-preserved : goal.loop-left-preserved
loop-left-preserved c = laying_on _ _ _ _ _ _ _ _ c.loop-left.invariant c.loop-left-test.true

pub returns : goal.returns
returns c = laying_done _ _ _ _ _ _ _ _ c.loop-left.invariant c.loop-left-test.false
