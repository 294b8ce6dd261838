use Rattle.std.proofs.Common.{arith}
use Rattle.terms.proofs.SetWords.{or_more, or_all}
use Rattle.terms.proofs.sets.union_into.Goals as goal

pub loop-i-preserved : goal.loop-i-preserved
loop-i-preserved c = or_more _ _ _ _ c.loop-i.invariant (omega arith)

pub returns : goal.returns
returns c = or_all _ _ _ _ c.loop-i.invariant (omega arith) (c.requires)
