use Rattle.std.proofs.Common.{arith}
use Rattle.cells.proofs.Fronts.{writing_begins, writing_on, writing_ends}
use Rattle.cells.proofs.write.Goals as goal

pub loop-i-init : goal.loop-i-init
loop-i-init c = writing_begins _ _ (omega (arith, c.requires))

pub loop-i-preserved : goal.loop-i-preserved
loop-i-preserved c = writing_on _ _ _ _ c.loop-i.invariant (omega arith)

pub returns : goal.returns
returns c = writing_ends _ _ _ _ c.loop-i.invariant (omega arith)
