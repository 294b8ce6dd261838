use Rattle.referring.proofs.Joins.{joining_more, joining_end}
use Rattle.referring.proofs.references.insert_all.Goals as goal

pub loop-id-preserved : goal.loop-id-preserved
loop-id-preserved c = joining_more _ _ _ _ _ c.loop-id.invariant c.loop-id-test.true c.insert.auto.set c.insert.ensures

pub returns : goal.returns
returns c = joining_end _ _ _ _ c.loop-id.invariant c.loop-id-test.false
