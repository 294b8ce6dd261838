use native.Mathlib.Omega.{arith}
use Rattle.referring.proofs.ScopeVisits.{visiting_on, visiting_ends}
use Rattle.referring.proofs.scope.visit_all.Goals as goal

pub loop-id-preserved : goal.loop-id-preserved
loop-id-preserved c = visiting_on c.loop-id.invariant c.loop-id-test.true c.visit.ensures

pub returns : goal.returns
returns c = visiting_ends c.loop-id.invariant (omega (arith, c.loop-id-test.false))
