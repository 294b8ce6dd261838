use Rattle.induction.proofs.Inducts.{nothing_seen, motive_gathers}
use Rattle.induction.proofs.motive.Motive.vars.Goals as goal

pub visit-requires-clause-seen : goal.visit-requires-clause-seen
visit-requires-clause-seen c = nothing_seen _

pub returns : goal.returns
returns c = motive_gathers _ _ c.visit.ensures c.visit_all.ensures _ _
