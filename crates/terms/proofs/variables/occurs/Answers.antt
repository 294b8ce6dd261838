use Rattle.terms.proofs.Visits.{occurs_is}
use Rattle.terms.proofs.variables.occurs.Goals as goal

pub returns-clause-occurs : goal.returns-clause-occurs
returns-clause-occurs c = occurs_is 8 _ _ _ _ c.variables.ensures.joined c.has.ensures
