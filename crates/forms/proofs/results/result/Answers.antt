use Rattle.forms.proofs.Resulting.{met_asks, result_taken}
use Rattle.forms.proofs.results.result.Goals as goal

pub take_goal-requires : goal.take_goal-requires
take_goal-requires c = met_asks c.requires.takes_result c.in_ok-k.ensures.met_as

pub returns-clause-resulted_as : goal.returns-clause-resulted_as
returns-clause-resulted_as c = λ g. result_taken g c.in_ok-k.ensures.met_as c.take_goal.ensures
