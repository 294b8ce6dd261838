use Rattle.state.proofs.Named.{goal_found, some_goals}
use Rattle.state.proofs.goals.GoalTable.named.Goals as goal

pub named-requires : goal.named-requires
named-requires c = some_goals c.requires

pub returns : goal.returns
returns c = λ M gs h. goal_found h c.args.name.now c.named.ensures
