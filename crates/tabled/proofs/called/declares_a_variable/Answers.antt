use Rattle.tabled.proofs.Declaring.{declaring}
use Rattle.tabled.proofs.called.declares_a_variable.Goals as goal

pub add_var-answer-requires : goal.add_var-answer-requires
add_var-answer-requires g c = declaring
