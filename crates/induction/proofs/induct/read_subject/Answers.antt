use Rattle.induction.proofs.InductSpelled.{subject_asks, subject_is}
use Rattle.induction.proofs.induct.read_subject.Goals as goal

pub variable-requires : goal.variable-requires
variable-requires c = subject_asks c.requires c.from.ensures

pub returns : goal.returns
returns c = λ g. subject_is g c.from.ensures c.variable.ensures c.ok_or.ensures.ok_part c.ok_or.ensures.value
