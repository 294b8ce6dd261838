use native.Mathlib.Omega.{arith}
use Rattle.kernel.proofs.Handed.{handed}
use Rattle.induction.proofs.InductSpelled.{spelled_subject, spelled_unknown, plain_form, spelled_derived}
use Rattle.induction.proofs.induct.induct.Goals as goal

pub read_subject-requires : goal.read_subject-requires
read_subject-requires c = spelled_subject c.requires.reads (omega arith)

pub returns-in_err-x-clause-derived_as : goal.returns-in_err-x-clause-derived_as
returns-in_err-x-clause-derived_as c = λ g. rw (handed c.from_residual.result c.from_residual.ensures) (spelled_unknown g (omega arith) c.in_err-x.ensures)

pub induct_on-requires-clause-induct_form : goal.induct_on-requires-clause-induct_form
induct_on-requires-clause-induct_form c = plain_form c.requires.reads (omega arith) c.in_ok-x.ensures c.from.ensures

pub returns-clause-derived_as : goal.returns-clause-derived_as
returns-clause-derived_as c = λ g. spelled_derived g (omega arith) c.in_ok-x.ensures c.from.ensures _ _ _ _ c.induct_on.ensures.derived_as
