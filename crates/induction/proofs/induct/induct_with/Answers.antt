use native.Mathlib.Omega.{arith}
use Rattle.kernel.proofs.Handed.{handed}
use Rattle.induction.proofs.InductSpelled.{spelled_subject, spelled_unknown_with, hyps_asked, hyps_refused, with_form, with_derived}
use Rattle.induction.proofs.induct.induct_with.Goals as goal

pub read_subject-requires : goal.read_subject-requires
read_subject-requires c = spelled_subject c.requires.reads (omega arith)

pub returns-in_err-x-clause-derived_as : goal.returns-in_err-x-clause-derived_as
returns-in_err-x-clause-derived_as c = λ g. rw (handed c.from_residual.result c.from_residual.ensures) (spelled_unknown_with g (omega arith) c.in_err-x.ensures)

pub plain_hyps-requires : goal.plain_hyps-requires
plain_hyps-requires c = hyps_asked c.requires.reads (omega arith) c.in_ok-x.ensures c.from.ensures

pub returns-in_err-hyps-clause-derived_as : goal.returns-in_err-hyps-clause-derived_as
returns-in_err-hyps-clause-derived_as c = λ g. rw (handed c.from_residual-in_err-hyps.result c.from_residual-in_err-hyps.ensures)
    (hyps_refused g (omega arith) c.in_ok-x.ensures c.from.ensures c.in_err-hyps.ensures)

pub induct_on-requires-clause-induct_form : goal.induct_on-requires-clause-induct_form
induct_on-requires-clause-induct_form c = with_form c.requires.reads (omega arith) c.in_ok-x.ensures c.from.ensures _ c.in_ok-hyps.ensures (omega arith) c.from-2.ensures

pub returns-clause-derived_as : goal.returns-clause-derived_as
returns-clause-derived_as c = λ g. with_derived g (omega arith) c.in_ok-x.ensures c.from.ensures _ c.in_ok-hyps.ensures (omega arith) c.from-2.ensures _ _ _ _ c.induct_on.ensures.derived_as
