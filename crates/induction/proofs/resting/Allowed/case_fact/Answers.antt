use mathlib.Core.Path.{ap}
use mathlib.Core.Bool.{not}
use borrow.Author.Tests.{not-true, not-false}
use Rattle.kernel.proofs.Handed.{handed}
use Rattle.induction.proofs.Allowed.{facts_asks, fact_refused, fact_rests_not, fact_rests}
use Rattle.induction.proofs.resting.Allowed.case_fact.Goals as goal

pub concludes-requires : goal.concludes-requires
concludes-requires c = facts_asks c.requires

pub returns-in_err-concludes : goal.returns-in_err-concludes
returns-in_err-concludes c = λ g there. rw (handed c.from_residual.result c.from_residual.ensures) (fact_refused g _ _ there c.in_err-concludes.ensures)

pub returns-then-not-hyps : goal.returns-then-not-hyps
returns-then-not-hyps c = λ g there.
    let s = c.in_ok-concludes.ensures in
    fact_rests_not g _ _ s.0 there s.1 c.hyps.result (c.hyps.ensures g) (not-true _ (ap not c.if-not-hyps.true))

pub returns : goal.returns
returns c = λ g there.
    let s = c.in_ok-concludes.ensures in
    fact_rests g _ _ s.0 there s.1 c.hyps.result (c.hyps.ensures g) (not-false _ (ap not c.if-not-hyps.false))
