use Rattle.std.proofs.Common.{ap}
use Rattle.std.specs.Prelude.{not}
use borrow.Author.Tests.{not-true, not-false}
use Rattle.std.proofs.lemmas.Result.{err_from_is_err_and}
use Rattle.inversion.proofs.InvertVerdicts.{verdict_long, verdict_there, verdict_refused, verdict_not, verdict_fine}
use Rattle.inversion.proofs.judging.verdict.Goals as goal

pub concludes-requires : goal.concludes-requires
concludes-requires c = verdict_long c.requires

pub returns-in_err-concludes : goal.returns-in_err-concludes
returns-in_err-concludes c = λ g. let p = err_from_is_err_and c.from_residual.result c.from_residual.ensures.1 in
    rw (p.1, p.2) (verdict_refused g _ _ c.in_err-concludes.ensures)

pub rests_on_all-requires : goal.rests_on_all-requires
rests_on_all-requires c = (c.requires.given, verdict_there c.requires c.in_ok-concludes.ensures.0)

pub returns-then-not-rests_on_all : goal.returns-then-not-rests_on_all
returns-then-not-rests_on_all c = λ g. verdict_not g c.in_ok-concludes.ensures.0 _ _ c.in_ok-concludes.ensures.1 (c.rests_on_all.ensures g.given)
    (not-true c.rests_on_all.result (ap not c.if-not-rests_on_all.true))

pub returns : goal.returns
returns c = λ g. verdict_fine g c.in_ok-concludes.ensures.0 _ _ c.in_ok-concludes.ensures.1 (c.rests_on_all.ensures g.given)
    (not-false c.rests_on_all.result (ap not c.if-not-rests_on_all.false))
