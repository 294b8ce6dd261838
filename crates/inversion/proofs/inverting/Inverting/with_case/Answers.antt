use mathlib.Core.Path.{◌∙◌}
use Rattle.std.proofs.lemmas.Result.{err_from_is_err_and}
use Rattle.inversion.proofs.InvertJudges.{having_full, having_met, having_unmet, having_judging, having_judged}
use Rattle.inversion.proofs.inverting.Inverting.with_case.Goals as goal

pub returns-in_err-bound-clause-judged_as : goal.returns-in_err-bound-clause-judged_as
returns-in_err-bound-clause-judged_as c = λ g. let p = err_from_is_err_and c.from_residual.result c.from_residual.ensures.1 in
    rw (p.1, p.2) (having_full g c.args.i (c.in_err-bound.ensures.met_as g.meeting).0)

pub returns-in_default-clause-judged_as : goal.returns-in_default-clause-judged_as
returns-in_default-clause-judged_as c = λ g. having_unmet g _ _ _ _ (c.in_ok-bound.ensures.met_as g.meeting) c.args.i c.in_default.is

pub judge-requires : goal.judge-requires
judge-requires c =
    let g = c.requires.having in
    having_judging g (having_met g _ _ _ _ (c.in_ok-bound.ensures.met_as g.meeting) c.in-Some.is) (c.in_ok-bound.ensures.scratch_kept.1 ∙ c.requires.empty.memos)

pub returns-clause-judged_as : goal.returns-clause-judged_as
returns-clause-judged_as c = λ g.
    let w = having_met g _ _ _ _ (c.in_ok-bound.ensures.met_as g.meeting) c.in-Some.is in
    having_judged g w c.args.i _ _ _ _ (c.judge.ensures.judged_as (having_judging g w (c.in_ok-bound.ensures.scratch_kept.1 ∙ c.requires.empty.memos)))
