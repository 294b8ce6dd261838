use mathlib.Core.Path.{refl}
use Rattle.std.proofs.lemmas.Result.{err_from_is_err_and}
use Rattle.terms.specs.Laws.Growth.{grown_refl}
use Rattle.referring.specs.Laws.Substitutes.{memo_asked, under_went, under_there, under_stopped}
use Rattle.inversion.proofs.InvertJudges.{judging_now, judge_under, judge_stop}
use Rattle.inversion.proofs.inverting.Inverting.judge.Goals as goal

pub substitute-requires-clause-id_in_bounds : goal.substitute-requires-clause-id_in_bounds
substitute-requires-clause-id_in_bounds c = memo_asked c.requires.recalls.good c.requires.empty refl c.requires.there

pub returns-in_err-t-clause-judged_as : goal.returns-in_err-t-clause-judged_as
returns-in_err-t-clause-judged_as c = λ g. let p = err_from_is_err_and c.from_residual.result c.from_residual.ensures.1 in
    rw (p.1, p.2) (judge_stop g c.args.i (under_stopped (grown_refl g.recalls.good) c.args.renamed.now.theta.now g.theta_is.bound g.there c.substitute.ensures.kept c.in_err-t.was))

pub judge_on-requires : goal.judge_on-requires
judge_on-requires c =
    let g = c.requires in
    let w = grown_refl g.recalls.good in
    judging_now g (under_went w c.args.renamed.now.theta.now g.theta_is.bound g.there c.substitute.ensures.kept c.in_ok-t.was).grown
    (under_there w c.args.renamed.now.theta.now g.theta_is.bound g.there c.substitute.ensures.kept c.in_ok-t.was) c.substitute.ensures.memo_unchanged

pub returns-clause-judged_as : goal.returns-clause-judged_as
returns-clause-judged_as c = λ g.
    let s = under_went (grown_refl g.recalls.good) c.args.renamed.now.theta.now g.theta_is.bound g.there c.substitute.ensures.kept c.in_ok-t.was in
    judge_under g c.args.i c.in_ok-t.t s _ _ _ _
    (c.judge_on.ensures.judged_as (judging_now g s.grown
    (under_there (grown_refl g.recalls.good) c.args.renamed.now.theta.now g.theta_is.bound g.there c.substitute.ensures.kept c.in_ok-t.was) c.substitute.ensures.memo_unchanged))
