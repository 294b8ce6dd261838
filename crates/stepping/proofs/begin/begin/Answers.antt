use Rattle.std.proofs.Common.{ap, ◌∙◌, ◌++◌, replicate}
use Rattle.stepping.specs.Begun.{begun}
use Rattle.stepping.proofs.begin.begin.Goals as goal

pub begin_fit-started-requires-clause-long : goal.begin_fit-started-requires-clause-long
begin_fit-started-requires-clause-long c =
    let f = c.fit.ensures.0 c.if-not-fit.false in
    (f.working, f.facts, c.requires)

pub returns-clause-begun : goal.returns-clause-begun
returns-clause-begun c =
    begun (c.fit.ensures.0 c.if-not-fit.false) c.begin_fit-started.result c.refused_by.ensures c.begin_fit-started.ensures.started
    (λ i. (c.clear.ensures ∙ ap (λ k. replicate k 0) c.split_at_mut-list.ensures.front_len) i ++ c.split_at_mut-list.ensures.back i)
