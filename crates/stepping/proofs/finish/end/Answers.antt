use Rattle.std.proofs.Common.{sym, ◌∙◌}
use Rattle.stepping.specs.Outcomes.{ends_back, no_refusal, is_ends}
use Rattle.stepping.proofs.Ends.{ended_for}
use Rattle.stepping.proofs.finish.end.Goals as goal

pub end_fit-requires : goal.end_fit-requires
end_fit-requires c = c.requires c.in-Some.ends (ends_back c.args.outcome (sym c.ends_of.ensures ∙ c.in-Some.is))

pub returns : goal.returns
returns c =
    let i = sym c.ends_of.ensures ∙ c.in-Some.is in
    record { ended = λ e j. ended_for (is_ends i j) c.end_fit.ensures; unfit = λ j. no_refusal i j }
