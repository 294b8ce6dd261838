use Rattle.std.proofs.Common.{refl, arith}
use Rattle.rules.specs.Limits.{TERMS}
use Rattle.terms.specs.Laws.Answers.{after_term}
use Rattle.terms_main.proofs.Kept.{ok_before, after_grown}
use Rattle.terms_main.proofs.Tables.{zeroed, theta_later}
use Rattle.terms_main.proofs.show_under.Goals as goal

pub substitute-requires-clause-id_in_bounds : goal.substitute-requires-clause-id_in_bounds
substitute-requires-clause-id_in_bounds g c =
    let memo = zeroed _ TERMS refl in
    (omega (arith, memo.0, c.requires.good.1, c.requires.good.0.room), memo.1)

pub show_line-requires : goal.show_line-requires
show_line-requires g c =
    let kept = ok_before _ _ _ c.in_ok-under.ensures.cases in
    let stored = after_term c.substitute.ensures.kept kept in
    rw c.terms.ensures (stored.grown.good, stored.there)

pub returns-in_err-under-clause-kept : goal.returns-in_err-under-clause-kept
returns-in_err-under-clause-kept g c = after_grown c.substitute.ensures.kept

pub returns-in_err-under-clause-bound : goal.returns-in_err-under-clause-bound
returns-in_err-under-clause-bound g c = theta_later c.requires.bound (after_grown c.substitute.ensures.kept).more

pub returns-in_err-show_line-clause-kept : goal.returns-in_err-show_line-clause-kept
returns-in_err-show_line-clause-kept g c = after_grown c.substitute.ensures.kept

pub returns-in_err-show_line-clause-bound : goal.returns-in_err-show_line-clause-bound
returns-in_err-show_line-clause-bound g c = theta_later c.requires.bound (after_grown c.substitute.ensures.kept).more

pub returns-clause-kept : goal.returns-clause-kept
returns-clause-kept g c = after_grown c.substitute.ensures.kept

pub returns-clause-bound : goal.returns-clause-bound
returns-clause-bound g c = theta_later c.requires.bound (after_grown c.substitute.ensures.kept).more
