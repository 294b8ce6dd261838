use Rattle.std.proofs.lemmas.Result.{err_from_is_err_and}
use Rattle.unification.proofs.Sides.{first_err, second_ready, second_err, both_done}
use Rattle.unification.proofs.peel.both_under.Goals as goal

pub returns-in_err-left-clause-sided : goal.returns-in_err-left-clause-sided
returns-in_err-left-clause-sided c =
    let p = err_from_is_err_and c.from_residual.result c.from_residual.ensures.1 in
    rw (p.1, p.2) (first_err _ _ _ _ _ _ _ c.requires _ _ c.replace.new.memo _ c.replace.result c.replace.ensures.substituted _ c.in_err-left.was)

pub replace-requires-2 : goal.replace-requires-2
replace-requires-2 c = second_ready _ _ _ _ _ _ _ c.requires _ _ c.replace.new.memo _ c.replace.result c.replace.ensures.substituted _ c.in_ok-left.was c.replace.auto.memo

pub returns-in_err-right-clause-sided : goal.returns-in_err-right-clause-sided
returns-in_err-right-clause-sided c =
    let p = err_from_is_err_and c.from_residual-in_err-right.result c.from_residual-in_err-right.ensures.1 in
    rw (p.1, p.2) (second_err _ _ _ _ _ _ _ c.requires _ _ c.replace.new.memo _ c.replace.result c.replace.ensures.substituted _ c.in_ok-left.was _ _ c.replace-2.new.memo _ c.replace-2.result c.replace-2.ensures.substituted _ c.in_err-right.was)

pub returns-clause-sided : goal.returns-clause-sided
returns-clause-sided c = both_done _ _ _ _ _ _ _ c.requires _ _ c.replace.new.memo _ c.replace.result c.replace.ensures.substituted _ c.in_ok-left.was _ _ c.replace-2.new.memo _ c.replace-2.result c.replace-2.ensures.substituted _ c.in_ok-right.was
