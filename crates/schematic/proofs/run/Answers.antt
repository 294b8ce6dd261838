use Rattle.std.proofs.lemmas.Result.{err_from_is_err_and}
use Rattle.schematic.proofs.Whole.{left, begun}
use Rattle.schematic.proofs.run.Goals as goal

pub returns-in_err-begin-clause-ran : goal.returns-in_err-begin-clause-ran
returns-in_err-begin-clause-ran c =
    let p = err_from_is_err_and c.from_residual.result c.from_residual.ensures.1 in
    rw (p.1, p.2) (left c.in_err-begin.ensures.opened)

pub prove-requires-clause-kept : goal.prove-requires-clause-kept
prove-requires-clause-kept c =
    rw c.given_of-given.ensures (begun _ c.begin.new.board c.begin.new.store c.in_ok-begin.ensures.opened)
