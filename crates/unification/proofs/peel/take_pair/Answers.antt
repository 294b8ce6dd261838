use Rattle.std.proofs.lemmas.Result.{err_from_is_err_and}
use Rattle.unification.proofs.Turns.{pair_err, pair_turned}
use Rattle.unification.proofs.peel.take_pair.Goals as goal

pub returns-in_err-left-clause-turned : goal.returns-in_err-left-clause-turned
returns-in_err-left-clause-turned c =
    let p = err_from_is_err_and c.from_residual.result c.from_residual.ensures.1 in
    rw (p.1, p.2) (pair_err _ _ _ _ _ _ c.args.scratch.now.seen.now _ c.requires _ _ c.both_under.new.memo _ c.both_under.result c.both_under.ensures.sided _ c.in_err-left.was)

pub returns-clause-turned : goal.returns-clause-turned
returns-clause-turned c =
    let looked = rw c.terms.ensures at c.onward.ensures.looked in
    rw c.onward.ensures.unchanged.1 (pair_turned _ _ _ _ _ _ c.args.scratch.now.seen.now _ c.requires _ _ c.both_under.new.memo _ c.both_under.result c.both_under.ensures.sided _ c.in_ok-left.was _ _ _ looked c.onward.ensures.same_cells.2 c.both_under.auto.memo)
