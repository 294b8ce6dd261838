use Rattle.std.proofs.Common.{◌-◌, refl, arith}
use Rattle.std.proofs.lemmas.Result.{err_from_is_err_and}
use Rattle.unification.proofs.Unifies.{solving_begins, solving_known, solving_err, solving_ends, solving_on}
use Rattle.unification.proofs.unify.solve.Goals as goal

pub loop-round-init : goal.loop-round-init
loop-round-init c = record { tables = (refl, refl); cells = ((refl, refl, refl, refl), refl, refl); solving = solving_begins _ _ _ _ _ _ _ _ _ _ c.requires _ (omega arith) }

pub bind_next-requires : goal.bind_next-requires
bind_next-requires c = c.loop-round.invariant.solving.solvable

pub returns-in_err-exists-clause-solved_as : goal.returns-in_err-exists-clause-solved_as
returns-in_err-exists-clause-solved_as c =
    let p = err_from_is_err_and c.from_residual.result c.from_residual.ensures.1 in
    rw (p.1, p.2) (solving_err _ _ _ _ _ _ _ _ _ _ _ _ _ _ _ _ _ _ _ _ c.loop-round.invariant.solving (c.args.count - c.loop-round._round) (omega arith) _ _ c.bind_next.new.theta c.bind_next.new.scratch.pairs.now _ c.bind_next.new.scratch.waiting _ c.in_err-exists.ensures.rounded)

pub returns-in-Some-clause-solved_as : goal.returns-in-Some-clause-solved_as
returns-in-Some-clause-solved_as c = solving_known _ _ _ _ _ _ _ _ _ _ _ _ _ _ _ _ _ _ _ _ c.loop-round.invariant.solving (c.args.count - c.loop-round._round) (omega arith) _ _ c.bind_next.new.theta c.bind_next.new.scratch.pairs.now _ c.bind_next.new.scratch.waiting _ (rw c.in-Some.is at c.in_ok-exists.ensures.rounded)

pub returns-in_default-clause-solved_as : goal.returns-in_default-clause-solved_as
returns-in_default-clause-solved_as c =
    let more = rw c.in_default.is at c.in_ok-exists.ensures.rounded in
    let s = solving_on _ _ _ _ _ _ _ _ _ _ _ _ _ _ _ _ _ _ _ _ c.loop-round.invariant.solving (c.args.count - c.loop-round._round) (omega arith) _ _ c.bind_next.new.theta c.bind_next.new.scratch.pairs.now _ c.bind_next.new.scratch.waiting more _ _ _ c.bind_next.ensures.unchanged c.bind_next.auto.theta c.bind_next.ensures.same_cells.2 in
    solving_ends _ _ _ _ _ _ _ _ _ _ _ _ _ _ _ _ _ _ _ _ s (omega arith)
