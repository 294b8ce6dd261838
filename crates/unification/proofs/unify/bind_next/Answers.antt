use Rattle.std.proofs.lemmas.Result.{err_from_is_err_and}
use Rattle.unification.proofs.Solves.{wiped_back, round_found, round_apart, round_err, round_extends, bind_err, bind_more}
use Rattle.unification.proofs.unify.bind_next.Goals as goal

pub returns-in_err-peeled-clause-rounded : goal.returns-in_err-peeled-clause-rounded
returns-in_err-peeled-clause-rounded c =
    let p = err_from_is_err_and c.from_residual.result c.from_residual.ensures.1 in
    rw (p.1, p.2) (round_err _ _ _ _ _ _ _ _ _ c.requires _ _ c.peel-peeled.new.scratch.memo.now c.peel-peeled.new.scratch.pairs.now _ c.peel-peeled.new.scratch.waiting _ (rw c.in_err-peeled.was at c.peel-peeled.ensures.peeled_as))

pub extend-requires : goal.extend-requires
extend-requires c = rw c.peel-peeled.ensures.unchanged.0 (round_extends _ _ _ _ _ _ _ _ _ c.requires _ _ c.peel-peeled.new.scratch.memo.now c.peel-peeled.new.scratch.pairs.now _ c.peel-peeled.new.scratch.waiting _ _ (rw (c.in_ok-peeled.was, c.in-Binds.is) at c.peel-peeled.ensures.peeled_as) _ (wiped_back _ _ _ _ _ _ _ _ _ c.requires c.peel-peeled.new.scratch.memo.now _ c.peel-peeled.ensures.same_cells.1 c.clear_memo.ensures))

pub returns-in-Done-clause-rounded : goal.returns-in-Done-clause-rounded
returns-in-Done-clause-rounded c = round_found _ _ _ _ _ _ _ _ _ c.requires _ _ c.peel-peeled.new.scratch.memo.now c.peel-peeled.new.scratch.pairs.now _ c.peel-peeled.new.scratch.waiting (rw (c.in_ok-peeled.was, c.in-Done.is) at c.peel-peeled.ensures.peeled_as)

pub returns-in-Clash-clause-rounded : goal.returns-in-Clash-clause-rounded
returns-in-Clash-clause-rounded c = round_apart _ _ _ _ _ _ _ _ _ c.requires _ _ c.peel-peeled.new.scratch.memo.now c.peel-peeled.new.scratch.pairs.now _ c.peel-peeled.new.scratch.waiting (rw (c.in_ok-peeled.was, c.in-Clash.is) at c.peel-peeled.ensures.peeled_as)

pub returns-in_err-extend-in-Binds-clause-rounded : goal.returns-in_err-extend-in-Binds-clause-rounded
returns-in_err-extend-in-Binds-clause-rounded c =
    let p = err_from_is_err_and c.from_residual-in_err-extend-in-Binds.result c.from_residual-in_err-extend-in-Binds.ensures.1 in
    rw (p.1, p.2) (bind_err _ _ _ _ _ _ _ _ _ c.requires _ _ c.peel-peeled.new.scratch.memo.now c.peel-peeled.new.scratch.pairs.now _ c.peel-peeled.new.scratch.waiting _ _ (rw (c.in_ok-peeled.was, c.in-Binds.is) at c.peel-peeled.ensures.peeled_as) _ _ c.extend.new.theta _ _ c.in_err-extend-in-Binds.ensures.extended)

pub returns-in_ok-extend-in-Binds-clause-rounded : goal.returns-in_ok-extend-in-Binds-clause-rounded
returns-in_ok-extend-in-Binds-clause-rounded c = rw (c.extend.ensures.scratch_kept.2, c.extend.ensures.waiting) (bind_more _ _ _ _ _ _ _ _ _ c.requires _ _ c.peel-peeled.new.scratch.memo.now c.peel-peeled.new.scratch.pairs.now _ c.peel-peeled.new.scratch.waiting _ _ (rw (c.in_ok-peeled.was, c.in-Binds.is) at c.peel-peeled.ensures.peeled_as) _ _ c.extend.new.theta _ c.in_ok-extend-in-Binds.ensures.extended c.peel-peeled.ensures.same_cells.2)
