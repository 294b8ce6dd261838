use native.Mathlib.Omega.{arith}
use Rattle.std.proofs.Common.{refl, ◌∙◌}
use Rattle.std.proofs.lemmas.Result.{err_from_is_err_and}
use Rattle.exports_store.proofs.Chaining.{chaining_begins, chaining_small, chaining_node, chaining_on, chaining_full, chaining_ends}
use Rattle.exports_store.proofs.make_chain.Goals as goal

pub overflow_cast-last : goal.overflow_cast-last
overflow_cast-last c = omega (arith, chaining_small c.loop.invariant.chaining)

pub overflow_cast-first : goal.overflow_cast-first
overflow_cast-first c = omega (arith, chaining_small c.loop.invariant.chaining)

pub keep-requires-clause-node : goal.keep-requires-clause-node
keep-requires-clause-node c = chaining_node c.loop.invariant.chaining

pub loop-preserved : goal.loop-preserved
loop-preserved c = record { same = (c.keep.ensures.same_tables.0 ∙ c.loop.invariant.same.0, c.keep.ensures.same_tables.1 ∙ c.loop.invariant.same.1); chaining = chaining_on c.loop.invariant.chaining c.in_ok-last.ensures.kept.says }

pub returns-in_err-last-clause-kept : goal.returns-in_err-last-clause-kept
returns-in_err-last-clause-kept c =
    let p = err_from_is_err_and c.from_residual.result c.from_residual.ensures.1 in
    rw (p.1, p.2) (record { says = chaining_full c.loop.invariant.chaining _ c.loop-test.true c.in_err-last.ensures.kept.says })

pub returns-clause-kept : goal.returns-clause-kept
returns-clause-kept c = record { says = chaining_ends c.loop.invariant.chaining _ (omega arith) }

pub loop-init : goal.loop-init
loop-init c = record { same = (refl, refl); chaining = chaining_begins _ _ _ _ c.requires.good c.requires.first_there }
