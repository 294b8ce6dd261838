use Rattle.std.proofs.Common.{sym, ◌∙◌, refl}
use native.Mathlib.Omega.{arith}
use Rattle.std.proofs.lemmas.Result.{err_from_is_err_and}
use Rattle.terms.specs.Laws.Terms.{start_in}
use Rattle.terms.proofs.Substs.{sub_known, sub_none, sub_var}
use Rattle.terms.proofs.SubstLoop.{looping_begins, arg_in, arg_falls, arg_ready, arm_ok, arm_err, rebuildable, rebuilt_shaped, end_err, end_ok}
use Rattle.terms.proofs.replace.+replace.Goals as goal

pub returns-in-Some-clause-substituted : goal.returns-in-Some-clause-substituted
returns-in-Some-clause-substituted t c = let some = c.in-Some.ensures.0 in rw c.in-Some.ensures.1 (sub_known _ _ _ _ _ _ c.requires (λ z. omega arith))

pub returns-then-not-is_open-clause-substituted : goal.returns-then-not-is_open-clause-substituted
returns-then-not-is_open-clause-substituted t c =
    let closed = rw c.terms-terms.ensures at c.is_open.ensures in
    sub_none _ _ _ _ _ _ c.requires (sym (closed _ _ c.requires.good c.requires.there) ∙ c.if-not-is_open.true)

pub bounds-terms-start : goal.bounds-terms-start
bounds-terms-start t c =
    rw c.terms-terms.ensures (start_in _ _ _ c.requires.good _ c.requires.there _ (rw c.terms-terms.ensures at c.start_of-start.ensures))

pub overflow_add-memo-in-Variable : goal.overflow_add-memo-in-Variable
overflow_add-memo-in-Variable t c =
    let d = sub_var _ _ _ _ _ _ c.requires _ _ (rw c.terms-terms.ensures at c.start_of-start.ensures) (rw c.terms-terms.ensures at c.in-Variable.ensures.1) (rw (c.in-Variable.ensures.0, c.terms-terms.ensures) at c.image_of-value.ensures) in
    omega (arith, d.stored.there, c.requires.good.room)

pub overflow_cast-memo-in-Variable : goal.overflow_cast-memo-in-Variable
overflow_cast-memo-in-Variable t c =
    let d = sub_var _ _ _ _ _ _ c.requires _ _ (rw c.terms-terms.ensures at c.start_of-start.ensures) (rw c.terms-terms.ensures at c.in-Variable.ensures.1) (rw (c.in-Variable.ensures.0, c.terms-terms.ensures) at c.image_of-value.ensures) in
    omega (arith, d.stored.there, c.requires.good.room)

pub returns-in-Variable-clause-substituted : goal.returns-in-Variable-clause-substituted
returns-in-Variable-clause-substituted t c = sub_var _ _ _ _ _ _ c.requires _ _ (rw c.terms-terms.ensures at c.start_of-start.ensures) (rw c.terms-terms.ensures at c.in-Variable.ensures.1) (rw (c.in-Variable.ensures.0, c.terms-terms.ensures) at c.image_of-value.ensures)

pub loop-at-init : goal.loop-at-init
loop-at-init t c = record {
  tables = (refl, refl);
  looping = rw c.terms-terms.ensures (looping_begins _ _ _ _ _ _ _ c.requires (rw c.terms-terms.ensures at c.start_of-start.ensures) (rw c.terms-terms.ensures at c.in_default-from.ensures.1));
}

pub bounds-store-at : goal.bounds-store-at
bounds-store-at t c = arg_in _ _ _ _ _ _ _ _ _ _ _ _ _ c.loop-at.invariant.looping c.loop-at-test.true

pub replace-requires : goal.replace-requires
replace-requires t c = (
  omega (arith, arg_falls _ _ _ _ _ _ _ _ _ _ _ _ _ c.loop-at.invariant.looping c.loop-at-test.true),
  arg_ready _ _ _ _ _ _ _ _ _ _ _ _ _ c.loop-at.invariant.looping c.loop-at-test.true,
)

pub returns-in_err-replace-clause-substituted : goal.returns-in_err-replace-clause-substituted
returns-in_err-replace-clause-substituted t c =
    let p = err_from_is_err_and c.from_residual.result c.from_residual.ensures.1 in
    rw (p.1, p.2) (arm_err _ _ _ _ _ _ _ _ _ _ _ _ _ c.loop-at.invariant.looping c.loop-at-test.true _ _ _ _ c.replace.result c.replace.ensures.substituted _ c.in_err-replace.was)

pub loop-at-preserved : goal.loop-at-preserved
loop-at-preserved t c = record {
  tables = (c.replace.ensures.same_tables.0 ∙ c.loop-at.invariant.tables.0, c.replace.ensures.same_tables.1 ∙ c.loop-at.invariant.tables.1);
  looping = arm_ok _ _ _ _ _ _ _ _ _ _ _ _ _ c.loop-at.invariant.looping c.loop-at-test.true _ _ _ _ c.replace.result c.replace.ensures.substituted c.replace.auto.memo _ c.in_ok-replace.was;
}

pub rebuild-requires-clause-rebuildable : goal.rebuild-requires-clause-rebuildable
rebuild-requires-clause-rebuildable t c = rebuildable _ _ _ _ _ _ _ _ _ _ _ _ _ c.loop-at.invariant.looping c.loop-at-test.false

pub rebuild-requires-clause-shaped : goal.rebuild-requires-clause-shaped
rebuild-requires-clause-shaped t c = rebuilt_shaped _ _ _ _ _ _ _ _ _ _ _ _ _ c.loop-at.invariant.looping c.loop-at-test.false

pub returns-in_err-kept-clause-substituted : goal.returns-in_err-kept-clause-substituted
returns-in_err-kept-clause-substituted t c =
    let p = err_from_is_err_and c.from_residual-in_err-kept.result c.from_residual-in_err-kept.ensures.1 in
    rw (p.1, p.2) (end_err _ _ _ _ _ _ _ _ _ _ _ _ _ c.loop-at.invariant.looping c.loop-at-test.false _ _ _ _ c.rebuild.ensures.kept _ c.in_err-kept.was)

pub returns-clause-substituted : goal.returns-clause-substituted
returns-clause-substituted t c = end_ok _ _ _ _ _ _ _ _ _ _ _ _ _ c.loop-at.invariant.looping c.loop-at-test.false _ _ _ _ c.rebuild.ensures.kept _ c.in_ok-kept.was
