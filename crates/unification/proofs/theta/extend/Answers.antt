use Rattle.std.proofs.Common.{refl}
use Rattle.std.proofs.lemmas.Result.{err_from_is_err_and}
use Rattle.terms.specs.Laws.Zeros.{part_wiped}
use Rattle.unification.proofs.Extends.{map_back, memo_long, extend_ready, extended_ok, extended_err}
use Rattle.unification.proofs.theta.extend.Goals as goal

pub replace_values-changed-requires : goal.replace_values-changed-requires
replace_values-changed-requires c = extend_ready _ _ _ _ _ _ _ _ c.requires

pub returns-in_err-changed-clause-extended : goal.returns-in_err-changed-clause-extended
returns-in_err-changed-clause-extended c =
    let p = err_from_is_err_and c.from_residual.result c.from_residual.ensures.1 in
    rw (p.1, p.2) (extended_err _ _ _ _ _ _ _ _ c.requires _ _ c.replace_values-changed.new.theta _ c.replace_values-changed.result c.replace_values-changed.ensures.changed_as _ c.in_err-changed.was c.replace_values-changed.auto.theta)

pub returns-in_err-changed-clause-scratch_kept : goal.returns-in_err-changed-clause-scratch_kept
returns-in_err-changed-clause-scratch_kept c = (
  map_back _ _ _ _ _ _ _ _ c.requires,
  part_wiped c.args.scratch.now.memo.now _ (memo_long _ _ _ _ _ _ _ _ c.requires) c.requires.empty c.replace_values-changed.new.memo _ c.replace_values-changed.auto.memo c.clear.ensures,
  refl,
  refl,
)

pub returns-clause-extended : goal.returns-clause-extended
returns-clause-extended c = extended_ok _ _ _ _ _ _ _ _ c.requires _ _ c.replace_values-changed.new.theta _ c.replace_values-changed.result c.replace_values-changed.ensures.changed_as _ c.in_ok-changed.was

pub returns-clause-scratch_kept : goal.returns-clause-scratch_kept
returns-clause-scratch_kept c = (
  map_back _ _ _ _ _ _ _ _ c.requires,
  part_wiped c.args.scratch.now.memo.now _ (memo_long _ _ _ _ _ _ _ _ c.requires) c.requires.empty c.replace_values-changed.new.memo _ c.replace_values-changed.auto.memo c.clear.ensures,
  refl,
  refl,
)
