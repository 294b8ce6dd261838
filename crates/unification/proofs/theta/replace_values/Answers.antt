use Rattle.std.proofs.Common.{refl, ◌∙◌, arith}
use Rattle.std.proofs.lemmas.List.{set-get_or}
use Rattle.std.proofs.lemmas.Result.{err_from_is_err_and}
use Rattle.unification.proofs.Values.{changing_begins, changing_skip, value_ready, value_ok, value_err, changing_ends}
use Rattle.unification.proofs.theta.replace_values.Goals as goal

pub loop-cell-init : goal.loop-cell-init
loop-cell-init c = record { tables = (refl, refl); changing = changing_begins _ _ _ _ _ _ c.requires }

pub loop-cell-preserved-in_default : goal.loop-cell-preserved-in_default
loop-cell-preserved-in_default c = record { tables = c.loop-cell.invariant.tables; changing = rw (set-get_or c.loop-cell.theta c.loop-cell.cell-index 0) (changing_skip _ _ _ _ _ _ _ _ _ _ _ _ c.loop-cell.invariant.changing (omega arith) (let none = c.in_default.ensures in omega arith)) }

pub replace-requires : goal.replace-requires
replace-requires c = let some = c.in-Some.ensures.0 in rw c.in-Some.ensures.1 (value_ready _ _ _ _ _ _ _ _ _ _ _ _ c.loop-cell.invariant.changing (omega arith) (λ z. omega arith))

pub returns-in_err-value-clause-changed_as : goal.returns-in_err-value-clause-changed_as
returns-in_err-value-clause-changed_as c =
    let some = c.in-Some.ensures.0 in
    let p = err_from_is_err_and c.from_residual.result c.from_residual.ensures.1 in
    rw (p.1, p.2) (value_err _ _ _ _ _ _ _ _ _ _ _ _ c.loop-cell.invariant.changing (omega arith) (λ z. omega arith) _ _ c.replace.new.memo _ c.replace.result (rw c.in-Some.ensures.1 at c.replace.ensures.substituted) _ c.in_err-value.was)

pub loop-cell-preserved : goal.loop-cell-preserved
loop-cell-preserved c = let some = c.in-Some.ensures.0 in record {
  tables = (c.replace.ensures.same_tables.0 ∙ c.loop-cell.invariant.tables.0, c.replace.ensures.same_tables.1 ∙ c.loop-cell.invariant.tables.1);
  changing = value_ok _ _ _ _ _ _ _ _ _ _ _ _ c.loop-cell.invariant.changing (omega arith) (λ z. omega arith) _ _ c.replace.new.memo _ c.replace.result (rw c.in-Some.ensures.1 at c.replace.ensures.substituted) c.replace.auto.memo _ c.in_ok-value.was;
}

pub returns-clause-changed_as : goal.returns-clause-changed_as
returns-clause-changed_as c = changing_ends _ _ _ _ _ _ _ _ _ _ _ _ c.loop-cell.invariant.changing (omega arith)
