use mathlib.Core.Path.{refl, ◌∙◌}
use Rattle.std.proofs.lemmas.Result.{err_from_is_err_and}
use Rattle.induction.proofs.Casings.{keeping_start, keeping_full, keeping_again, keeping_node, keeping_done}
use Rattle.induction.proofs.cases.keep_case.Goals as goal

pub loop-k-init : goal.loop-k-init
loop-k-init c = record { tables = (refl, refl); keeping = keeping_start c.requires }

pub returns-in_err-t-clause-kept : goal.returns-in_err-t-clause-kept
returns-in_err-t-clause-kept c =
    let p = err_from_is_err_and c.from_residual.result c.from_residual.ensures.1 in
    rw (p.1, p.2) (keeping_full c.requires c.loop-k.invariant.keeping c.loop-k-test.true c.in_err-t.ensures.kept.says)

pub loop-k-preserved : goal.loop-k-preserved
loop-k-preserved c = record {
  tables = (c.keep_var.ensures.same_tables.0 ∙ c.loop-k.invariant.tables.0, c.keep_var.ensures.same_tables.1 ∙ c.loop-k.invariant.tables.1);
  keeping = keeping_again c.requires c.loop-k.invariant.keeping c.loop-k-test.true c.in_ok-t.ensures.kept.says;
}

pub keep-requires-clause-node : goal.keep-requires-clause-node
keep-requires-clause-node c = keeping_node c.requires c.loop-k.invariant.keeping c.loop-k-test.false

pub returns-clause-kept : goal.returns-clause-kept
returns-clause-kept c = keeping_done c.requires c.loop-k.invariant.keeping c.loop-k-test.false c.keep.ensures.kept
