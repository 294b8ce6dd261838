use mathlib.Core.Path.{◌∙◌, ap}
use native.Mathlib.Omega.{arith}
use Rattle.std.specs.Prelude.{Err}
use Rattle.kernel.proofs.Handed.{handed}
use Rattle.kernel.proofs.Missing.{question_is}
use Rattle.induction.proofs.InductForms.{form_facts, form_sorts, form_stopped, form_atom_lem, form_list, form_motive, form_refused, form_derived}
use Rattle.induction.proofs.induct.induct_on.Goals as goal

pub returns-in_err-judgment-clause-derived_as : goal.returns-in_err-judgment-clause-derived_as
returns-in_err-judgment-clause-derived_as c = λ g. rw (handed c.from_residual.result c.from_residual.ensures) (form_stopped g _ _ _ c.in_err-judgment.ensures.read_as)

pub returns-in_err-cases-clause-derived_as : goal.returns-in_err-cases-clause-derived_as
returns-in_err-cases-clause-derived_as c = λ g.
    rw (handed c.from_residual-in_err-cases.result c.from_residual-in_err-cases.ensures ∙ ap Err (question_is _ _ c.ok_or.ensures.ok_part c.ok_or.ensures.value c.in_err-cases.was))
    (form_atom_lem g _ _ _ c.in_ok-judgment.ensures.read_as _ c.ok_or.ensures.ok_part c.list.ensures c.in_err-cases.was)

pub judgments_of-width-requires : goal.judgments_of-width-requires
judgments_of-width-requires c = form_facts c.requires.induct_form

pub var_sort-requires : goal.var_sort-requires
var_sort-requires c = form_sorts c.requires.induct_form

pub on_motive-requires-clause-motive_items : goal.on_motive-requires-clause-motive_items
on_motive-requires-clause-motive_items c = form_motive c.requires.induct_form _ _ _ c.in_ok-judgment.ensures.read_as (form_list c.requires.induct_form _ _ _ c.in_ok-judgment.ensures.read_as _ c.ok_or.ensures.ok_part c.list.ensures c.in_ok-cases.was) c.judgments_of-width.new.out (omega arith) c.judgments_of-width.ensures

pub returns-in_err-on_motive-clause-derived_as : goal.returns-in_err-on_motive-clause-derived_as
returns-in_err-on_motive-clause-derived_as c = λ g. rw (handed c.from_residual-in_err-on_motive.result c.from_residual-in_err-on_motive.ensures)
    (form_refused g _ _ _ c.in_ok-judgment.ensures.read_as (form_list g _ _ _ c.in_ok-judgment.ensures.read_as _ c.ok_or.ensures.ok_part c.list.ensures c.in_ok-cases.was) c.judgments_of-width.new.out (omega arith) c.judgments_of-width.ensures c.var_sort.ensures _ _ _ c.in_err-on_motive.ensures.passed_as)

pub returns-clause-derived_as : goal.returns-clause-derived_as
returns-clause-derived_as c = λ g. form_derived g _ _ _ c.in_ok-judgment.ensures.read_as (form_list g _ _ _ c.in_ok-judgment.ensures.read_as _ c.ok_or.ensures.ok_part c.list.ensures c.in_ok-cases.was) c.judgments_of-width.new.out (omega arith) c.judgments_of-width.ensures c.var_sort.ensures _ _ _ c.in_ok-on_motive.ensures.passed_as
