use mathlib.Core.Path.{refl, ◌∙◌}
use native.Mathlib.Omega.{arith}
use Rattle.kernel.proofs.Handed.{handed}
use Rattle.sexp.specs.Each.{here, over}
use Rattle.induction.proofs.Moves.{put_none}
use Rattle.induction.proofs.CaseLoop.{cases_start, cases_done, cases_over, cases_known, cases_small, cases_item, cases_unread, cases_in, cases_cased, cases_stopped, cases_again}
use Rattle.induction.proofs.induct_cases.induct_cases.Goals as goal

pub loop-item-init : goal.loop-item-init
loop-item-init c = rw (c.into_iter-item-iterator.ensures.into_iter_gives, c.all-item-items.ensures.0, c.all-item-items.ensures.1)
    record { cells = refl; same = (refl, refl); memo = refl; put = put_none _; ids = refl; cases = cases_start }

pub returns-in_default-clause-passed_as : goal.returns-in_default-clause-passed_as
returns-in_default-clause-passed_as c =
    let h = here c.loop-item.invariant.cells c.in-Some.ensures.steps in
    λ g. cases_over g (c.loop-item.invariant.cases g) h (rw c.symbol_table-known.ensures at c.next_constructor.ensures) c.in_default.is

pub read_case-requires : goal.read_case-requires
read_case-requires c =
    let h = here c.loop-item.invariant.cells c.in-Some.ensures.steps in
    (cases_item c.requires.case_items (c.loop-item.invariant.cases c.requires.case_items) h (rw c.symbol_table-known.ensures at c.next_constructor.ensures) c.in-Some-next_constructor.is, cases_known c.requires.case_items (c.loop-item.invariant.cases c.requires.case_items) h (rw c.symbol_table-known.ensures at c.next_constructor.ensures) c.in-Some-next_constructor.is)

pub returns-in_err-case-clause-passed_as : goal.returns-in_err-case-clause-passed_as
returns-in_err-case-clause-passed_as c =
    let h = here c.loop-item.invariant.cells c.in-Some.ensures.steps in
    λ g. rw (handed c.from_residual.result c.from_residual.ensures) (cases_unread g (c.loop-item.invariant.cases g) h (rw c.symbol_table-known.ensures at c.next_constructor.ensures) c.in-Some-next_constructor.is c.in_err-case.ensures)

pub case_terms-requires-clause-in_case : goal.case_terms-requires-clause-in_case
case_terms-requires-clause-in_case c =
    let h = here c.loop-item.invariant.cells c.in-Some.ensures.steps in
    rw c.facts.ensures (cases_in c.requires.case_items (c.loop-item.invariant.cases c.requires.case_items) h (rw c.symbol_table-known.ensures at c.next_constructor.ensures) c.in-Some-next_constructor.is c.in_ok-case.ensures)

pub case_terms-requires-clause-cased : goal.case_terms-requires-clause-cased
case_terms-requires-clause-cased c =
    let h = here c.loop-item.invariant.cells c.in-Some.ensures.steps in
    cases_cased c.requires.case_items (c.loop-item.invariant.cases c.requires.case_items) h (rw c.symbol_table-known.ensures at c.next_constructor.ensures) c.in-Some-next_constructor.is c.in_ok-case.ensures

pub returns-in_err-case_terms-clause-passed_as : goal.returns-in_err-case_terms-clause-passed_as
returns-in_err-case_terms-clause-passed_as c =
    let h = here c.loop-item.invariant.cells c.in-Some.ensures.steps in
    λ g.
    let p = handed c.from_residual-in_err-case_terms.result c.from_residual-in_err-case_terms.ensures in
    rw p (cases_stopped g (c.loop-item.invariant.cases g) h (rw c.symbol_table-known.ensures at c.next_constructor.ensures) c.in-Some-next_constructor.is c.in_ok-case.ensures _ _ _ (rw c.facts.ensures at c.in_err-case_terms.ensures.passed_as))

pub overflow_add-from : goal.overflow_add-from
overflow_add-from c =
    let h = here c.loop-item.invariant.cells c.in-Some.ensures.steps in
    omega (arith, cases_small c.requires.case_items (c.loop-item.invariant.cases c.requires.case_items) h (rw c.symbol_table-known.ensures at c.next_constructor.ensures) c.in-Some-next_constructor.is)

pub loop-item-preserved : goal.loop-item-preserved
loop-item-preserved c =
    let h = here c.loop-item.invariant.cells c.in-Some.ensures.steps in
    record {
      cells = h.same;
      same = (c.case_terms.ensures.same_tables.0 ∙ c.loop-item.invariant.same.0, c.case_terms.ensures.same_tables.1 ∙ c.loop-item.invariant.same.1);
      memo = c.case_terms.ensures.memo_unchanged ∙ c.loop-item.invariant.memo;
      put = c.case_terms.ensures.put;
      ids = c.case_terms.auto.ids ∙ c.loop-item.invariant.ids;
      cases = λ g. cases_again g (c.loop-item.invariant.cases g) h (rw c.symbol_table-known.ensures at c.next_constructor.ensures) c.in-Some-next_constructor.is c.in_ok-case.ensures _ _ _ (rw c.facts.ensures at c.in_ok-case_terms.ensures.passed_as);
    }

pub returns-clause-passed_as : goal.returns-clause-passed_as
returns-clause-passed_as c = λ g. cases_done g (c.loop-item.invariant.cases g) (over c.loop-item.invariant.cells c.in-None.ensures.steps)
