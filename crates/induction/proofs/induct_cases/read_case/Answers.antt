use mathlib.Core.Path.{refl, sym, ap, ◌∙◌}
use native.Mathlib.Omega.{arith}
use borrow.Author.Tests.{eqb-true, eqb-false}
use Rattle.std.specs.Prelude.{Err}
use Rattle.kernel.proofs.Handed.{handed}
use Rattle.kernel.proofs.Missing.{there, absent, question_is}
use Rattle.induction.proofs.CaseReads.{case_atom_lem, case_list, case_items, case_none, case_first, case_unread, many_few, case_count, inputs_known, named, case_unnamed, case_read}
use Rattle.induction.proofs.induct_cases.read_case.Goals as goal

pub returns-in_err-inner : goal.returns-in_err-inner
returns-in_err-inner c = λ g M o.
    rw (handed c.from_residual.result c.from_residual.ensures ∙ ap Err (question_is _ _ c.ok_or.ensures.ok_part c.ok_or.ensures.value c.in_err-inner.was))
    (case_atom_lem c.args.c g _ c.list.ensures c.ok_or.ensures.ok_part c.in_err-inner.was M)

pub returns-then-is_empty : goal.returns-then-is_empty
returns-then-is_empty c = λ g M o. case_none c.args.c g (case_list c.args.c g _ c.list.ensures c.ok_or.ensures.ok_part c.in_ok-inner.was) (eqb-true _ 0 (sym c.if-is_empty.ensures)) M

pub index-requires : goal.index-requires
index-requires c = case_first c.args.c c.requires.0 (case_list c.args.c c.requires.0 _ c.list.ensures c.ok_or.ensures.ok_part c.in_ok-inner.was) (eqb-false _ 0 (sym c.if-is_empty.ensures))

pub returns-in_err-fact : goal.returns-in_err-fact
returns-in_err-fact c = λ g M o.
    rw (handed c.from_residual-in_err-fact.result c.from_residual-in_err-fact.ensures ∙ ap Err (question_is _ _ c.ok_or-2.ensures.ok_part c.ok_or-2.ensures.value c.in_err-fact.was))
    (case_unread c.args.c g (case_list c.args.c g _ c.list.ensures c.ok_or.ensures.ok_part c.in_ok-inner.was) (eqb-false _ 0 (sym c.if-is_empty.ensures)) c.index.ensures (absent _ _ c.ok_or-2.ensures.ok_part c.in_err-fact.was) M)

pub count-requires : goal.count-requires
count-requires c = case_items c.args.c c.requires.0 (case_list c.args.c c.requires.0 _ c.list.ensures c.ok_or.ensures.ok_part c.in_ok-inner.was)

pub overflow_add-many : goal.overflow_add-many
overflow_add-many c = omega (arith, many_few c.args.c c.requires.0 (case_list c.args.c c.requires.0 _ c.list.ensures c.ok_or.ensures.ok_part c.in_ok-inner.was) (eqb-false _ 0 (sym c.if-is_empty.ensures)) c.index.ensures (there _ _ c.ok_or-2.ensures.ok_part c.in_ok-fact.was) c.requires.1 (rw c.symbol_table-known.ensures at c.arity-many.ensures) c.count.ensures)

pub returns-then-count-many : goal.returns-then-count-many
returns-then-count-many c = λ g M o. case_count c.args.c g (case_list c.args.c g _ c.list.ensures c.ok_or.ensures.ok_part c.in_ok-inner.was) (eqb-false _ 0 (sym c.if-is_empty.ensures)) c.index.ensures (there _ _ c.ok_or-2.ensures.ok_part c.in_ok-fact.was) c.requires.1 (rw c.symbol_table-known.ensures at c.arity-many.ensures) c.count.ensures c.if-count-many.true M

pub inputs-sorts-requires : goal.inputs-sorts-requires
inputs-sorts-requires c = rw c.symbol_table-known.ensures (inputs_known c.args.c c.requires.0 (case_list c.args.c c.requires.0 _ c.list.ensures c.ok_or.ensures.ok_part c.in_ok-inner.was) (eqb-false _ 0 (sym c.if-is_empty.ensures)) c.index.ensures (there _ _ c.ok_or-2.ensures.ok_part c.in_ok-fact.was) c.requires.1 (rw c.symbol_table-known.ensures at c.arity-many.ensures) c.count.ensures)

pub case_vars-requires : goal.case_vars-requires
case_vars-requires c = named c.args.c c.requires.0 (case_list c.args.c c.requires.0 _ c.list.ensures c.ok_or.ensures.ok_part c.in_ok-inner.was) (eqb-false _ 0 (sym c.if-is_empty.ensures)) c.index.ensures (there _ _ c.ok_or-2.ensures.ok_part c.in_ok-fact.was) c.requires.1 (rw c.symbol_table-known.ensures at c.arity-many.ensures) c.count.ensures (rw c.symbol_table-known.ensures at c.inputs-sorts.ensures) c.if-count-many.false c.from.ensures

pub returns-in_err-own : goal.returns-in_err-own
returns-in_err-own c = λ g M o. rw (handed c.from_residual-in_err-own.result c.from_residual-in_err-own.ensures) (case_unnamed c.args.c g (case_list c.args.c g _ c.list.ensures c.ok_or.ensures.ok_part c.in_ok-inner.was) (eqb-false _ 0 (sym c.if-is_empty.ensures)) c.index.ensures (there _ _ c.ok_or-2.ensures.ok_part c.in_ok-fact.was) c.requires.1 (rw c.symbol_table-known.ensures at c.arity-many.ensures) c.count.ensures (rw c.symbol_table-known.ensures at c.inputs-sorts.ensures) c.if-count-many.false c.from.ensures M o c.in_err-own.ensures)

pub returns : goal.returns
returns c = λ g M o. (case_read c.args.c g (case_list c.args.c g _ c.list.ensures c.ok_or.ensures.ok_part c.in_ok-inner.was) (eqb-false _ 0 (sym c.if-is_empty.ensures)) c.index.ensures (there _ _ c.ok_or-2.ensures.ok_part c.in_ok-fact.was) c.requires.1 (rw c.symbol_table-known.ensures at c.arity-many.ensures) c.count.ensures (rw c.symbol_table-known.ensures at c.inputs-sorts.ensures) c.if-count-many.false c.from.ensures M o c.in_ok-own.ensures, refl)
