use native.Mathlib.Omega.{arith}
use mathlib.Core.Path.{ap, ◌∙◌}
use Rattle.std.specs.Prelude.{Err}
use Rattle.kernel.proofs.Handed.{handed}
use Rattle.kernel.proofs.Missing.{there, absent, question_is}
use Rattle.reading.specs.Laws.Parts.{list_is, list_not}
use Rattle.derivation.proofs.Applies.{index_given, index_missing, form_atom_lem, bindings_given, form_given, form_read, form_answers, form_refused}
use Rattle.derivation.proofs.apply.apply.Goals as goal

pub index-requires : goal.index-requires
index-requires c = index_given c.requires.reads c.from.ensures

pub returns-in_err-i-clause-derived_as : goal.returns-in_err-i-clause-derived_as
returns-in_err-i-clause-derived_as c = λ g.
    rw (handed c.from_residual.result c.from_residual.ensures ∙ ap Err (question_is _ _ c.ok_or.ensures.ok_part c.ok_or.ensures.value c.in_err-i.was))
    (index_missing g c.from.ensures c.index.ensures (absent _ _ c.ok_or.ensures.ok_part c.in_err-i.was))

pub returns-in_err-inner-clause-derived_as : goal.returns-in_err-inner-clause-derived_as
returns-in_err-inner-clause-derived_as c = λ g.
    let i = there _ _ c.ok_or.ensures.ok_part c.in_ok-i.was in
    rw (handed c.from_residual-in_err-inner.result c.from_residual-in_err-inner.ensures
    ∙ ap Err (question_is _ _ c.ok_or-2.ensures.ok_part c.ok_or-2.ensures.value c.in_err-inner.was))
    (form_atom_lem g c.from.ensures c.index.ensures i (list_not g.holds 3 (omega (arith, g.many)) c.list.ensures c.ok_or-2.ensures.ok_part c.in_err-inner.was))

pub bindings-requires-clause-reads_items : goal.bindings-requires-clause-reads_items
bindings-requires-clause-reads_items c =
    let g = c.requires.reads in
    bindings_given g c.from.ensures c.index.ensures (there _ _ c.ok_or.ensures.ok_part c.in_ok-i.was)
    (list_is g.holds 3 (omega (arith, g.many)) c.list.ensures c.ok_or-2.ensures.ok_part c.in_ok-inner.was)

pub returns-in_err-bindings-clause-derived_as : goal.returns-in_err-bindings-clause-derived_as
returns-in_err-bindings-clause-derived_as c = λ g.
    rw (handed c.from_residual-in_err-bindings.result c.from_residual-in_err-bindings.ensures)
    (form_refused g c.from.ensures c.index.ensures (there _ _ c.ok_or.ensures.ok_part c.in_ok-i.was)
    (list_is g.holds 3 (omega (arith, g.many)) c.list.ensures c.ok_or-2.ensures.ok_part c.in_ok-inner.was) _ _ _ c.in_err-bindings.ensures.bindings_as)

pub apply_on-requires : goal.apply_on-requires
apply_on-requires c =
    let g = c.requires.reads in
    let i = there _ _ c.ok_or.ensures.ok_part c.in_ok-i.was in
    let l = list_is g.holds 3 (omega (arith, g.many)) c.list.ensures c.ok_or-2.ensures.ok_part c.in_ok-inner.was in
    record {
      reads = form_given g c.from.ensures c.index.ensures i l _ _ _ c.in_ok-bindings.ensures.bindings_as;
      theta = ((form_read g c.from.ensures c.index.ensures i l _ _ _ c.in_ok-bindings.ensures.bindings_as).cells, c.requires.memo_value);
    }

pub returns-clause-derived_as : goal.returns-clause-derived_as
returns-clause-derived_as c = λ g.
    form_answers g c.from.ensures c.index.ensures (there _ _ c.ok_or.ensures.ok_part c.in_ok-i.was)
    (list_is g.holds 3 (omega (arith, g.many)) c.list.ensures c.ok_or-2.ensures.ok_part c.in_ok-inner.was) _ _ _ c.in_ok-bindings.ensures.bindings_as
    _ _ _ _ c.apply_on.ensures.derived_as
