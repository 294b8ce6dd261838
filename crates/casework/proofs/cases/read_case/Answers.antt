use mathlib.Core.Path.{refl, ap, ◌∙◌}
use native.Mathlib.Omega.{arith}
use Rattle.std.specs.Prelude.{Err}
use Rattle.sexp.specs.NthItem.{has_items}
use Rattle.kernel.proofs.Handed.{handed}
use Rattle.kernel.proofs.Missing.{there, absent, question_is}
use Rattle.casework.specs.Laws.CaseItems.{vars_atom, vars_count, three, vars_unnamed, name_text, vars_no_index, vars_item, vars_no_vars, vars_read, inner_some, inner_item}
use Rattle.casework.proofs.Reading.{inner_is, inner_none}
use Rattle.casework.proofs.cases.read_case.Goals as goal

pub returns-in_err-inner : goal.returns-in_err-inner
returns-in_err-inner c = λ g.
    rw (handed c.from_residual.result c.from_residual.ensures ∙ ap Err (question_is _ _ c.ok_or.ensures.ok_part c.ok_or.ensures.value c.in_err-inner.was))
    (vars_atom g (inner_none g _ c.ok_or.ensures.ok_part c.in_err-inner.was c.list.ensures), refl)

pub count-requires : goal.count-requires
count-requires c = has_items (inner_is c.requires _ c.ok_or.ensures.ok_part c.in_ok-inner.was c.list.ensures).holds

pub returns-then-count-ne3 : goal.returns-then-count-ne3
returns-then-count-ne3 c = λ g. (vars_count g (inner_is g _ c.ok_or.ensures.ok_part c.in_ok-inner.was c.list.ensures) c.count.ensures c.if-count-ne3.true, refl)

pub item_at-requires : goal.item_at-requires
item_at-requires c = let i = (inner_is c.requires _ c.ok_or.ensures.ok_part c.in_ok-inner.was c.list.ensures) in inner_some i.holds (three c.requires i c.count.ensures c.if-count-ne3.false)

pub returns-in_default : goal.returns-in_default
returns-in_default c = λ g. (vars_unnamed g (inner_is g _ c.ok_or.ensures.ok_part c.in_ok-inner.was c.list.ensures) c.count.ensures c.if-count-ne3.false c.item_at.ensures c.in_default.is, refl)

pub index-requires : goal.index-requires
index-requires c = let i = (inner_is c.requires _ c.ok_or.ensures.ok_part c.in_ok-inner.was c.list.ensures) in inner_item i.holds (three c.requires i c.count.ensures c.if-count-ne3.false) 1 (omega arith) c.from.ensures

pub returns-in_err-fact : goal.returns-in_err-fact
returns-in_err-fact c = λ g.
    rw (handed c.from_residual-in_err-fact.result c.from_residual-in_err-fact.ensures ∙ ap Err (question_is _ _ c.ok_or-2.ensures.ok_part c.ok_or-2.ensures.value c.in_err-fact.was)) (
      vars_no_index g (inner_is g _ c.ok_or.ensures.ok_part c.in_ok-inner.was c.list.ensures) c.count.ensures c.if-count-ne3.false c.item_at.ensures c.in-Atom.is
          c.from.ensures c.index.ensures (absent _ _ c.ok_or-2.ensures.ok_part c.in_err-fact.was),
      refl,
    )

pub vars_list-listed-requires : goal.vars_list-listed-requires
vars_list-listed-requires c = (
  vars_item c.requires (inner_is c.requires _ c.ok_or.ensures.ok_part c.in_ok-inner.was c.list.ensures) c.count.ensures c.if-count-ne3.false c.item_at.ensures c.in-Atom.is
      c.from.ensures c.index.ensures (there _ _ c.ok_or-2.ensures.ok_part c.in_ok-fact.was) c.from-2.ensures,
  refl,
)

pub returns-in_err-variables : goal.returns-in_err-variables
returns-in_err-variables c = λ g.
    let i = (inner_is g _ c.ok_or.ensures.ok_part c.in_ok-inner.was c.list.ensures) in
    let f = there _ _ c.ok_or-2.ensures.ok_part c.in_ok-fact.was in
    let v = (rw (absent _ _ c.ok_or-3.ensures.ok_part c.in_err-variables.was) at c.vars_list-listed.ensures)
    (vars_item g i c.count.ensures c.if-count-ne3.false c.item_at.ensures c.in-Atom.is c.from.ensures c.index.ensures f c.from-2.ensures) in
    rw (handed c.from_residual-in_err-variables.result c.from_residual-in_err-variables.ensures ∙ ap Err (question_is _ _ c.ok_or-3.ensures.ok_part c.ok_or-3.ensures.value c.in_err-variables.was)) (
      vars_no_vars g i c.count.ensures c.if-count-ne3.false c.item_at.ensures c.in-Atom.is c.from.ensures c.index.ensures f c.from-2.ensures v.0,
      refl,
    )

pub atom_span-requires : goal.atom_span-requires
atom_span-requires c = omega (arith, (name_text c.requires (inner_is c.requires _ c.ok_or.ensures.ok_part c.in_ok-inner.was c.list.ensures) c.count.ensures c.if-count-ne3.false c.item_at.ensures c.in-Atom.is).inside)

pub returns : goal.returns
returns c = λ g.
    let i = (inner_is g _ c.ok_or.ensures.ok_part c.in_ok-inner.was c.list.ensures) in
    let f = there _ _ c.ok_or-2.ensures.ok_part c.in_ok-fact.was in
    let v = (rw (there _ _ c.ok_or-3.ensures.ok_part c.in_ok-variables.was) at c.vars_list-listed.ensures)
    (vars_item g i c.count.ensures c.if-count-ne3.false c.item_at.ensures c.in-Atom.is c.from.ensures c.index.ensures f c.from-2.ensures) in
    rw c.atom_span.ensures (vars_read g i c.count.ensures c.if-count-ne3.false c.item_at.ensures c.in-Atom.is c.from.ensures c.index.ensures f c.from-2.ensures v)
