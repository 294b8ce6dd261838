use mathlib.Core.Path.{refl, ap, ◌∙◌}
use Rattle.std.specs.Prelude.{Err}
use Rattle.kernel.proofs.Handed.{handed}
use Rattle.kernel.proofs.Missing.{question_is}
use Rattle.reading.specs.Laws.Parts.{first_is, first_not}
use Rattle.derivation.proofs.OneItem.{none_there, some_there, item_atom_lem, item_empty_lem, item_nested, binds_given, item_given, item_bound, item_stated}
use Rattle.derivation.proofs.items.Said.read_item.Goals as goal

pub returns-in_err-inner-clause-item_as : goal.returns-in_err-inner-clause-item_as
returns-in_err-inner-clause-item_as c = λ g.
    rw (handed c.from_residual.result c.from_residual.ensures ∙ ap Err (question_is _ _ c.ok_or.ensures.ok_part c.ok_or.ensures.value c.in_err-inner.was))
    (item_atom_lem g (first_not g.holds c.list.ensures c.ok_or.ensures.ok_part c.in_err-inner.was), refl)

pub returns-then-is_empty-clause-item_as : goal.returns-then-is_empty-clause-item_as
returns-then-is_empty-clause-item_as c = λ g.
    (item_empty_lem g (first_is g.holds c.list.ensures c.ok_or.ensures.ok_part c.in_ok-inner.was) (none_there c.is_empty.ensures c.if-is_empty.true), refl)

pub returns-in_default-clause-item_as : goal.returns-in_default-clause-item_as
returns-in_default-clause-item_as c = λ g.
    let l = first_is g.holds c.list.ensures c.ok_or.ensures.ok_part c.in_ok-inner.was in
    (item_nested g l (some_there c.is_empty.ensures c.if-is_empty.false) c.item_at.ensures c.in_default.is, refl)

pub binds-requires : goal.binds-requires
binds-requires c =
    let l = first_is c.requires.holds c.list.ensures c.ok_or.ensures.ok_part c.in_ok-inner.was in
    binds_given c.requires l (some_there c.is_empty.ensures c.if-is_empty.false) c.item_at.ensures c.in-Atom.is

pub bind_item-requires : goal.bind_item-requires
bind_item-requires c =
    let l = first_is c.requires.holds c.list.ensures c.ok_or.ensures.ok_part c.in_ok-inner.was in
    let s = some_there c.is_empty.ensures c.if-is_empty.false in (
      item_given c.requires l s c.item_at.ensures c.in-Atom.is c.binds.result c.binds.ensures c.if-binds.true c.from.ensures,
      (binds_given c.requires l s c.item_at.ensures c.in-Atom.is).1,
    )

pub returns-then-binds-clause-item_as : goal.returns-then-binds-clause-item_as
returns-then-binds-clause-item_as c = λ g.
    let l = first_is g.holds c.list.ensures c.ok_or.ensures.ok_part c.in_ok-inner.was in
    item_bound g l (some_there c.is_empty.ensures c.if-is_empty.false) c.item_at.ensures c.in-Atom.is c.binds.result c.binds.ensures c.if-binds.true
    c.from.ensures _ _ _ _ _ c.bind_item.result c.bind_item.ensures.item_as

pub returns-clause-item_as : goal.returns-clause-item_as
returns-clause-item_as c = λ g.
    let l = first_is g.holds c.list.ensures c.ok_or.ensures.ok_part c.in_ok-inner.was in
    item_stated g l (some_there c.is_empty.ensures c.if-is_empty.false) c.item_at.ensures c.in-Atom.is c.binds.result c.binds.ensures c.if-binds.false
    _ _ _ _ _ c.state_item.result c.state_item.ensures.item_as
