use borrow.Author.Tests.{not-true, not-false}
use native.Mathlib.Omega.{arith}
use Rattle.sexp.specs.AtomText.{atom_high}
use Rattle.forms.proofs.Abbreviations.{def_no_name, def_name, def_no_mark, def_too_short, def_item, def_term_no, def_again, def_full, def_named}
use Rattle.kernel.proofs.Handed.{handed}
use mathlib.Core.Path.{refl, ap}
use mathlib.Core.Bool.{not}
use Rattle.kernel.proofs.Missing.{is_there, is_absent}
use Rattle.forms.proofs.declare.new_def.Goals as goal

pub returns-in_default-clause-named_as : goal.returns-in_default-clause-named_as
returns-in_default-clause-named_as c = λ g. def_no_name g c.nth.ensures c.in_default.is

pub marked-requires : goal.marked-requires
marked-requires c = (def_name (c.requires) c.nth.ensures c.in-Atom.is).inside

pub returns-then-not-marked-clause-named_as : goal.returns-then-not-marked-clause-named_as
returns-then-not-marked-clause-named_as c = λ g. def_no_mark g c.nth.ensures c.in-Atom.is c.marked.ensures (not-true _ (ap not c.if-not-marked.true))

pub atom_span-name-requires : goal.atom_span-name-requires
atom_span-name-requires c = omega (arith, (def_name c.requires c.nth.ensures c.in-Atom.is).inside)

pub overflow_add-start : goal.overflow_add-start
overflow_add-start c = omega (arith, (def_name c.requires c.nth.ensures c.in-Atom.is).inside, c.requires.reads.spelling.short)

pub returns-then-name-start-clause-named_as : goal.returns-then-name-start-clause-named_as
returns-then-name-start-clause-named_as c = λ g. def_too_short g c.nth.ensures c.in-Atom.is c.marked.ensures (not-false _ (ap not c.if-not-marked.false)) (rw c.atom_span-name.ensures at c.if-name-start.true)

pub term-requires : goal.term-requires
term-requires c = rw c.reader_of.ensures (def_item c.requires c.nth.ensures c.in-Atom.is c.marked.ensures (not-false _ (ap not c.if-not-marked.false)) (rw c.atom_span-name.ensures at c.if-name-start.false)
    c.from.ensures)

pub of-requires : goal.of-requires
of-requires c = rw c.atom_span-name.ensures (omega arith, atom_high _ _ _ (def_name c.requires c.nth.ensures c.in-Atom.is).inside refl)

pub returns-then-is_some-clause-named_as : goal.returns-then-is_some-clause-named_as
returns-then-is_some-clause-named_as c = λ g. let r = rw c.reader_of.ensures at c.in_ok-typed.ensures.typed_as in def_again g c.nth.ensures c.in-Atom.is c.marked.ensures (not-false _ (ap not c.if-not-marked.false)) (rw c.atom_span-name.ensures at c.if-name-start.false)
    c.from.ensures r c.def_named.result (rw (c.of.ensures, c.atom_span-name.ensures) at c.def_named.ensures) (is_there _ c.is_some.ensures c.if-is_some.true).1

pub returns-then-board-ge-DEFS-clause-named_as : goal.returns-then-board-ge-DEFS-clause-named_as
returns-then-board-ge-DEFS-clause-named_as c = λ g. let r = rw c.reader_of.ensures at c.in_ok-typed.ensures.typed_as in def_full g c.nth.ensures c.in-Atom.is c.marked.ensures (not-false _ (ap not c.if-not-marked.false)) (rw c.atom_span-name.ensures at c.if-name-start.false)
    c.from.ensures r c.def_named.result (rw (c.of.ensures, c.atom_span-name.ensures) at c.def_named.ensures) (is_absent _ c.is_some.ensures c.if-is_some.false) c.if-board-ge-DEFS.true

pub returns-in_err-typed-clause-named_as : goal.returns-in_err-typed-clause-named_as
returns-in_err-typed-clause-named_as c = λ g. let r = rw c.reader_of.ensures at c.in_err-typed.ensures.typed_as in
    rw (handed c.from_residual.result c.from_residual.ensures) (def_term_no g c.nth.ensures c.in-Atom.is c.marked.ensures
    (not-false _ (ap not c.if-not-marked.false)) (rw c.atom_span-name.ensures at c.if-name-start.false) c.from.ensures r)

pub returns-clause-named_as : goal.returns-clause-named_as
returns-clause-named_as c = λ g. let r = rw c.reader_of.ensures at c.in_ok-typed.ensures.typed_as in
    rw c.atom_span-name.ensures (def_named g c.nth.ensures c.in-Atom.is c.marked.ensures (not-false _ (ap not c.if-not-marked.false)) (rw c.atom_span-name.ensures at c.if-name-start.false)
    c.from.ensures r c.def_named.result (rw (c.of.ensures, c.atom_span-name.ensures) at c.def_named.ensures) (is_absent _ c.is_some.ensures c.if-is_some.false) c.if-board-ge-DEFS.false)
