use borrow.Author.Tests.{not-true, not-false}
use mathlib.Core.Path.{refl, ap, ◌∙◌}
use Rattle.std.specs.Prelude.{Err}
use Rattle.kernel.proofs.Handed.{handed}
use Rattle.kernel.proofs.Missing.{there, absent, question_is}
use native.Mathlib.Omega.{arith}
use Rattle.sexp.specs.AtomText.{atom_high}
use Rattle.forms.proofs.Variables.{var_no_name, var_name_lem, var_no_sort, var_sort_held, var_sort_missing, var_is_marked, var_is_used, var_no_room, var_fits, var_is_added}
use mathlib.Core.Bool.{not}
use Rattle.forms.proofs.declare.add_var_of.Goals as goal

pub returns-in_default-clause-var_as : goal.returns-in_default-clause-var_as
returns-in_default-clause-var_as c = λ g. (var_no_name g c.nth.ensures _ c.in_default.is, refl, refl)

pub head-requires : goal.head-requires
head-requires c = var_sort_held c.requires.0 c.nth.ensures c.in-Atom.is c.from.ensures

pub returns-in_err-own-clause-var_as : goal.returns-in_err-own-clause-var_as
returns-in_err-own-clause-var_as c = λ g.
    rw (handed c.from_residual.result c.from_residual.ensures ∙ ap Err (question_is _ _ c.ok_or.ensures.ok_part c.ok_or.ensures.value c.in_err-own.was))
    (var_no_sort g c.nth.ensures c.in-Atom.is c.from.ensures _ c.head.ensures _ (absent _ _ c.ok_or.ensures.ok_part c.in_err-own.was), refl, refl)

pub returns-in_err-sort-clause-var_as : goal.returns-in_err-sort-clause-var_as
returns-in_err-sort-clause-var_as c = λ g.
    rw (handed c.from_residual-in_err-sort.result c.from_residual-in_err-sort.ensures
    ∙ ap Err (question_is _ _ c.ok_or-2.ensures.ok_part c.ok_or-2.ensures.value c.in_err-sort.was)) (
      var_sort_missing g c.nth.ensures c.in-Atom.is c.from.ensures _ c.head.ensures (there _ _ c.ok_or.ensures.ok_part c.in_ok-own.was) c.named.ensures _
          (absent _ _ c.ok_or-2.ensures.ok_part c.in_err-sort.was),
      refl,
      refl,
    )

pub marked-requires : goal.marked-requires
marked-requires c = (var_name_lem c.requires.0 c.nth.ensures c.in-Atom.is).inside

pub returns-then-marked-clause-var_as : goal.returns-then-marked-clause-var_as
returns-then-marked-clause-var_as c = λ g. (
  var_is_marked g c.nth.ensures c.in-Atom.is c.from.ensures _ c.head.ensures (there _ _ c.ok_or.ensures.ok_part c.in_ok-own.was) c.named.ensures
      (there _ _ c.ok_or-2.ensures.ok_part c.in_ok-sort.was) _ c.marked.ensures c.if-marked.true,
  refl,
  refl,
)

pub atom_span-name-requires : goal.atom_span-name-requires
atom_span-name-requires c = omega (arith, (var_name_lem c.requires.0 c.nth.ensures c.in-Atom.is).inside)

pub of-requires : goal.of-requires
of-requires c = rw c.atom_span-name.ensures (omega arith, atom_high _ _ _ (var_name_lem c.requires.0 c.nth.ensures c.in-Atom.is).inside refl)

pub returns-then-not-is_unused-clause-var_as : goal.returns-then-not-is_unused-clause-var_as
returns-then-not-is_unused-clause-var_as c = λ g. (
  var_is_used g c.nth.ensures c.in-Atom.is c.from.ensures _ c.head.ensures (there _ _ c.ok_or.ensures.ok_part c.in_ok-own.was) c.named.ensures
      (there _ _ c.ok_or-2.ensures.ok_part c.in_ok-sort.was) c.marked.ensures c.if-marked.false (rw (c.of.ensures, c.atom_span-name.ensures) at c.is_unused.ensures) _ (not-true _ (ap not c.if-not-is_unused.true)),
  refl,
  refl,
)

pub returns-then-board-ge-VARIABLES-clause-var_as : goal.returns-then-board-ge-VARIABLES-clause-var_as
returns-then-board-ge-VARIABLES-clause-var_as c = λ g. (
  var_no_room g c.nth.ensures c.in-Atom.is c.from.ensures _ c.head.ensures (there _ _ c.ok_or.ensures.ok_part c.in_ok-own.was) c.named.ensures
      (there _ _ c.ok_or-2.ensures.ok_part c.in_ok-sort.was) c.marked.ensures c.if-marked.false (rw (c.of.ensures, c.atom_span-name.ensures) at c.is_unused.ensures) (not-false _ (ap not c.if-not-is_unused.false))
      _ c.if-board-ge-VARIABLES.true,
  refl,
  refl,
)

pub put_var_row-requires : goal.put_var_row-requires
put_var_row-requires c = rw c.atom_span-name.ensures
    (var_fits c.requires.0 c.nth.ensures c.in-Atom.is c.from.ensures _ c.head.ensures (there _ _ c.ok_or.ensures.ok_part c.in_ok-own.was) c.named.ensures
    (there _ _ c.ok_or-2.ensures.ok_part c.in_ok-sort.was) c.marked.ensures c.if-marked.false (rw (c.of.ensures, c.atom_span-name.ensures) at c.is_unused.ensures) (not-false _ (ap not c.if-not-is_unused.false)) (omega (arith, c.requires.1)) c.if-board-ge-VARIABLES.false)

pub returns-clause-var_as : goal.returns-clause-var_as
returns-clause-var_as c = λ g. (
  var_is_added g c.nth.ensures c.in-Atom.is c.from.ensures _ c.head.ensures (there _ _ c.ok_or.ensures.ok_part c.in_ok-own.was) c.named.ensures
      (there _ _ c.ok_or-2.ensures.ok_part c.in_ok-sort.was) c.marked.ensures c.if-marked.false (rw (c.of.ensures, c.atom_span-name.ensures) at c.is_unused.ensures) (not-false _ (ap not c.if-not-is_unused.false)) _ c.if-board-ge-VARIABLES.false
      (rw c.atom_span-name.ensures at c.put_var_row.ensures),
  refl,
)
