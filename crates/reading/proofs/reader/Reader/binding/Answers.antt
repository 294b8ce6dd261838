use mathlib.Core.Path.{ap, ◌∙◌}
use Rattle.std.specs.Prelude.{Err}
use Rattle.sexp.specs.NthItem.{has_items}
use Rattle.reading.specs.Laws.Parts.{first_is, first_not}
use Rattle.kernel.proofs.Handed.{handed}
use Rattle.kernel.proofs.Missing.{there, absent, question_is}
use Rattle.reading.proofs.Pairs.{binding_atom_lem, binding_count, binding_two, first_given, binding_unnamed, sort_given, second_given, binding_read, binding_refused}
use Rattle.reading.proofs.reader.Reader.binding.Goals as goal

pub returns-in_err-inner-clause-pair_as : goal.returns-in_err-inner-clause-pair_as
returns-in_err-inner-clause-pair_as c = λ g. rw (handed c.from_residual.result c.from_residual.ensures ∙ ap Err (question_is _ _ c.ok_or.ensures.ok_part c.ok_or.ensures.value c.in_err-inner.was))
    (binding_atom_lem g (first_not g.holds c.list.ensures c.ok_or.ensures.ok_part c.in_err-inner.was).1)

pub count-requires : goal.count-requires
count-requires c = has_items (first_is c.requires.holds c.list.ensures c.ok_or.ensures.ok_part c.in_ok-inner.was).holds

pub returns-then-count-ne2-clause-pair_as : goal.returns-then-count-ne2-clause-pair_as
returns-then-count-ne2-clause-pair_as c = λ g. binding_count g (first_is g.holds c.list.ensures c.ok_or.ensures.ok_part c.in_ok-inner.was) c.count.ensures c.if-count-ne2.true

pub variable-requires : goal.variable-requires
variable-requires c = first_given c.requires (binding_two c.requires (first_is c.requires.holds c.list.ensures c.ok_or.ensures.ok_part c.in_ok-inner.was) c.count.ensures c.if-count-ne2.false)

pub returns-in_err-variable-clause-pair_as : goal.returns-in_err-variable-clause-pair_as
returns-in_err-variable-clause-pair_as c = λ g.
    let two = binding_two g (first_is g.holds c.list.ensures c.ok_or.ensures.ok_part c.in_ok-inner.was) c.count.ensures c.if-count-ne2.false in
    rw (handed c.from_residual-in_err-variable.result c.from_residual-in_err-variable.ensures ∙ ap Err (question_is _ _ c.ok_or-2.ensures.ok_part c.ok_or-2.ensures.value c.in_err-variable.was)) (binding_unnamed g two c.variable.ensures
    (absent _ _ c.ok_or-2.ensures.ok_part c.in_err-variable.was))

pub var_sort-requires : goal.var_sort-requires
var_sort-requires c =
    let two = binding_two c.requires (first_is c.requires.holds c.list.ensures c.ok_or.ensures.ok_part c.in_ok-inner.was) c.count.ensures c.if-count-ne2.false in
    sort_given c.requires two c.variable.ensures (there _ _ c.ok_or-2.ensures.ok_part c.in_ok-variable.was)

pub term_of-requires : goal.term_of-requires
term_of-requires c =
    let two = binding_two c.requires (first_is c.requires.holds c.list.ensures c.ok_or.ensures.ok_part c.in_ok-inner.was) c.count.ensures c.if-count-ne2.false in
    second_given c.requires two c.variable.ensures (there _ _ c.ok_or-2.ensures.ok_part c.in_ok-variable.was) c.from-second.ensures

pub returns-in_err-term-clause-pair_as : goal.returns-in_err-term-clause-pair_as
returns-in_err-term-clause-pair_as c = λ g.
    let two = binding_two g (first_is g.holds c.list.ensures c.ok_or.ensures.ok_part c.in_ok-inner.was) c.count.ensures c.if-count-ne2.false in
    rw (handed c.from_residual-in_err-term.result c.from_residual-in_err-term.ensures)
    (binding_refused g two c.variable.ensures (there _ _ c.ok_or-2.ensures.ok_part c.in_ok-variable.was)
    c.from-second.ensures c.var_sort.ensures _ _ _ _ c.term_of.ensures.read_as c.in_err-term.was)

pub returns-clause-pair_as : goal.returns-clause-pair_as
returns-clause-pair_as c = λ g.
    let two = binding_two g (first_is g.holds c.list.ensures c.ok_or.ensures.ok_part c.in_ok-inner.was) c.count.ensures c.if-count-ne2.false in
    binding_read g two c.variable.ensures (there _ _ c.ok_or-2.ensures.ok_part c.in_ok-variable.was)
    c.from-second.ensures c.var_sort.ensures _ _ _ _ c.term_of.ensures.read_as c.in_ok-term.was
