use Rattle.derivation.proofs.StepRule.{by_atom, by_count, by_given, by_refused, by_scopes, by_answer}
use Rattle.kernel.proofs.Handed.{handed}
use Rattle.sexp.specs.NthItem.{has_items}
use native.Mathlib.Omega.{arith}
use mathlib.Core.Path.{ap, ◌∙◌}
use Rattle.std.specs.Prelude.{Err}
use Rattle.kernel.proofs.Missing.{question_is}
use Rattle.reading.specs.Laws.Parts.{list_is, list_not}
use Rattle.derivation.proofs.step.step_by.Goals as goal

pub returns-in_err-inner-clause-derived_as : goal.returns-in_err-inner-clause-derived_as
returns-in_err-inner-clause-derived_as c = λ g.
    rw (handed c.from_residual.result c.from_residual.ensures ∙ ap Err (question_is _ _ c.ok_or.ensures.ok_part c.ok_or.ensures.value c.in_err-inner.was))
    (by_atom g c.requires.known.0 (list_not g.holds 3 (omega (arith, g.many)) c.list.ensures c.ok_or.ensures.ok_part c.in_err-inner.was))

pub count-requires : goal.count-requires
count-requires c = has_items (list_is c.requires.reads.holds 3 (omega (arith, c.requires.reads.many)) c.list.ensures c.ok_or.ensures.ok_part c.in_ok-inner.was).holds

pub returns-then-count-ids-clause-derived_as : goal.returns-then-count-ids-clause-derived_as
returns-then-count-ids-clause-derived_as c = λ g. by_count g c.requires.known.0 (list_is g.holds 3 (omega (arith, g.many)) c.list.ensures c.ok_or.ensures.ok_part c.in_ok-inner.was) c.count.ensures c.requires.known.1 c.if-count-ids.true

pub references-requires-clause-reads : goal.references-requires-clause-reads
references-requires-clause-reads c = by_given c.requires.reads c.requires.known.0 (list_is c.requires.reads.holds 3 (omega (arith, c.requires.reads.many)) c.list.ensures c.ok_or.ensures.ok_part c.in_ok-inner.was) c.count.ensures c.requires.known.1 c.if-count-ids.false

pub returns-in_err-brought-clause-derived_as : goal.returns-in_err-brought-clause-derived_as
returns-in_err-brought-clause-derived_as c = λ g. rw (handed c.from_residual-in_err-brought.result c.from_residual-in_err-brought.ensures)
    (by_refused g c.requires.known.0 (list_is g.holds 3 (omega (arith, g.many)) c.list.ensures c.ok_or.ensures.ok_part c.in_ok-inner.was) c.count.ensures c.requires.known.1 c.if-count-ids.false c.in_err-brought.ensures.refs_as)

pub step_on-requires : goal.step_on-requires
step_on-requires c = by_scopes c.requires.reads c.requires.known.0 (list_is c.requires.reads.holds 3 (omega (arith, c.requires.reads.many)) c.list.ensures c.ok_or.ensures.ok_part c.in_ok-inner.was) c.count.ensures c.requires.known.1 c.if-count-ids.false
    c.in_ok-brought.ensures.refs_as c.references.auto.ids

pub returns-clause-derived_as : goal.returns-clause-derived_as
returns-clause-derived_as c = λ g. by_answer g c.requires.known.0 (list_is g.holds 3 (omega (arith, g.many)) c.list.ensures c.ok_or.ensures.ok_part c.in_ok-inner.was) c.count.ensures c.requires.known.1 c.if-count-ids.false
    c.in_ok-brought.ensures.refs_as c.references.auto.ids _ c.insert.ensures _ _ _ _ c.step_on.ensures.scoped_as
