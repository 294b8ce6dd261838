use Rattle.derivation.proofs.StepForm.{name_held, step_list, step_unnamed, step_known, step_most, step_answer}
use mathlib.Core.Path.{ap, ◌∙◌}
use Rattle.std.specs.Prelude.{Err}
use Rattle.kernel.proofs.Handed.{handed}
use Rattle.kernel.proofs.Missing.{there, absent, question_is}
use Rattle.rules.specs.Limits.{PATTERNS}
use Rattle.referring.specs.Laws.Fronts.{front_room, front_count, back_room, back_count, front_cleared}
use Rattle.derivation.proofs.StepRule.{by_there, premises_cells}
use Rattle.derivation.proofs.step.step.Goals as goal

pub head-requires : goal.head-requires
head-requires c = name_held c.requires.reads c.from.ensures

pub returns-in_err-name-clause-derived_as : goal.returns-in_err-name-clause-derived_as
returns-in_err-name-clause-derived_as c = λ g.
    rw (handed c.from_residual.result c.from_residual.ensures ∙ ap Err (question_is _ _ c.ok_or.ensures.ok_part c.ok_or.ensures.value c.in_err-name.was))
    (step_list g c.from.ensures _ c.head.ensures (absent _ _ c.ok_or.ensures.ok_part c.in_err-name.was))

pub returns-in_err-number-clause-derived_as : goal.returns-in_err-number-clause-derived_as
returns-in_err-number-clause-derived_as c = λ g.
    rw (handed c.from_residual-in_err-number.result c.from_residual-in_err-number.ensures
    ∙ ap Err (question_is _ _ c.ok_or-2.ensures.ok_part c.ok_or-2.ensures.value c.in_err-number.was))
    (step_unnamed g c.from.ensures _ c.head.ensures (there _ _ c.ok_or.ensures.ok_part c.in_ok-name.was) c.rule_named.ensures (absent _ _ c.ok_or-2.ensures.ok_part c.in_err-number.was))

pub premises-few-requires : goal.premises-few-requires
premises-few-requires c = by_there c.requires.reads (step_known c.requires.reads c.from.ensures _ c.head.ensures (there _ _ c.ok_or.ensures.ok_part c.in_ok-name.was) c.rule_named.ensures (there _ _ c.ok_or-2.ensures.ok_part c.in_ok-number.was))

pub slice_bounds-step_by-end : goal.slice_bounds-step_by-end
slice_bounds-step_by-end c = front_room PATTERNS c.requires.ids_value c.premises-few.result
    (step_most c.requires.reads c.from.ensures _ c.head.ensures (there _ _ c.ok_or.ensures.ok_part c.in_ok-name.was) c.rule_named.ensures (there _ _ c.ok_or-2.ensures.ok_part c.in_ok-number.was) c.premises-few.ensures)

pub slice_bounds-step_by-end-2 : goal.slice_bounds-step_by-end-2
slice_bounds-step_by-end-2 c = front_count PATTERNS c.requires.ids_value c.premises-few.result
    (step_most c.requires.reads c.from.ensures _ c.head.ensures (there _ _ c.ok_or.ensures.ok_part c.in_ok-name.was) c.rule_named.ensures (there _ _ c.ok_or-2.ensures.ok_part c.in_ok-number.was) c.premises-few.ensures)

pub step_by-answer-requires-clause-known : goal.step_by-answer-requires-clause-known
step_by-answer-requires-clause-known c = (
  step_known c.requires.reads c.from.ensures _ c.head.ensures (there _ _ c.ok_or.ensures.ok_part c.in_ok-name.was) c.rule_named.ensures (there _ _ c.ok_or-2.ensures.ok_part c.in_ok-number.was),
  premises_cells c.premises-few.ensures
      (front_count PATTERNS c.requires.ids_value c.premises-few.result
      (step_most c.requires.reads c.from.ensures _ c.head.ensures (there _ _ c.ok_or.ensures.ok_part c.in_ok-name.was) c.rule_named.ensures (there _ _ c.ok_or-2.ensures.ok_part c.in_ok-number.was) c.premises-few.ensures)),
)

pub slice_bounds-clear-end : goal.slice_bounds-clear-end
slice_bounds-clear-end c = back_room PATTERNS c.requires.ids_value c.premises-few.result
    (step_most c.requires.reads c.from.ensures _ c.head.ensures (there _ _ c.ok_or.ensures.ok_part c.in_ok-name.was) c.rule_named.ensures (there _ _ c.ok_or-2.ensures.ok_part c.in_ok-number.was) c.premises-few.ensures)
    c.step_by-answer.new.ids c.step_by-answer.auto.ids

pub slice_bounds-clear-end-2 : goal.slice_bounds-clear-end-2
slice_bounds-clear-end-2 c = back_count PATTERNS c.requires.ids_value c.premises-few.result
    (step_most c.requires.reads c.from.ensures _ c.head.ensures (there _ _ c.ok_or.ensures.ok_part c.in_ok-name.was) c.rule_named.ensures (there _ _ c.ok_or-2.ensures.ok_part c.in_ok-number.was) c.premises-few.ensures)
    c.step_by-answer.new.ids c.step_by-answer.auto.ids

pub returns-clause-derived_as : goal.returns-clause-derived_as
returns-clause-derived_as c = λ g. step_answer g c.from.ensures _ c.head.ensures (there _ _ c.ok_or.ensures.ok_part c.in_ok-name.was) c.rule_named.ensures (there _ _ c.ok_or-2.ensures.ok_part c.in_ok-number.was)
    _ _ _ c.step_by-answer.result (c.step_by-answer.ensures.derived_as g)

pub returns-clause-ids_unchanged : goal.returns-clause-ids_unchanged
returns-clause-ids_unchanged c = front_cleared PATTERNS c.requires.ids_value c.premises-few.result
    (step_most c.requires.reads c.from.ensures _ c.head.ensures (there _ _ c.ok_or.ensures.ok_part c.in_ok-name.was) c.rule_named.ensures (there _ _ c.ok_or-2.ensures.ok_part c.in_ok-number.was) c.premises-few.ensures)
    c.step_by-answer.new.ids c.step_by-answer.auto.ids c.clear.new.cells c.clear.ensures
