use mathlib.Core.Path.{sym, ap, ◌∙◌}
use native.Mathlib.Omega.{arith}
use lib.ListN.{length}
use Rattle.referring.specs.Laws.Fronts.{front_room, front_count, back_room, back_count, front_cleared}
use Rattle.referring.specs.Ids.{IDS}
use Rattle.casework.proofs.Under.{premises_few}
use Rattle.casework.proofs.context.Grounds.context_under.Goals as goal

pub slice_bounds-fact_under-end : goal.slice_bounds-fact_under-end
slice_bounds-fact_under-end c = front_room IDS c.requires.2 _ (omega (arith, premises_few c.requires.0 c.requires.1 c.premises-many.ensures))

pub slice_bounds-fact_under-end-2 : goal.slice_bounds-fact_under-end-2
slice_bounds-fact_under-end-2 c = front_count IDS c.requires.2 _ (omega (arith, premises_few c.requires.0 c.requires.1 c.premises-many.ensures))

pub fact_under-answer-requires : goal.fact_under-answer-requires
fact_under-answer-requires c = (
  c.requires.0,
  c.requires.1,
  sym (front_count IDS c.requires.2 _ (omega (arith, premises_few c.requires.0 c.requires.1 c.premises-many.ensures))) ∙ ap length c.premises-many.ensures,
)

pub slice_bounds-clear-end : goal.slice_bounds-clear-end
slice_bounds-clear-end c = back_room IDS c.requires.2 _ (omega (arith, premises_few c.requires.0 c.requires.1 c.premises-many.ensures)) c.fact_under-answer.new.ids c.fact_under-answer.auto.ids

pub slice_bounds-clear-end-2 : goal.slice_bounds-clear-end-2
slice_bounds-clear-end-2 c = back_count IDS c.requires.2 _ (omega (arith, premises_few c.requires.0 c.requires.1 c.premises-many.ensures)) c.fact_under-answer.new.ids c.fact_under-answer.auto.ids

pub returns-clause-memo_unchanged : goal.returns-clause-memo_unchanged
returns-clause-memo_unchanged c = (
  c.fact_under-answer.ensures.memo_unchanged,
  front_cleared IDS c.requires.2 _ (omega (arith, premises_few c.requires.0 c.requires.1 c.premises-many.ensures)) c.fact_under-answer.new.ids c.fact_under-answer.auto.ids
      c.clear.new.cells c.clear.ensures,
)
