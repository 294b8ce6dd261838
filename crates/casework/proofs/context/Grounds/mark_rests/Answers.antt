use mathlib.Core.Path.{refl, ◌∙◌}
use Rattle.casework.specs.Laws.Rows.{marks_over, marks_one}
use Rattle.casework.proofs.context.Grounds.mark_rests.Goals as goal

pub loop-h-preserved : goal.loop-h-preserved
loop-h-preserved c = (
  c.mark_one.ensures.others.0 ∙ c.loop-h.invariant.0,
  c.mark_one.ensures.others.1 ∙ c.loop-h.invariant.1,
  λ g. marks_one _ c.args.self.now.own.now _ _ c.loop-h.h-index (c.loop-h.invariant.2 g) c.loop-h-test.true _ refl c.loop-h.self.fine c.mark_one.new.self.fine refl
      (c.mark_one.ensures.marked g),
)

pub returns-clause-marked : goal.returns-clause-marked
returns-clause-marked c = λ g. marks_over _ c.args.self.now.own.now _ _ c.loop-h.h-index (c.loop-h.invariant.2 g) c.loop-h-test.false
