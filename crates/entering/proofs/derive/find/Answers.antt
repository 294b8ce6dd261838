use Rattle.std.specs.Prelude.{List, ℕ, ◌++◌, drop}
use Rattle.std.proofs.Common.{ap, ◌∙◌, take-append-drop}
use Rattle.rules.specs.Limits.{PATTERNS}
use Rattle.entering.proofs.derive.find.Goals as goal

pub step-requires-clause-ids_value : goal.step-requires-clause-ids_value
step-requires-clause-ids_value c = (rw c.in-Step.is at c.requires.spare).front_zero

pub returns-in-Step-clause-memo_unchanged : goal.returns-in-Step-clause-memo_unchanged
returns-in-Step-clause-memo_unchanged c = (
  c.step.ensures.memo_unchanged,
  ap (λ (r : List ℕ). r ++ drop PATTERNS c.args.ids.now) c.step.ensures.ids_unchanged ∙ take-append-drop PATTERNS c.args.ids.now,
)
