use mathlib.Core.Path.{sym, ◌∙◌}
use Rattle.cells.proofs.Answered.{kept, wiped}
use Rattle.cells.proofs.or_cleared.Goals as goal

pub returns-then-is_err-clause-cleared : goal.returns-then-is_err-clause-cleared
returns-then-is_err-clause-cleared g c = wiped _ _ _ (sym c.is_err.ensures.value ∙ c.if-is_err.true) _ c.clear.ensures

pub returns-else-is_err-clause-cleared : goal.returns-else-is_err-clause-cleared
returns-else-is_err-clause-cleared g c = kept _ _ _ (sym c.is_err.ensures.value ∙ c.if-is_err.false)
