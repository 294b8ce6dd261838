use mathlib.Core.Path.{◌∙◌}
use Rattle.terms.proofs.Skips.{args_symbol, args_variable}
use Rattle.terms.proofs.patterns.Patterns.args_of.Goals as goal

pub returns-in-Symbol : goal.returns-in-Symbol
returns-in-Symbol c = rw c.in-Symbol.ensures.0 at (c.arity_of.ensures) ∙ args_symbol _ _ c.in-Symbol.ensures.1

pub returns-in-Variable : goal.returns-in-Variable
returns-in-Variable c = args_variable _ _ c.in-Variable.ensures.1
