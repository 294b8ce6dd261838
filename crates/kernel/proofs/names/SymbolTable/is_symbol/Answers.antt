use mathlib.Core.Path.{sym, ◌∙◌}
use Rattle.kernel.proofs.Rows.{symbol_is, symbol_not}
use Rattle.kernel.proofs.names.SymbolTable.is_symbol.Goals as goal

pub returns-then-has : goal.returns-then-has
returns-then-has c = λ s a. rw (c.of.ensures, c.span_at.ensures) at c.same.ensures ∙ symbol_is c.args.name.now c.args.kind a (sym c.has.ensures ∙ c.if-has.true)

pub returns-else-has : goal.returns-else-has
returns-else-has c = λ s a. c.if-has.false ∙ symbol_not c.args.name.now c.args.kind a (sym c.has.ensures ∙ c.if-has.false)
