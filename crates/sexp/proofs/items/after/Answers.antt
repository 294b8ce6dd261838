use mathlib.Core.Path.{sym, ap, ◌∙◌}
use Rattle.sexp.specs.Items.{behind}
use Rattle.sexp.proofs.items.after.Goals as goal

pub returns-in-Atom : goal.returns-in-Atom
returns-in-Atom c = ap (behind _) (sym c.in-Atom.is ∙ c.item_at.ensures)

pub returns-in-List : goal.returns-in-List
returns-in-List c = ap (behind _) (sym c.in-List.is ∙ c.item_at.ensures)
