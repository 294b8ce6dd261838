use Rattle.std.proofs.Common.{sym, ◌∙◌}
use Rattle.exports.proofs.Turns.{even_list, odd_atom}
use Rattle.exports.proofs.bracketed.Goals as goal

pub returns-in-List : goal.returns-in-List
returns-in-List c = even_list _ (sym c.item_at.ensures ∙ c.in-List.is)

pub returns-in_default : goal.returns-in_default
returns-in_default c = odd_atom _ (sym c.item_at.ensures ∙ c.in_default.is)
