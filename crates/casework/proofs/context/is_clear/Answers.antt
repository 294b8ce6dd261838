use mathlib.Core.Path.{refl, ◌∙◌}
use Rattle.terms.specs.Lent.{terms_made}
use Rattle.terms.specs.Laws.Seen.{seen_none}
use Rattle.casework.proofs.Clear.{clear_set, clear_is}
use Rattle.casework.proofs.context.is_clear.Goals as goal

pub visit_cells-requires-clause-seen : goal.visit_cells-requires-clause-seen
visit_cells-requires-clause-seen c = seen_none _ _ _ _ _ refl

pub returns : goal.returns
returns c = c.none_in.ensures
    ∙ clear_is (terms_made c.args.terms.now) c.args.variables.now c.args.map.now c.visit_cells.new.set
    (clear_set c.args.map.now c.visit_cells.new.set refl c.visit_cells.ensures)
