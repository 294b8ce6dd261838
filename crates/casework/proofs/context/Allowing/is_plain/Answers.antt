use mathlib.Core.Path.{sym, ap, ◌∙◌}
use mathlib.Core.Bool.{Bool, ◌&&◌}
use lib.Dec.{eqb}
use lib.ListN.{length}
use Rattle.casework.proofs.Allow.{bare_is}
use Rattle.casework.proofs.context.Allowing.is_plain.Goals as goal

pub returns-then-is_empty : goal.returns-then-is_empty
returns-then-is_empty c = λ M. c.is_empty-then-is_empty.ensures
    ∙ ap (λ (b : Bool). b && eqb (length c.args.self.now.general.now) 0) (sym c.if-is_empty.true ∙ c.is_empty.ensures)
    ∙ bare_is M _ c.args.self.now.judgment _

pub returns-else-is_empty : goal.returns-else-is_empty
returns-else-is_empty c = λ M. c.if-is_empty.false
    ∙ ap (λ (b : Bool). b && eqb (length c.args.self.now.general.now) 0) (sym c.if-is_empty.false ∙ c.is_empty.ensures)
    ∙ bare_is M _ c.args.self.now.judgment _
