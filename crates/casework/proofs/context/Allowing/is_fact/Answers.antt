use Rattle.referring.specs.Laws.Refers.{fact_asks}
use Rattle.casework.specs.Laws.Rows.{row_other, row_else, row_so}
use Rattle.casework.proofs.context.Allowing.is_fact.Goals as goal

pub judgment-requires : goal.judgment-requires
judgment-requires c = fact_asks c.requires.0.recalls.recorded c.requires.1

pub returns-then-judgment-self : goal.returns-then-judgment-self
returns-then-judgment-self c = λ g. row_other g.recalls c.requires.1 _ _ g.judgment g.premises c.judgment.ensures c.if-judgment-self.true

pub returns-then-eq : goal.returns-then-eq
returns-then-eq c = λ g. row_so g.recalls c.requires.1 _ _ g.judgment g.premises (rw c.premises.ensures at c.eq.ensures) c.judgment.ensures c.if-judgment-self.false c.if-eq.true
    (rw c.general.ensures at c.eq-then-eq.ensures)

pub returns-else-eq : goal.returns-else-eq
returns-else-eq c = λ g. row_else g.recalls c.requires.1 _ _ g.judgment g.premises (rw c.premises.ensures at c.eq.ensures) c.if-eq.false
