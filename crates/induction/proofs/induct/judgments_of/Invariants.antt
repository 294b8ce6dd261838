use Rattle.state.specs.Records.{fact_rows}
use Rattle.induction.proofs.Inducts.{Judged}
use Rattle.terms.specs.Sets.{holds}
use Rattle.rules.specs.Find.{rising}
use Rattle.rules.specs.Limits.{FACTS}
use Rattle.induction.proofs.induct.judgments_of.Given as goal

abbrev pub invariant-loop-cell : goal.invariant-loop-cell
invariant-loop-cell l = Judged (fact_rows l.facts) (rising FACTS (holds l.hyps)) l.cell-items l.cell-index
