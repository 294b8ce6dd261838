use Rattle.state.specs.Records.{fact_rows}
use Rattle.referring.proofs.ScopeHyps.{Joining}
use Rattle.referring.proofs.source.Facts.join_hyps.Given as goal

abbrev pub invariant-loop-id : goal.invariant-loop-id
invariant-loop-id l = Joining (fact_rows l.self.records.now) l.self.lists.now l.self.n l.terms.index.now l.terms.words.now l.terms.mark l.hyps l.initial.seen l.initial.set l.seen l.set l.id-index
