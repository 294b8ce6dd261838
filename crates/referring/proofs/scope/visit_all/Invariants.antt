use Rattle.referring.proofs.ScopeVisits.{Visiting}
use Rattle.referring.proofs.scope.visit_all.Given as goal

abbrev pub invariant-loop-id : goal.invariant-loop-id
invariant-loop-id l = Visiting l.terms.index.now l.terms.words.now l.terms.mark l.ids l.initial.seen l.initial.set l.seen l.set l.id-index
