use Rattle.terms.proofs.Finds.{Seeking}
use Rattle.terms.proofs.store.Terms.find.Given as goal

abbrev pub invariant-loop-at : goal.invariant-loop-at
invariant-loop-at l = Seeking l.self.index.now l.self.words.now l.self.mark l.node l.at

abbrev pub decreases-loop-at : goal.decreases-loop-at
decreases-loop-at l = l.at
