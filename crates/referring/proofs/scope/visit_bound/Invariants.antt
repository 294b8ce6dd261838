use Rattle.terms.specs.Patterns.{cells_of}
use Rattle.referring.proofs.ScopeCells.{Visiting}
use Rattle.referring.proofs.scope.visit_bound.Given as goal

abbrev pub invariant-loop-term : goal.invariant-loop-term
invariant-loop-term l = Visiting l.terms.index.now l.terms.words.now l.terms.mark (cells_of l.bound) l.initial.seen l.initial.set l.seen l.set l.term-index
