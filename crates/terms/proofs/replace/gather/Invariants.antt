use Rattle.terms.proofs.Gathers.{Gathering}
use Rattle.terms.proofs.replace.gather.Given as goal

abbrev pub invariant-loop-k : goal.invariant-loop-k
invariant-loop-k l = Gathering l.words l.memo l.initial.node l.node l.start l.end l.k
