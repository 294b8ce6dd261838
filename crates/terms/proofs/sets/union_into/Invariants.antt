use mathlib.Core.Bool.{◌||◌}
use Rattle.terms.proofs.SetWords.{Joined}
use Rattle.terms.proofs.sets.union_into.Given as goal

abbrev pub invariant-loop-i : goal.invariant-loop-i
invariant-loop-i l = Joined (λ p q. p || q) l.initial.set l.other l.set l.i
