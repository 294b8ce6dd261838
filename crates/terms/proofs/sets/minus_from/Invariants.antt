use mathlib.Core.Bool.{◌&&◌, not}
use Rattle.terms.proofs.SetWords.{Joined}
use Rattle.terms.proofs.sets.minus_from.Given as goal

abbrev pub invariant-loop-i : goal.invariant-loop-i
invariant-loop-i l = Joined (λ p q. p && not q) l.initial.set l.other l.set l.i
