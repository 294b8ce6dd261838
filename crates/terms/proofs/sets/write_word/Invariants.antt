use Prim.Native.Nat.{◌+◌, ◌-◌}
use Rattle.rules.specs.Find.{rising_from}
use Rattle.terms.specs.Sets.{shifted}
use Rattle.terms.proofs.SetsOut.{Laying}
use Rattle.terms.proofs.sets.write_word.Given as goal

abbrev pub invariant-loop-left : goal.invariant-loop-left
invariant-loop-left l = Laying (rising_from l.base 64 (shifted l.base l.word)) l.initial.out l.out l.n l.base l.left l.at l.k

abbrev pub decreases-loop-left : goal.decreases-loop-left
decreases-loop-left l = l.base + 64 - l.at
