use Prim.Native.Nat.{◌-◌}
use lib.ListN.{length}
use Rattle.terms.proofs.Skips.{Skipping}
use Rattle.terms.proofs.patterns.Patterns.skip.Given as goal

abbrev pub invariant-loop-left : goal.invariant-loop-left
invariant-loop-left l = Skipping l.self.symbols.now l.self.words.now l.at l.n l.place l.left

abbrev pub decreases-loop-left : goal.decreases-loop-left
decreases-loop-left l = length l.self.words.now - l.place
