use Prim.Native.Nat.{◌-◌}
use lib.ListN.{length}
use Rattle.casework.proofs.Tree.{Sought}
use Rattle.casework.proofs.distinct.NameTree.seek.Given as goal

abbrev pub invariant-loop-cell : goal.invariant-loop-cell
invariant-loop-cell l = let t = l.self in Sought t.text.now l.name t.places.now t.links.now t.many l.cell l.depth

abbrev pub decreases-loop-cell : goal.decreases-loop-cell
decreases-loop-cell l = length l.self.links.now - l.cell
