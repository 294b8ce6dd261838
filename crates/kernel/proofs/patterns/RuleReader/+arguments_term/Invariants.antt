use mathlib.Core.Path.{◌≡◌}
use Prim.Native.Nat.{◌+◌, ◌*◌}
use lib.ListN.{length}
use Rattle.kernel.proofs.Argued.{Going}
use Rattle.kernel.proofs.patterns.RuleReader.+arguments_term.Given as goal

abbrev pub decreases-arguments : goal.decreases-arguments
decreases-arguments l = 2 * length l.cells.now + 1

abbrev pub decreases-term : goal.decreases-term
decreases-term l = 2 * length l.cells.now

abbrev pub invariant-arguments-loop-k : goal.invariant-arguments-loop-k
invariant-arguments-loop-k l = record {
  cells : l.k-iterator.iter.cells.now ≡ l.cells;
  going : Going l.fn.self l.self l.cells l.c l.k-iterator.count l.k-iterator.iter.at;
}
