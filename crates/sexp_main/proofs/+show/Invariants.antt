-- A list's cells are fewer than those of the list around it.
use Rattle.std.proofs.Common.{◌≤◌, length}
use Rattle.sexp_main.proofs.+show.Given as goal

abbrev pub decreases-show : goal.decreases-show
decreases-show g l = length l.items.cells.now

abbrev pub invariant-loop-i : goal.invariant-loop-i
invariant-loop-i g l = length l.i-iterator.iter.cells.now ≤ length l.initial.items.cells.now
