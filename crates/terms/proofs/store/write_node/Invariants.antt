use Rattle.std.proofs.Common.{◌≡◌, ℕ, ◌<◌, length, get_or}
use Rattle.terms.proofs.store.write_node.Given as goal

abbrev pub invariant-loop-i : goal.invariant-loop-i
invariant-loop-i l = (length l.cells ≡ length l.node) × ((k : ℕ) → k < l.i → get_or l.cells k 0 ≡ get_or l.node k 0)
