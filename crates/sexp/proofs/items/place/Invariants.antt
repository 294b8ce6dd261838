use mathlib.Core.Path.{◌≡◌}
use Prim.Native.Nat.{ℕ, ◌+◌}
use Rattle.sexp.proofs.Tallies.{Seeks}
use Rattle.sexp.proofs.items.place.Given as goal

abbrev pub invariant-loop-k : goal.invariant-loop-k
invariant-loop-k l = (l.items.cells.now ≡ l.words) × (left : ℕ) × (l._k + left ≡ l.number) × Seeks l.words l.number l.items.at left
