use mathlib.Core.Path.{◌≡◌}
use mathlib.Core.List.{List}
use Prim.Native.Nat.{ℕ, ◌*◌, ◌≤◌}
use lib.ListN.{length}
use Rattle.rules.specs.Limits.{VARIABLES}
use Rattle.rules.specs.State.{Var}
use Rattle.state.specs.Held.{VarsHeld}
use Rattle.inversion.specs.InvertRules.{vars_with}
use Rattle.inversion.proofs.invert.put_made.Given as goal

abbrev pub invariant-loop-v : goal.invariant-loop-v
invariant-loop-v l = (l.count ≤ l.v) × (l.v ≤ l.made.count) × (length l.vars ≡ 4 * VARIABLES) × ((goals text : List ℕ) (vs : List Var) → VarsHeld goals text l.initial.vars l.count vs → VarsHeld goals text l.vars l.v (vars_with vs l.made.sorts l.v))
