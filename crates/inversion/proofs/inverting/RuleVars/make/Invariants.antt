use mathlib.Core.Path.{◌≡◌}
use mathlib.Core.List.{List}
use Prim.Native.Nat.{◌+◌, ◌≤◌}
use lib.ListN.{length}
use Rattle.rules.specs.Limits.{VARIABLES, RULEVARS}
use Rattle.rules.specs.Theory.{rule}
use Rattle.rules.specs.State.{Var}
use Rattle.inversion.specs.Inverting.{RuleVarsIn}
use Rattle.inversion.proofs.InvertNames.{Making}
use Rattle.inversion.proofs.inverting.RuleVars.make.Given as goal

abbrev pub invariant-loop-k : goal.invariant-loop-k
invariant-loop-k l = (l.k ≤ l.self.count) × (l.count + l.k ≤ VARIABLES) × (l.names.count ≡ l.count) × (l.names.taken ≡ l.initial.names.taken) × (length l.names.sorts ≡ VARIABLES) × (length l.list ≡ RULEVARS)
    × ((g : RuleVarsIn l.self) (vs : List Var) → length vs ≤ l.count → Making vs (rule g.T l.self.rule).vars l.initial.names.sorts l.names.sorts l.count l.list (l.count + l.k) l.k)
