use Prim.Native.Nat.{◌-◌}
use lib.ListN.{length}
use Rattle.kernel.specs.Tables.{lists_of, SameTables}
use Rattle.kernel.proofs.Runs.{Underway}
use Rattle.kernel.proofs.parse.declarations.Given as goal

abbrev pub invariant-loop-next : goal.invariant-loop-next
invariant-loop-next l = Underway l.text l.initial.cells l.cells (lists_of l.tables) l.tables.held l.forms l.at × SameTables l.initial.tables l.tables

abbrev pub decreases-loop-next : goal.decreases-loop-next
decreases-loop-next l = length l.text - l.at
