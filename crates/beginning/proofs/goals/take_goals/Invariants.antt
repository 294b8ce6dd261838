use Rattle.std.specs.Prelude.{◌-◌, length}
use Rattle.terms.specs.Lent.{SameTables}
use Rattle.state.specs.Boards.{SameBoard}
use Rattle.beginning.proofs.Turns.{Turn}
use Rattle.beginning.proofs.goals.take_goals.Given as goal

abbrev pub invariant-loop-form : goal.invariant-loop-form
invariant-loop-form l = Turn l.given l.initial.cells l.cells l.board l.store l.forms l.at × SameBoard l.initial.board l.board × SameTables l.initial.store l.store

abbrev pub decreases-loop-form : goal.decreases-loop-form
decreases-loop-form l = length l.given.goals.now - l.at
