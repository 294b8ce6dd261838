use Rattle.std.specs.Prelude.{◌-◌, length}
use Rattle.terms.specs.Lent.{SameTables}
use Rattle.state.specs.Boards.{SameBoard}
use Rattle.advancing.specs.Stepped.{IdleIn, SameScratch}
use Rattle.schematic.specs.Ran.{Kept}
use Rattle.schematic.proofs.prove.Given as goal

abbrev pub invariant-loop-next : goal.invariant-loop-next
invariant-loop-next l =
    Kept l.given l.board l.store l.at l.forms l.counts × IdleIn l.scratch
    × SameBoard l.initial.board l.board × SameTables l.initial.store l.store × SameScratch l.initial.scratch l.scratch

abbrev pub decreases-loop-next : goal.decreases-loop-next
decreases-loop-next l = length l.given.text.now - l.at
