use mathlib.Core.Path.{◌≡◌}
use Rattle.kernel.proofs.Premised.{Underway}
use Rattle.kernel.proofs.patterns.RuleReader.premises.Given as goal

abbrev pub invariant-loop-item : goal.invariant-loop-item
invariant-loop-item l =
    record {
      cells : l.item-iterator.cells.now ≡ l.cells;
      way : Underway l.fn.self l.self l.cells l.item-iterator.at;
    }
