use mathlib.Core.Path.{◌≡◌}
use Rattle.std.proofs.Common.{Bool}
use Rattle.rules.specs.State.{Fact}
use Rattle.state.specs.Records.{fact_rows}
use Rattle.reading.specs.Given.{FactsItems}
use Rattle.reading.specs.Tested.{Tests}
use Rattle.reading.proofs.Hypotheses.{Walking, Hyping}
use Rattle.reading.proofs.reader.Reader.hyp_each.Given as goal

abbrev pub invariant-loop-item : goal.invariant-loop-item
invariant-loop-item o l =
    record {
      cells : l.item-iterator.cells.now ≡ l.cells;
      walking : Walking l.self.text.now l.cells l.item-iterator.at;
      hyping : (g : FactsItems l.self.text.now (fact_rows l.facts) l.self.n l.cells) (p : Fact → Bool) → Tests o.F.Fn l.passes l.facts g.S p → Hyping p g.S g.xs l.self.text.now l.cells l.set l.item-iterator.at;
    }
