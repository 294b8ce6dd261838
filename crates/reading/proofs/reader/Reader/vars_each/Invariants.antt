use mathlib.Core.Path.{◌≡◌}
use lib.ListN.{length}
use Rattle.rules.specs.Limits.{VARIABLES, VARIABLEWORDS}
use Rattle.reading.specs.Given.{VarsItems}
use Rattle.reading.proofs.Variables.{Varing}
use Rattle.reading.proofs.reader.Reader.vars_each.Given as goal

abbrev pub invariant-loop-k : goal.invariant-loop-k
invariant-loop-k l =
    record {
      cells : l.k-iterator.iter.cells.now ≡ l.cells;
      long : length l.out ≡ VARIABLES;
      wide : length l.seen ≡ VARIABLEWORDS;
      varing : (g : VarsItems l.self.goals.now l.self.text.now l.self.vars.now l.self.n.vars l.cells) →
          Varing g.S.vars g.xs l.self.text.now l.cells l.out l.seen l.k-iterator.count l.k-iterator.iter.at;
    }
