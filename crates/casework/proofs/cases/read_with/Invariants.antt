use Rattle.std.proofs.Common.{◌≡◌}
use Rattle.casework.specs.Cases.{ReadsCases}
use Rattle.casework.proofs.Finding.{Casing}
use Rattle.casework.proofs.cases.read_with.Given as goal

abbrev pub invariant-loop-item : goal.invariant-loop-item
invariant-loop-item l =
    record {
      cells : l.item-iterator.cells.now ≡ l.cells;
      text : l.names.text ≡ l.reader.text;
      casing : (g : ReadsCases l.reader l.cells) → Casing g.S g.xs l.reader.text.now l.cells l.names l.item-iterator.at;
    }
