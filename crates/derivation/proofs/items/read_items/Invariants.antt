use mathlib.Core.Path.{◌≡◌}
use Rattle.terms.specs.Lent.{SameTables}
use Rattle.terms.specs.Patterns.{cells_of}
use Rattle.terms.specs.Sets.{counted_from_1}
use Rattle.reading.specs.Reader.{names_of}
use Rattle.derivation.specs.ItemsOf.{tables_of}
use Rattle.derivation.proofs.AllItems.{Itemed}
use Rattle.derivation.proofs.items.read_items.Given as goal

abbrev pub invariant-loop-item : goal.invariant-loop-item
invariant-loop-item l =
    let s = l.initial.store in
    let t = l.store in
    record {
      cells : l.item-iterator.cells.now ≡ l.cells;
      tables : SameTables s t;
      items : Itemed (names_of l.reader) (tables_of l.reader l.rule) l.reader.n s.index.now s.words.now s.mark l.rule.number l.cells
          t.index.now t.words.now t.mark (cells_of l.said.bound) (counted_from_1 l.said.stated) l.item-iterator.at;
    }
