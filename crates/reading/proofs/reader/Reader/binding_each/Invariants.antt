use mathlib.Core.Path.{◌≡◌}
use Rattle.terms.specs.Lent.{SameTables}
use Rattle.reading.specs.Reader.{names_of}
use Rattle.reading.proofs.Binds.{Binds}
use Rattle.reading.proofs.reader.Reader.binding_each.Given as goal

abbrev pub invariant-loop-item : goal.invariant-loop-item
invariant-loop-item l =
    let s = l.initial.store in
    let t = l.store in
    record {
      cells : l.item-iterator.cells.now ≡ l.cells;
      tables : SameTables s t;
      binds : Binds (names_of l.self) l.self.n s.index.now s.words.now s.mark l.cells t.index.now t.words.now t.mark l.map l.item-iterator.at;
    }
