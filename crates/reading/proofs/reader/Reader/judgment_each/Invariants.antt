use mathlib.Core.Path.{◌≡◌}
use lib.ListN.{length}
use Rattle.terms.specs.Lent.{SameTables}
use Rattle.reading.specs.Reader.{names_of}
use Rattle.reading.specs.Given.{ReadsItems}
use Rattle.reading.proofs.Judgments.{Judging}
use Rattle.reading.proofs.reader.Reader.judgment_each.Given as goal

abbrev pub invariant-loop-k : goal.invariant-loop-k
invariant-loop-k l =
    let s = l.initial.store in
    let t = l.store in
    record {
      cells : l.k-iterator.iter.cells.now ≡ l.cells;
      tables : SameTables s t;
      long : length l.out ≡ length l.initial.out;
      judging : (g : ReadsItems (names_of l.self) l.self.n s.index.now s.words.now s.mark l.cells) →
          Judging (names_of l.self) l.self.n s.index.now s.words.now s.mark g.S g.xs l.cells t.index.now t.words.now l.out t.mark l.k-iterator.count l.k-iterator.iter.at;
    }
