use mathlib.Core.Path.{◌≡◌}
use Prim.Native.Nat.{◌+◌, ◌*◌}
use lib.ListN.{length}
use Rattle.terms.specs.Lent.{SameTables}
use Rattle.reading.specs.Reader.{names_of}
use Rattle.reading.specs.Given.{ReadsItems}
use Rattle.reading.proofs.TermArguments.{Going}
use Rattle.reading.proofs.reader.Reader.+arguments_compound_term.Given as goal

abbrev pub decreases-arguments : goal.decreases-arguments
decreases-arguments l = 2 * length l.cells.now + 1

abbrev pub decreases-compound : goal.decreases-compound
decreases-compound l = 2 * length l.cells.now + 1

abbrev pub decreases-term : goal.decreases-term
decreases-term l = 2 * length l.cells.now

abbrev pub invariant-arguments-loop-k : goal.invariant-arguments-loop-k
invariant-arguments-loop-k l = record {
  cells : l.k-iterator.iter.cells.now ≡ l.cells;
  same : SameTables l.initial.store l.store;
  going : (g : ReadsItems (names_of l.self) l.self.n l.initial.store.index.now l.initial.store.words.now l.initial.store.mark l.cells) →
      Going (names_of l.self) l.self.n l.initial.store.index.now l.initial.store.words.now l.initial.store.mark l.cells l.c l.count g.S g.xs
      l.store.index.now l.store.words.now l.node l.store.mark l.k-iterator.iter.at l.k-iterator.count l.fits;
}
