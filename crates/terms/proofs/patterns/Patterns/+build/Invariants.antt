use Prim.Native.Nat.{◌-◌}
use borrow.Rule.Slice.PartMut.{put_mid}
use Rattle.std.proofs.Common.{◌≡◌, ◌∷◌, ◌+◌, replicate}
use Rattle.rules.specs.Limits.{NODE}
use lib.ListN.{length}
use Rattle.terms.specs.Lent.{SameTables}
use Rattle.terms.specs.Patterns.{cells_of}
use Rattle.terms.proofs.BuildTerms.{Building}
use Rattle.terms.proofs.patterns.Patterns.+build.Given as goal

abbrev pub invariant-loop-cell : goal.invariant-loop-cell
invariant-loop-cell l = record {
  same : SameTables l.initial.store l.store;
  building : Building l.self.symbols.now l.self.words.now l.initial.store.index.now l.initial.store.words.now l.initial.store.mark (cells_of l.bound) l.at l.word l.count l.store.index.now l.store.words.now (put_mid 1 (l.count + 1 - 1) (l.word ∷ replicate (NODE - 1) 0) l.cell-items) l.store.mark l.place l.cell-index;
  filled : length l.cell-items ≡ l.count + 1 - 1;
}

abbrev pub decreases-build : goal.decreases-build
decreases-build l = length l.self.now.words.now - l.at
