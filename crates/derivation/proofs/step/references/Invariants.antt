use Rattle.state.specs.Records.{fact_rows, fact_feet}
use mathlib.Core.Path.{◌≡◌}
use Prim.Native.Nat.{◌≤◌}
use lib.ListN.{length}
use Rattle.terms.specs.Lent.{SameTables}
use Rattle.referring.specs.Sources.{source_names}
use Rattle.derivation.proofs.StepRefs.{RefsSoFar}
use Rattle.derivation.proofs.step.references.Given as goal

abbrev pub invariant-loop-k : goal.invariant-loop-k
invariant-loop-k l =
    let s = l.initial.store in
    let t = l.store in
    let k = l.k-iterator.count in
    record {
      cells : l.k-iterator.iter.cells.now ≡ l.cells;
      tables : SameTables s t;
      refs : RefsSoFar (source_names l.source) (fact_rows l.source.records.now) (fact_feet l.source.records.now) l.source.lists.now l.source.reader.n s.index.now s.words.now s.mark l.cells
          t.index.now t.words.now t.mark l.ids l.support.hyps l.support.footing k l.instances l.k-iterator.iter.at;
      few : l.instances ≤ k;
      memo : l.memo ≡ l.initial.memo;
      long : length l.ids ≡ length l.initial.ids;
    }
