use Rattle.state.specs.Records.{fact_rows, fact_feet}
use mathlib.Core.Path.{◌≡◌}
use lib.ListN.{replicate}
use Rattle.rules.specs.Limits.{TERMS}
use Rattle.terms.specs.Lent.{SameTables}
use Rattle.referring.specs.Sources.{source_names}
use Rattle.derivation.specs.Applying.{UsesRule}
use Rattle.derivation.proofs.Discharging.{Left}
use Rattle.derivation.proofs.apply.Rule.discharge.Given as goal

abbrev pub invariant-loop-k : goal.invariant-loop-k
invariant-loop-k l =
    let s = l.initial.store in
    let t = l.store in
    record {
      cells : l.k-iterator.iter.cells.now ≡ l.cells;
      tables : SameTables s t;
      memo : l.memo ≡ replicate TERMS 0;
      left : (g : UsesRule l.source s l.self l.cells) →
          Left (source_names l.source) (fact_rows l.source.records.now) (fact_feet l.source.records.now) l.source.lists.now l.source.reader.n s.index.now s.words.now s.mark
          l.self.fact l.cells l.self.bound.now
          g.S g.xs t.index.now t.words.now t.mark l.support.hyps l.support.footing l.used l.seen l.k-iterator.count l.k-iterator.iter.at;
    }
