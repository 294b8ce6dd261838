use mathlib.Core.Path.{◌≡◌}
use Rattle.terms.specs.Lent.{SameTables}
use Rattle.induction.specs.Inducing.{PutAt}
use Rattle.induction.proofs.Supposes.{Supposing}
use Rattle.induction.proofs.motive.Motive.hypotheses_with.Given as goal

abbrev pub invariant-loop-v : goal.invariant-loop-v
invariant-loop-v l =
    let s = l.initial.store in
    let t = l.store in
    record {
      tables : SameTables s t;
      memo_same : l.memo ≡ l.initial.memo;
      put : PutAt l.self.x l.map;
      supposing : Supposing s.index.now s.words.now s.mark l.self.x l.self.sort l.self.judgment l.self.premises.now l.own l.sorts l.initial.ids t.index.now t.words.now l.ids t.mark l.at l.v-iterator.a.rest.now l.v-iterator.b.rest.now;
    }
