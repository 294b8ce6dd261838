use Rattle.terms.specs.Lent.{SameTables}
use Rattle.induction.proofs.Casings.{Keeping}
use Rattle.induction.proofs.cases.keep_case.Given as goal

abbrev pub invariant-loop-k : goal.invariant-loop-k
invariant-loop-k l =
    let s = l.initial.store in
    let t = l.store in
    record {
      tables : SameTables s t;
      keeping : Keeping s.index.now s.words.now s.mark l.c l.own t.index.now t.words.now l.node t.mark l.k;
    }
