use Rattle.terms.specs.Lent.{SameTables}
use Rattle.terms.proofs.SubstLoop.{Looping}
use Rattle.terms.proofs.replace.+replace.Given as goal

abbrev pub invariant-loop-at : goal.invariant-loop-at
invariant-loop-at l =
    let s = l.initial.store in
    let t = l.store in
    record {
      tables : SameTables s t;
      looping : Looping s.index.now s.words.now s.mark l.map l.initial.memo l.id l.start l.end t.index.now t.words.now l.memo t.mark l.at;
    }

abbrev pub decreases-replace : goal.decreases-replace
decreases-replace l = l.id
