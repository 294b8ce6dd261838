use Rattle.terms.specs.Lent.{SameTables}
use Rattle.unification.proofs.Values.{Changing}
use Rattle.unification.proofs.theta.replace_values.Given as goal

abbrev pub invariant-loop-cell : goal.invariant-loop-cell
invariant-loop-cell l =
    let s = l.initial.store in
    let t = l.store in
    record {
      tables : SameTables s t;
      changing : Changing s.index.now s.words.now s.mark l.initial.theta l.map l.initial.memo t.index.now t.words.now l.theta l.memo t.mark l.cell-index;
    }
