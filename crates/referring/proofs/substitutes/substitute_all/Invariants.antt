use Rattle.std.specs.Prelude.{◌≡◌}
use Rattle.terms.specs.Lent.{SameTables}
use Rattle.referring.proofs.Replacing.{Substituting}
use Rattle.referring.proofs.substitutes.substitute_all.Given as goal

abbrev pub invariant-loop-k : goal.invariant-loop-k
invariant-loop-k l =
    let s = l.initial.store in
    let t = l.store in
    record {
      tables : SameTables s t;
      memo_same : l.memo ≡ l.initial.memo;
      substituting : Substituting s.index.now s.words.now s.mark l.map l.ids t.index.now t.words.now l.out t.mark l.k;
    }
