use Rattle.std.proofs.Common.{suc, ◌-◌}
use Rattle.terms.specs.Lent.{SameTables}
use Rattle.unification.specs.Unify.{SameCells}
use Rattle.unification.proofs.Unifies.{Solving}
use Rattle.unification.proofs.unify.solve.Given as goal

abbrev pub invariant-loop-round : goal.invariant-loop-round
invariant-loop-round l =
    let s = l.initial.store in
    let t = l.store in
    let x = l.initial.scratch in
    let y = l.scratch in
    record {
      tables : SameTables s t;
      cells : SameCells x y;
      solving : Solving s.index.now s.words.now s.mark l.count l.initial.theta x.map.now x.memo.now x.pairs.now x.seen.now x.waiting t.index.now t.words.now l.theta y.map.now y.memo.now y.pairs.now y.seen.now t.mark y.waiting (suc l.count - l._round);
    }
