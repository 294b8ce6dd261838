use Rattle.std.proofs.Common.{◌≡◌}
use Rattle.terms.specs.Lent.{SameTables}
use Rattle.unification.specs.Unify.{SameCells}
use Rattle.unification.specs.Peel.{weighs}
use Rattle.unification.proofs.Peels.{Peeling}
use Rattle.unification.proofs.peel.peel.Given as goal

abbrev pub invariant-loop-scratch : goal.invariant-loop-scratch
invariant-loop-scratch l =
    let s = l.initial.store in
    let t = l.store in
    let x = l.initial.scratch in
    let y = l.scratch in
    record {
      tables : SameTables s t;
      cells : SameCells x y;
      map : y.map.now ≡ x.map.now;
      peeling : Peeling s.index.now s.words.now s.mark l.theta x.memo.now x.pairs.now x.seen.now x.waiting t.index.now t.words.now y.memo.now y.pairs.now y.seen.now t.mark y.waiting;
    }

abbrev pub decreases-loop-scratch : goal.decreases-loop-scratch
decreases-loop-scratch l = let t = l.store in let y = l.scratch in weighs t.index.now t.words.now t.mark l.theta y.pairs.now y.waiting
