use Rattle.unification.specs.Unify.{SameScratch, KeptButPairs}
use Rattle.unification.proofs.Piles.{Piling}
use Rattle.unification.proofs.unify.Scratch.push.Given as goal

abbrev pub invariant-loop-word : goal.invariant-loop-word
invariant-loop-word l =
    let x = l.initial.self in
    let y = l.self in
    record {
      same : SameScratch x y;
      unchanged : KeptButPairs x y;
      piling : Piling l.left l.right x.pairs.now x.waiting y.pairs.now y.waiting l.word-iterator.a.rest.now l.word-iterator.b.rest.now;
    }
