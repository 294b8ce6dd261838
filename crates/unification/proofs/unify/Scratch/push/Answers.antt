use mathlib.Core.Logic.{inl, inr}
use native.Mathlib.Omega.{arith}
use Rattle.std.proofs.Common.{refl}
use Rattle.unification.proofs.Piles.{piling_begins, piling_on, piling_level, piling_ends}
use Rattle.unification.proofs.unify.Scratch.push.Goals as goal

pub loop-word-init : goal.loop-word-init
loop-word-init c = record {
  same = (refl, refl, refl, refl);
  unchanged = (refl, refl, refl);
  piling = piling_begins _ _ _ _ c.requires
      (rw (c.into_iter-word-iterator.ensures.into_iter_gives, c.zip-word-items.ensures.first) c.iter.ensures.rest)
      (rw c.into_iter-word-iterator.ensures.into_iter_gives c.zip-word-items.ensures.second.0);
}

pub loop-word-preserved : goal.loop-word-preserved
loop-word-preserved c =
    let i = c.loop-word.invariant in
    record { same = i.same; unchanged = i.unchanged; piling = piling_on _ _ _ _ _ _ i.piling c.in-Some.ensures.steps.0 c.in-Some.ensures.steps.1 }

pub returns-clause-pairs : goal.returns-clause-pairs
returns-clause-pairs c = (piling_ends _ _ _ _ _ _ c.loop-word.invariant.piling
    (elim c.in-None.ensures.steps [ inl p ↦ p.1.0 | inr p ↦ omega (arith, p.1.0, piling_level _ _ _ _ _ _ c.loop-word.invariant.piling) ])).0

pub returns-clause-waiting : goal.returns-clause-waiting
returns-clause-waiting c = (piling_ends _ _ _ _ _ _ c.loop-word.invariant.piling
    (elim c.in-None.ensures.steps [ inl p ↦ p.1.0 | inr p ↦ omega (arith, p.1.0, piling_level _ _ _ _ _ _ c.loop-word.invariant.piling) ])).1
