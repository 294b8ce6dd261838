use mathlib.Core.Path.{refl, ◌∙◌}
use native.Mathlib.Omega.{arith}
use mathlib.Core.Logic.{inl, inr}
use Rattle.std.proofs.lemmas.Result.{err_from_is_err_and}
use Rattle.induction.proofs.Supposes.{supposing_start, supposing_skip, supposing_stopped, supposing_again, supposing_done}
use Rattle.induction.proofs.motive.Motive.hypotheses_with.Goals as goal

pub loop-v-init : goal.loop-v-init
loop-v-init c = record {
  tables = (refl, refl);
  memo_same = refl;
  put = c.requires.put;
  supposing = supposing_start _ c.requires.motived.0 c.requires.below
      (rw (c.into_iter-v-iterator.ensures.into_iter_gives, c.zip-v-items.ensures.first) c.iter.ensures.rest)
      (rw c.into_iter-v-iterator.ensures.into_iter_gives c.zip-v-items.ensures.second.0);
}

pub loop-v-preserved-then-sort-self : goal.loop-v-preserved-then-sort-self
loop-v-preserved-then-sort-self c =
    let h = c.loop-v.invariant.supposing in
    record { tables = c.loop-v.invariant.tables; memo_same = c.loop-v.invariant.memo_same; put = c.loop-v.invariant.put; supposing = supposing_skip _ c.requires.motived.0 c.requires.below h c.in-Some.ensures.steps.0 c.in-Some.ensures.steps.1 c.if-sort-self.true }

pub returns-in_err-t-clause-hyps_made_as : goal.returns-in_err-t-clause-hyps_made_as
returns-in_err-t-clause-hyps_made_as c =
    let p = err_from_is_err_and c.from_residual.result c.from_residual.ensures.1 in
    rw (p.1, p.2) (supposing_stopped _ c.requires.motived.0 c.requires.below c.loop-v.invariant.supposing c.in-Some.ensures.steps.0 c.in-Some.ensures.steps.1 c.if-sort-self.false c.in_err-t.ensures.moved_as)

pub loop-v-preserved : goal.loop-v-preserved
loop-v-preserved c =
    let i = c.loop-v.invariant in
    record {
      tables = (c.hypothesis_at.ensures.same_tables.0 ∙ i.tables.0, c.hypothesis_at.ensures.same_tables.1 ∙ i.tables.1);
      memo_same = c.hypothesis_at.ensures.memo_unchanged ∙ i.memo_same;
      put = c.hypothesis_at.ensures.put;
      supposing = supposing_again _ c.requires.motived.0 c.requires.below i.supposing c.in-Some.ensures.steps.0 c.in-Some.ensures.steps.1 c.if-sort-self.false c.in_ok-t.ensures.moved_as
          c.hypothesis_at.auto.out;
    }

pub returns-clause-hyps_made_as : goal.returns-clause-hyps_made_as
returns-clause-hyps_made_as c =
    let h = c.loop-v.invariant.supposing in
    supposing_done _ c.requires.motived.0 c.requires.below h (elim c.in-None.ensures.steps [ inl p ↦ p.1.0 | inr p ↦ omega (arith, p.1.0, h.level) ])
