use mathlib.Core.Path.{refl, ◌∙◌}
use native.Mathlib.Omega.{arith}
use Rattle.kernel.proofs.Handed.{handed}
use Rattle.sexp.specs.Each.{here, over}
use Rattle.sexp.specs.NthItem.{has_items}
use Rattle.reading.proofs.Judgments.{judging_start, judging_item, judging_ok, judging_err, judging_small, judging_more, judging_over}
use Rattle.reading.proofs.reader.Reader.judgment_each.Goals as goal

pub loop-k-init : goal.loop-k-init
loop-k-init c = rw (c.into_iter-k-iterator.ensures.into_iter_gives, c.enumerate-k-items.ensures.source, c.enumerate-k-items.ensures.count, c.all.ensures.0, c.all.ensures.1) record { cells = refl; tables = (refl, refl); long = refl; judging = λ g. judging_start g.reads g.holds c.requires.out_value }

pub judgment-requires : goal.judgment-requires
judgment-requires c = rw (here c.loop-k.invariant.cells c.in-Some.ensures.steps.0).is (judging_item (c.loop-k.invariant.judging c.requires.reads_items) (here c.loop-k.invariant.cells c.in-Some.ensures.steps.0).inside)

pub put_within-requires : goal.put_within-requires
put_within-requires c = omega (
  arith,
  judging_small (c.loop-k.invariant.judging c.requires.reads_items) (here c.loop-k.invariant.cells c.in-Some.ensures.steps.0).inside
      (judging_ok (c.loop-k.invariant.judging c.requires.reads_items) (here c.loop-k.invariant.cells c.in-Some.ensures.steps.0).inside _ _ _ _ (rw (here c.loop-k.invariant.cells c.in-Some.ensures.steps.0).is at c.judgment.ensures).read_as c.in_ok-t.was),
)

pub returns-in_err-t-clause-judgments_as : goal.returns-in_err-t-clause-judgments_as
returns-in_err-t-clause-judgments_as c = λ g. rw (handed c.from_residual.result c.from_residual.ensures)
    (judging_err (c.loop-k.invariant.judging g) (here c.loop-k.invariant.cells c.in-Some.ensures.steps.0).inside _ _ _ _ (rw (here c.loop-k.invariant.cells c.in-Some.ensures.steps.0).is at c.judgment.ensures).read_as c.in_err-t.was, refl)

pub loop-k-preserved : goal.loop-k-preserved
loop-k-preserved c = rw c.in-Some.ensures.steps.2 record {
  cells = (here c.loop-k.invariant.cells c.in-Some.ensures.steps.0).same;
  tables = ((rw (here c.loop-k.invariant.cells c.in-Some.ensures.steps.0).is at c.judgment.ensures).same_tables.0 ∙ c.loop-k.invariant.tables.0, (rw (here c.loop-k.invariant.cells c.in-Some.ensures.steps.0).is at c.judgment.ensures).same_tables.1 ∙ c.loop-k.invariant.tables.1);
  long = c.put_within.auto.out ∙ c.loop-k.invariant.long;
  judging = λ g. judging_more (c.loop-k.invariant.judging g) (here c.loop-k.invariant.cells c.in-Some.ensures.steps.0).inside
      (judging_ok (c.loop-k.invariant.judging g) (here c.loop-k.invariant.cells c.in-Some.ensures.steps.0).inside _ _ _ _ (rw (here c.loop-k.invariant.cells c.in-Some.ensures.steps.0).is at c.judgment.ensures).read_as c.in_ok-t.was) (rw c.in-Some.ensures.steps.1 at c.put_within.ensures) (here c.loop-k.invariant.cells c.in-Some.ensures.steps.0).behind;
}

pub count-requires : goal.count-requires
count-requires c = has_items c.requires.reads_items.holds

pub returns-clause-judgments_as : goal.returns-clause-judgments_as
returns-clause-judgments_as c = λ g. judging_over (c.loop-k.invariant.judging g) (over c.loop-k.invariant.cells c.in-None.ensures.steps.0) (c.count.ensures g.xs g.holds.cells)
