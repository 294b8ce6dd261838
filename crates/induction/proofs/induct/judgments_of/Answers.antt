use lib.Seq.{length-take-le}
use mathlib.Core.Path.{sym}
use native.Mathlib.Omega.{arith}
use Rattle.state.specs.Records.{length_fact_rows}
use Rattle.induction.proofs.Inducts.{judged_number, write_asks, count_is, count_few, judged_start, judged_fact, judged_again, judged_done}
use Rattle.induction.proofs.induct.judgments_of.Goals as goal

pub write_out-count-requires-clause-set_in_bounds : goal.write_out-count-requires-clause-set_in_bounds
write_out-count-requires-clause-set_in_bounds c = write_asks c.args.hyps.now (omega arith) c.args.out.now (omega arith)

pub slice_bounds-cell-items-end : goal.slice_bounds-cell-items-end
slice_bounds-cell-items-end c = omega (arith, count_few c.args.hyps.now (omega arith) c.args.out.now (omega arith) c.write_out-count.ensures)

pub slice_bounds-cell-items-end-2 : goal.slice_bounds-cell-items-end-2
slice_bounds-cell-items-end-2 c = sym
    (length-take-le _ _
    (omega (arith, count_few c.args.hyps.now (omega arith) c.args.out.now (omega arith) c.write_out-count.ensures)))

pub loop-cell-init : goal.loop-cell-init
loop-cell-init c = judged_start c.args.hyps.now (omega arith) c.args.out.now (omega arith) c.write_out-count.ensures

pub judgment_of-requires : goal.judgment_of-requires
judgment_of-requires c = omega (
  arith,
  length_fact_rows c.args.facts.now,
  c.requires,
  judged_fact c.args.hyps.now c.loop-cell.invariant (omega (arith, c.loop-cell.auto.cell-items, c.loop-cell-test.true)),
)

pub loop-cell-preserved : goal.loop-cell-preserved
loop-cell-preserved c = judged_again c.args.hyps.now c.loop-cell.invariant (omega (arith, c.loop-cell.auto.cell-items, c.loop-cell-test.true)) (judged_number c.args.facts.now _ (omega (arith, length_fact_rows c.args.facts.now, c.requires, judged_fact c.args.hyps.now c.loop-cell.invariant (omega (arith, c.loop-cell.auto.cell-items, c.loop-cell-test.true)))) c.judgment_of.ensures)

pub returns : goal.returns
returns c = (
  count_few c.args.hyps.now (omega arith) c.args.out.now (omega arith) c.write_out-count.ensures,
  judged_done c.args.hyps.now c.loop-cell.invariant (count_is c.args.hyps.now (omega arith) c.args.out.now (omega arith) c.write_out-count.ensures)
      (omega (arith, c.loop-cell.auto.cell-items, c.loop-cell-test.false)) _,
)
