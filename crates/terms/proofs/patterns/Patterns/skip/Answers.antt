use native.Mathlib.Omega.{arith}
use Rattle.terms.proofs.Skips.{skipping_in, skipping_on, skipping_ends}
use Rattle.terms.proofs.patterns.Patterns.skip.Goals as goal

pub offset_bounds-self-place : goal.offset_bounds-self-place
offset_bounds-self-place c = omega (arith, skipping_in _ _ _ _ _ _ c.loop-left.invariant c.loop-left-test.true, c.well_formed.1.0)

pub bounds-self-place : goal.bounds-self-place
bounds-self-place c = (skipping_in _ _ _ _ _ _ c.loop-left.invariant c.loop-left-test.true).0

pub overflow_add-left : goal.overflow_add-left
overflow_add-left c = omega (arith, skipping_in _ _ _ _ _ _ c.loop-left.invariant c.loop-left-test.true, c.args_of-args.ensures, c.well_formed.1.0, c.well_formed.1.1)

pub overflow_add-place : goal.overflow_add-place
overflow_add-place c = omega (arith, skipping_in _ _ _ _ _ _ c.loop-left.invariant c.loop-left-test.true, c.well_formed.1.0)

pub loop-left-smaller : goal.loop-left-smaller
loop-left-smaller c = omega (arith, skipping_in _ _ _ _ _ _ c.loop-left.invariant c.loop-left-test.true)

pub loop-left-preserved : goal.loop-left-preserved
loop-left-preserved c = skipping_on _ _ _ _ _ _ c.loop-left.invariant c.loop-left-test.true _ c.args_of-args.ensures

pub returns : goal.returns
returns c = skipping_ends _ _ _ _ _ _ c.loop-left.invariant c.loop-left-test.false
