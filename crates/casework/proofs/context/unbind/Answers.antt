use mathlib.Core.Path.{refl}
use lib.ListN.{get_or}
use native.Mathlib.Omega.{arith}
use Rattle.casework.specs.Laws.Loops.{unbinding_over, unbinding_on}
use Rattle.casework.proofs.context.unbind.Goals as goal

pub loop-v-preserved : goal.loop-v-preserved
loop-v-preserved c =
    unbinding_on c.args.variables.now c.args.map.now c.loop-v.map c.loop-v.v-index c.loop-v.invariant c.loop-v-test.true (get_or c.args.variables.now c.loop-v.v-index 0) refl
    (omega (arith, c.requires c.loop-v.v-index c.loop-v-test.true, c.loop-v.invariant.0))

pub returns : goal.returns
returns c = unbinding_over _ _ _ _ c.loop-v.invariant c.loop-v-test.false
