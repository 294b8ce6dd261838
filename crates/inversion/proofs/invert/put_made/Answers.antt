use mathlib.Core.Path.{◌∙◌}
use native.Mathlib.Omega.{arith}
use Rattle.state.specs.VarLaws.{vars_long}
use Rattle.inversion.proofs.InvertNames.{rows_start, rows_more, rows_end}
use Rattle.inversion.proofs.invert.put_made.Goals as goal

pub loop-v-init : goal.loop-v-init
loop-v-init c = (omega arith, c.requires.1, vars_long c.requires.0.3.stand, λ goals text vs h. rows_start _ h)

pub loop-v-preserved : goal.loop-v-preserved
loop-v-preserved c = (
  omega (arith, c.loop-v.invariant.0),
  omega (arith, c.loop-v-test.true),
  c.put_made_var.auto.vars ∙ c.loop-v.invariant.2,
  λ goals text vs h. rows_end
      c.put_made_var.ensures
      (rows_more vs _ _ (omega (arith, c.loop-v.invariant.0, h.stand.many)) (omega (arith, c.loop-v-test.true, c.requires.2, c.well_formed))
      (omega (arith, c.loop-v-test.true, c.requires.2)) (c.loop-v.invariant.3 goals text vs h)),
)
