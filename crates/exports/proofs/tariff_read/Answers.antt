use mathlib.Core.Path.{sym, ◌∙◌}
use native.Mathlib.Omega.{arith}
use Rattle.exports.proofs.Turns as turns
use Rattle.exports.proofs.tariff_read.Goals as goal
use Rattle.exports.proofs.tariff_read.Goals.{then-bracketed, else-bracketed}

pub loop-form-init : goal.loop-form-init
loop-form-init c = turns.begin _ _ c.requires.legible

pub read_form-requires : goal.read_form-requires
read_form-requires c = record { from_in_bounds = c.loop-form.invariant.high; legible = turns.asks c.loop-form.invariant }

pub returns-in_default : goal.returns-in_default
returns-in_default c = turns.ended c.loop-form.invariant c.read_form.ensures cc

pub returns-in_default-2 : goal.returns-in_default-2
returns-in_default-2 c = turns.refused c.loop-form.invariant c.read_form.ensures c.in_default.is

pub bracketed-requires : goal.bracketed-requires
bracketed-requires c = (turns.cells_there c.loop-form.invariant c.read_form.ensures (rw c.in-Ok-Some.field-0-is at c.in-Ok-Some.is)).0

pub loop-form-smaller : goal.loop-form-smaller
loop-form-smaller c = omega (arith, turns.on c.loop-form.invariant c.read_form.ensures (rw c.in-Ok-Some.field-0-is at c.in-Ok-Some.is))

pub loop-form-preserved : goal.loop-form-preserved
loop-form-preserved c =
    elim c.if-bracketed.branch [
      | then-bracketed w ↦ rw w.forms-is
          (turns.past_list c.loop-form.invariant c.read_form.ensures (rw c.in-Ok-Some.field-0-is at c.in-Ok-Some.is) c.clear.ensures (sym c.bracketed.ensures ∙ w.if-bracketed.true))
      | else-bracketed w ↦ rw w.forms-is
          (turns.past_atom c.loop-form.invariant c.read_form.ensures (rw c.in-Ok-Some.field-0-is at c.in-Ok-Some.is) c.clear.ensures (sym c.bracketed.ensures ∙ w.if-bracketed.false))
    ]
