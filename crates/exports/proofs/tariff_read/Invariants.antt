use Prim.Native.Nat.{◌-◌}
use lib.ListN.{length}
use Rattle.exports.proofs.Turns.{Turning}
use Rattle.exports.proofs.tariff_read.Given as goal

abbrev pub invariant-loop-form : goal.invariant-loop-form
invariant-loop-form l = Turning l.text l.initial.words l.words l.at l.forms

abbrev pub decreases-loop-form : goal.decreases-loop-form
decreases-loop-form l = length l.text - l.at
