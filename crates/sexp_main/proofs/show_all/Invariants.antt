-- The loop is that of `Forms` in proofs.Forms.antt.
use Rattle.std.proofs.Common.{◌-◌, length}
use Rattle.sexp_main.proofs.Forms.{Forms}
use Rattle.sexp_main.proofs.show_all.Given as goal

abbrev pub invariant-loop-form : goal.invariant-loop-form
invariant-loop-form g l = Forms l.text l.initial.words l.words l.at

abbrev pub decreases-loop-form : goal.decreases-loop-form
decreases-loop-form g l = length l.text - l.at
