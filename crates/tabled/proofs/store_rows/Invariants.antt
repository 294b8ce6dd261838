-- The loop is that of `Storing` in proofs/Storing.antt.
use Rattle.tabled.proofs.Storing.{Storing}
use Rattle.tabled.proofs.store_rows.Given as goal

abbrev pub invariant-loop-i : goal.invariant-loop-i
invariant-loop-i l = Storing l.facts l.initial.rows l.initial.feet l.i l.rows l.feet
