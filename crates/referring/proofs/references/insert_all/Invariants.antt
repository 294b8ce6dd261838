use Rattle.referring.proofs.Joins.{Joining}
use Rattle.referring.proofs.references.insert_all.Given as goal

abbrev pub invariant-loop-id : goal.invariant-loop-id
invariant-loop-id l = Joining l.ids l.initial.set l.set l.id-index
