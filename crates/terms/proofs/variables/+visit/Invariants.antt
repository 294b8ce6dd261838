use Rattle.terms.proofs.variables.+visit.Given as goal
use Rattle.std.proofs.Common.{◌+◌, get_or}
use Rattle.terms.specs.Table.{start}
use Rattle.terms.proofs.Visits.{Looping}

abbrev pub invariant-loop-arg : goal.invariant-loop-arg
invariant-loop-arg l =
    let t = l.terms in
    Looping t.index.now t.words.now t.mark l.id (start t.index.now l.id) (get_or t.index.now l.id 0) l.initial.set l.initial.seen l.set l.seen (start t.index.now l.id + 1 + l.arg-index)

abbrev pub decreases-visit : goal.decreases-visit
decreases-visit l = l.id
