use Rattle.terms.specs.Lent.{SameTables}
use Rattle.terms.specs.Patterns.{cells_of}
use Rattle.inversion.proofs.InvertKeeps.{VarsKeeping}
use Rattle.inversion.proofs.meeting.keep_vars.Given as goal

abbrev pub invariant-loop-k : goal.invariant-loop-k
invariant-loop-k l = VarsKeeping l.initial.store.index.now l.initial.store.words.now l.initial.store.mark l.list l.store.index.now l.store.words.now (cells_of l.bound) l.store.mark l.k
    × SameTables l.initial.store l.store
