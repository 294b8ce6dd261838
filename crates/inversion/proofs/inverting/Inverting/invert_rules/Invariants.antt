use mathlib.Core.Path.{◌≡◌}
use Rattle.terms.specs.Lent.{SameTables}
use Rattle.unification.specs.Unify.{SameScratch, ScratchKept}
use Rattle.inversion.specs.Inverting.{TurningIn}
use Rattle.inversion.proofs.InvertRounds.{RulesLeft, whole}
use Rattle.inversion.proofs.inverting.Inverting.invert_rules.Given as goal

abbrev pub invariant-loop-r : goal.invariant-loop-r
invariant-loop-r l = ((g : TurningIn l.self l.cases l.initial.store l.initial.names) →
    RulesLeft g.S g.inversion l.initial.store.index.now l.initial.store.words.now l.initial.store.mark (whole g) l.store.index.now l.store.words.now l.store.mark l.names.taken l.names.sorts l.initial.names.count l.names.count l.predicate l.r)
    × SameTables l.initial.store l.store
    × SameScratch l.initial.scratch l.scratch
    × ScratchKept l.initial.scratch l.scratch
    × (l.ids ≡ l.initial.ids)
