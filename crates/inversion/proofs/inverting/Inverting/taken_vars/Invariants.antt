use Rattle.state.specs.Records.{fact_rows}
use Rattle.inversion.proofs.InvertTaken.{Taking}
use Rattle.inversion.proofs.inverting.Inverting.taken_vars.Given as goal

abbrev pub invariant-loop-h : goal.invariant-loop-h
invariant-loop-h l = Taking (fact_rows l.self.source.records.now) l.self.source.lists.now l.self.source.reader.n l.terms.index.now l.terms.words.now l.terms.mark l.self.hypothesis l.self.judgment l.self.context.now l.seen l.set l.h-index
