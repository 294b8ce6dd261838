use Rattle.std.specs.Prelude.{◌≡◌, ◌+◌}
use Rattle.terms.specs.Lent.{SameTables}
use Rattle.terms.proofs.Forgets.{Going}
use Rattle.terms.proofs.store.Store.forget.Given as goal

abbrev pub invariant-loop : goal.invariant-loop
invariant-loop l = record {
  same : SameTables l.initial.self l.self;
  going : Going l.initial.self.index.now l.initial.self.words.now l.fn.old.terms l.self.index.now l.self.words.now l.self.mark;
  left : l.self.mark.terms + l.counter ≡ l.end + l.fn.old.terms;
}
