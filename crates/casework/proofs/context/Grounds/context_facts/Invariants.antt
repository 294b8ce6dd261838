use mathlib.Core.Path.{◌≡◌}
use Rattle.terms.specs.Lent.{SameTables, terms_of}
use Rattle.referring.specs.Sources.{RecallsIn}
use Rattle.casework.specs.Laws.Facts.{Contexting}
use Rattle.casework.proofs.context.Grounds.context_facts.Given as goal

abbrev pub invariant-loop-h : goal.invariant-loop-h
invariant-loop-h l =
    let s = l.initial.store in
    let t = l.store in
    record {
      tables : SameTables s t;
      memo_same : l.memo ≡ l.initial.memo;
      ids_same : l.ids ≡ l.initial.ids;
      own_same : l.self.own ≡ l.initial.self.own;
      contexting : (g : RecallsIn l.facts (terms_of s)) →
          Contexting s.index.now s.words.now s.mark g.S l.theta l.context l.initial.self.own.now l.initial.self.plain l.initial.self.fine t.index.now t.words.now l.self.plain l.self.fine t.mark l.h-index;
    }
