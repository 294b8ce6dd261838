use Rattle.terms.specs.Lent.{SameTables}
use Rattle.exports_store.proofs.Chaining.{Chaining}
use Rattle.exports_store.proofs.make_chain.Given as goal

abbrev pub invariant-loop : goal.invariant-loop
invariant-loop l = record {
  same : SameTables l.initial.store l.store;
  chaining : Chaining l.initial.store.index.now l.initial.store.words.now l.initial.store.mark l.store.index.now l.store.words.now l.first l.last l.store.mark l.counter;
}
