use Rattle.state.specs.Records.{fact_rows, fact_feet}
use mathlib.Core.Path.{◌≡◌}
use lib.ListN.{length}
use Rattle.terms.specs.Lent.{SameTables}
use Rattle.reading.specs.Reader.{names_of}
use Rattle.induction.specs.Inducing.{PutAt}
use Rattle.induction.proofs.CaseLoop.{CasesOf}
use Rattle.induction.proofs.induct_cases.induct_cases.Given as goal

abbrev pub invariant-loop-item : goal.invariant-loop-item
invariant-loop-item l = record {
  cells : l.item-iterator.cells.now ≡ l.cells;
  same : SameTables l.initial.store l.store;
  memo : l.memo ≡ l.initial.memo;
  put : PutAt l.motive.x l.map;
  ids : length l.ids ≡ length l.initial.ids;
  cases : CasesOf (names_of l.source.reader) (fact_rows l.source.records.now) (fact_feet l.source.records.now) l.source.lists.now l.source.reader.n l.initial.store.index.now l.initial.store.words.now
      l.initial.store.mark l.motive.x l.motive.sort l.motive.judgment l.motive.premises.now l.used l.cells l.store.index.now l.store.words.now l.store.mark l.from l.item-iterator.at;
}
