use mathlib.Core.Path.{◌≡◌}
use Rattle.kernel.proofs.Arguments.{Gathers}
use Rattle.kernel.proofs.signatures.argument_sorts.Given as goal

abbrev pub invariant-loop-k : goal.invariant-loop-k
invariant-loop-k l = record {
  cells : l.k-iterator.iter.cells.now ≡ l.cells;
  gathers : Gathers l.sorts.text.now l.sorts.rows.now l.sorts.count l.cells l.initial.row l.row l.k-iterator.count l.k-iterator.iter.at;
}
