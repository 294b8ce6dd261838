use Rattle.std.proofs.lemmas.Result.{err_from_is_err_and}
use Rattle.reading.proofs.TermSorted.{sorted_stops, sorted_misfit, sorted_read}
use Rattle.reading.proofs.reader.Reader.term_of.Goals as goal

pub returns-in_err-typed-clause-read_as : goal.returns-in_err-typed-clause-read_as
returns-in_err-typed-clause-read_as c = λ g. let p = err_from_is_err_and c.from_residual.result c.from_residual.ensures.1 in
    rw (p.1, p.2) (sorted_stops g.reads.good g.S g.x c.args.sort _ _ _ _ _ (c.in_err-typed.ensures.typed_as g))

pub returns-then-typed-sort-clause-read_as : goal.returns-then-typed-sort-clause-read_as
returns-then-typed-sort-clause-read_as c = λ g. sorted_misfit g.reads.good g.S g.x c.args.sort _ _ _ _ _ (c.in_ok-typed.ensures.typed_as g) c.if-typed-sort.true

pub returns-clause-read_as : goal.returns-clause-read_as
returns-clause-read_as c = λ g. sorted_read g.reads.good g.S g.x c.args.sort _ _ _ _ _ (c.in_ok-typed.ensures.typed_as g) c.if-typed-sort.false
