use Rattle.std.proofs.lemmas.Result.{err_from_is_err_and}
use Rattle.terms.specs.On.{refused_stopped}
use Rattle.reading.proofs.Leaves.{kept_typed}
use Rattle.reading.proofs.term.keep_typed.Goals as goal

pub returns-in_err-term-clause-typed_as : goal.returns-in_err-term-clause-typed_as
returns-in_err-term-clause-typed_as c = λ S e. let p = err_from_is_err_and c.from_residual.result c.from_residual.ensures.1 in rw (p.1, p.2) (refused_stopped c.in_err-term.ensures.kept.says)

pub returns-clause-typed_as : goal.returns-clause-typed_as
returns-clause-typed_as c = λ S e. kept_typed S c.in_ok-term.ensures.kept.says e
