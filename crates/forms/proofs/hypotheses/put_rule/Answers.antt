use Rattle.state.specs.Records.{fact_rows}
use native.Mathlib.Omega.{arith}
use mathlib.Core.Path.{refl}
use Rattle.std.proofs.lemmas.Result.{err_from_is_err_and}
use Rattle.state.specs.Held.{records}
use Rattle.forms.proofs.Assuming.{rule_put}
use Rattle.forms.proofs.hypotheses.put_rule.Goals as goal

pub returns-in_err-end-clause-put_as : goal.returns-in_err-end-clause-put_as
returns-in_err-end-clause-put_as c = λ footings e.
    let p = err_from_is_err_and c.from_residual.result c.from_residual.ensures.1 in
    rw (p.1, p.2) (refl, c.in_err-end.ensures.0, λ l. (let z = c.in_err-end.ensures.1 l in omega arith), refl)

pub returns-clause-put_as : goal.returns-clause-put_as
returns-clause-put_as c = λ footings e. rule_put (fact_rows c.args.board.now.facts.now) footings c.args.board.now.lists.now c.args.board.now.n c.put_hypothesis.new.self.n
    c.args.judgment c.args.premises c.args.general.now (records (fact_rows c.put_hypothesis.new.self.facts.now) footings c.put_hypothesis.new.self.lists.now) c.write.new.to
    c.put_hypothesis.result (omega arith) c.requires.1.lists c.in_ok-end.ensures.0 (omega arith) c.write.ensures (c.put_hypothesis.ensures.put_as footings e)
