use native.Mathlib.Omega.{arith}
use Rattle.kernel.proofs.Handed.{handed}
use Rattle.kernel.specs.RuleRows.{rules_few}
use Rattle.kernel.proofs.declare.declare_rule.Goals as goal

pub returns-in_err-words-clause-declared : goal.returns-in_err-words-clause-declared
returns-in_err-words-clause-declared c = λ T xs h k n. rw (handed c.from_residual.result c.from_residual.ensures)
    (let refused = c.in_err-words.ensures T xs h.symbols h.rules k n in
    (refused.is, record { sorts = h.sorts; symbols = h.symbols; rules = refused.held }))

pub overflow_add-tables : goal.overflow_add-tables
overflow_add-tables c = omega (arith, rules_few c.requires.held.1.rules)

pub returns-clause-declared : goal.returns-clause-declared
returns-clause-declared c = λ T xs h k n.
    let stored = c.in_ok-words.ensures T xs h.symbols h.rules k n in
    record { now = _; is = stored.is; held = record { sorts = h.sorts; symbols = h.symbols; rules = stored.held } }
