use native.Mathlib.Omega.{arith}
use Rattle.casework.proofs.Taken.{taken_among, taken_by_tree}
use Rattle.casework.proofs.cases.is_taken.Goals as goal

pub returns-then-text-gt-LENGTH-clause-taken : goal.returns-then-text-gt-LENGTH-clause-taken
returns-then-text-gt-LENGTH-clause-taken c = λ g. taken_among g _ (rw c.of.ensures at (c.is_among.ensures g.first)) (λ t l. omega (arith, t, c.if-text-gt-LENGTH.true))

pub returns-then-names-clause-taken : goal.returns-then-names-clause-taken
returns-then-names-clause-taken c = λ g. taken_among g _ (rw c.of-then-names.ensures at (c.is_among-then-names.ensures g.first)) (λ t l. omega (arith, l, c.if-names.true))

pub returns-clause-taken : goal.returns-clause-taken
returns-clause-taken c = λ g. taken_by_tree g (omega (arith, c.if-text-gt-LENGTH.false)) (omega (arith, c.if-names.false)) c.enter.ensures.same_names
    _ _ c.enter.ensures.entered
