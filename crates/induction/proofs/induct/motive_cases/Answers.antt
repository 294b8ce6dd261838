use mathlib.Core.Path.{ap}
use mathlib.Core.Bool.{not}
use borrow.Author.Tests.{not-true, not-false}
use Rattle.induction.proofs.CaseLoop.{motive_count, motive_absent, motive_passed}
use Rattle.induction.proofs.induct.motive_cases.Goals as goal

pub returns-then-count-constructors-clause-passed_as :
    goal.returns-then-count-constructors-clause-passed_as
returns-then-count-constructors-clause-passed_as c = λ g. motive_count g _ c.count.ensures (rw c.symbol_table-known.ensures at c.constructors.ensures) c.if-count-constructors.true

pub returns-then-not-has-clause-passed_as : goal.returns-then-not-has-clause-passed_as
returns-then-not-has-clause-passed_as c = λ g. motive_absent g _ c.count.ensures (rw c.symbol_table-known.ensures at c.constructors.ensures) c.if-count-constructors.false _ (rw c.terms.ensures at c.vars-used.ensures) c.has.ensures (not-true _ (ap not c.if-not-has.true))

pub returns-clause-passed_as : goal.returns-clause-passed_as
returns-clause-passed_as c = λ g. motive_passed g _ c.count.ensures (rw c.symbol_table-known.ensures at c.constructors.ensures) c.if-count-constructors.false _ (rw c.terms.ensures at c.vars-used.ensures) c.has.ensures (not-false _ (ap not c.if-not-has.false)) _ _ _ _
    c.induct_cases.ensures.passed_as
