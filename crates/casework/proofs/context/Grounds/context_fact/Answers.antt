use mathlib.Core.Path.{sym, ◌∙◌}
use lib.ListN.{length}
use borrow.Author.Tests.{eqb-true}
use Rattle.std.proofs.lemmas.Result.{err_from_is_err_and}
use Rattle.casework.proofs.Clear.{unbound_theta, general_there, context_bare, context_other, context_stop, given_cells}
use Rattle.casework.proofs.context.Grounds.context_fact.Goals as goal

pub returns-in_err-context_under-clause-context_as : goal.returns-in_err-context_under-clause-context_as
returns-in_err-context_under-clause-context_as c = λ g.
    let p = err_from_is_err_and c.from_residual.result c.from_residual.ensures.1 in
    let z = eqb-true (length c.general-variables.result.now) 0 (sym c.is_empty.ensures ∙ c.if-is_empty.true) in
    rw (p.1, p.2, context_bare g c.requires.1 c.general-variables.ensures c.args.theta.now z) (c.in_err-context_under.ensures.under_as g)

pub returns-then-is_empty-clause-context_as : goal.returns-then-is_empty-clause-context_as
returns-then-is_empty-clause-context_as c = λ g.
    let z = eqb-true (length c.general-variables.result.now) 0 (sym c.is_empty.ensures ∙ c.if-is_empty.true) in
    rw (context_bare g c.requires.1 c.general-variables.ensures c.args.theta.now z) (c.in_ok-context_under.ensures.under_as g)

pub unbind-requires : goal.unbind-requires
unbind-requires c = rw c.requires.0.cells.long (general_there c.requires.0.recalls c.requires.1 c.general-variables.ensures)

pub is_clear-requires : goal.is_clear-requires
is_clear-requires c = rw c.terms.ensures (
  c.requires.0.recalls.good,
  unbound_theta c.unbind.ensures c.requires.0.cells,
  general_there c.requires.0.recalls c.requires.1 c.general-variables.ensures,
)

pub returns-then-not-is_clear-clause-context_as : goal.returns-then-not-is_clear-clause-context_as
returns-then-not-is_clear-clause-context_as c = λ g.
    context_stop g c.requires.1 c.general-variables.ensures c.unbind.ensures (rw c.terms.ensures at c.is_clear.ensures) c.if-not-is_clear.true

pub context_under-requires-2 : goal.context_under-requires-2
context_under-requires-2 c =
    (given_cells c.requires.0 (unbound_theta c.unbind.ensures c.requires.0.cells), c.requires.1, c.requires.2)

pub returns-in_err-context_under-2-clause-context_as : goal.returns-in_err-context_under-2-clause-context_as
returns-in_err-context_under-2-clause-context_as c = λ g.
    let p = err_from_is_err_and c.from_residual-in_err-context_under-2.result c.from_residual-in_err-context_under-2.ensures.1 in
    let u = c.unbind.ensures in
    rw (p.1, p.2, context_other g c.requires.1 c.general-variables.ensures u (rw c.terms.ensures at c.is_clear.ensures) c.if-not-is_clear.false)
    (c.in_err-context_under-2.ensures.under_as g)

pub returns-clause-context_as : goal.returns-clause-context_as
returns-clause-context_as c = λ g.
    let u = c.unbind.ensures in
    rw (context_other g c.requires.1 c.general-variables.ensures u (rw c.terms.ensures at c.is_clear.ensures) c.if-not-is_clear.false) (c.in_ok-context_under-2.ensures.under_as g)
