use mathlib.Core.Path.{refl}
use Rattle.kernel.proofs.Handed.{handed}
use Rattle.derivation.proofs.StepScope.{scope_given, scope_refused, scope_recalls, scope_under, scope_there, scope_outside, scope_inside}
use Rattle.derivation.proofs.step.step_on.Goals as goal

pub conclude-requires : goal.conclude-requires
conclude-requires c = scope_given c.requires c.from-items.ensures

pub returns-in_err-judgment-clause-scoped_as : goal.returns-in_err-judgment-clause-scoped_as
returns-in_err-judgment-clause-scoped_as c = λ g. rw (handed c.from_residual.result c.from_residual.ensures)
    (scope_refused g c.from-items.ensures c.in_err-judgment.ensures.used_as)

pub scoped-requires : goal.scoped-requires
scoped-requires c = rw (c.facts.ensures, c.terms.ensures) record {
  recalls = (
    scope_recalls c.requires c.from-items.ensures c.in_ok-judgment.ensures.used_as,
    scope_under c.requires c.from-items.ensures c.in_ok-judgment.ensures.used_as,
    scope_there c.requires c.from-items.ensures c.in_ok-judgment.ensures.used_as,
  );
}

pub returns-in_err-scoped-clause-scoped_as : goal.returns-in_err-scoped-clause-scoped_as
returns-in_err-scoped-clause-scoped_as c = λ g.
    let o = rw (c.facts.ensures, c.terms.ensures) at c.in_err-scoped.ensures in
    rw (handed c.from_residual-in_err-scoped.result c.from_residual-in_err-scoped.ensures)
    (scope_outside g c.from-items.ensures c.in_ok-judgment.ensures.used_as (o (scope_recalls g c.from-items.ensures c.in_ok-judgment.ensures.used_as) _))

pub returns-clause-scoped_as : goal.returns-clause-scoped_as
returns-clause-scoped_as c = λ g.
    let o = rw (c.facts.ensures, c.terms.ensures) at c.in_ok-scoped.ensures in
    (scope_inside g c.from-items.ensures c.in_ok-judgment.ensures.used_as (o (scope_recalls g c.from-items.ensures c.in_ok-judgment.ensures.used_as) _), refl, refl)
