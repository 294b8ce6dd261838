use mathlib.Core.Path.{refl}
use Rattle.kernel.proofs.Handed.{handed}
use Rattle.derivation.proofs.Concluding.{to_refused, to_rule, to_cells, to_recalls, to_there, to_under, to_outside, to_fact}
use Rattle.derivation.proofs.apply.Rule.apply_to.Goals as goal

pub returns-in_err-support-clause-derived_as : goal.returns-in_err-support-clause-derived_as
returns-in_err-support-clause-derived_as c = λ g. rw (handed c.from_residual.result c.from_residual.ensures)
    (to_refused g c.requires.blank.1 _ _ c.in_err-support.ensures.discharged_as)

pub rest_on-requires : goal.rest_on-requires
rest_on-requires c = rw c.facts-facts.ensures (to_rule c.requires.rule_use c.requires.blank.1 _ _ c.in_ok-support.ensures.discharged_as)

pub visit_cells-requires : goal.visit_cells-requires
visit_cells-requires c =
    let v = to_cells c.requires.rule_use c.requires.blank.1 _ _ c.in_ok-support.ensures.discharged_as _ refl in
    rw c.terms-terms.ensures record { readable_cells = v.0; seen = v.1 }

pub scoped-requires : goal.scoped-requires
scoped-requires c = rw (c.terms-terms.ensures, c.facts-facts.ensures) record {
  recalls = (
    to_recalls c.requires.rule_use c.requires.blank.1 _ _ c.in_ok-support.ensures.discharged_as,
    to_under c.requires.rule_use c.requires.blank.1 _ _ c.in_ok-support.ensures.discharged_as _ ((rw c.facts-facts.ensures at c.rest_on.ensures)
        (to_rule c.requires.rule_use c.requires.blank.1 _ _ c.in_ok-support.ensures.discharged_as)),
    to_there c.requires.rule_use c.requires.blank.1 _ _ c.in_ok-support.ensures.discharged_as,
  );
}

pub returns-in_err-scoped-clause-derived_as : goal.returns-in_err-scoped-clause-derived_as
returns-in_err-scoped-clause-derived_as c = λ g. rw (handed c.from_residual-in_err-scoped.result c.from_residual-in_err-scoped.ensures)
    (to_outside g c.requires.blank.1 _ _ c.in_ok-support.ensures.discharged_as _
    ((rw c.facts-facts.ensures at c.rest_on.ensures) (to_rule g c.requires.blank.1 _ _ c.in_ok-support.ensures.discharged_as)) _
    (rw c.terms-terms.ensures at c.visit_cells.ensures)
    ((rw (c.terms-terms.ensures, c.facts-facts.ensures) at c.in_err-scoped.ensures) (to_recalls g c.requires.blank.1 _ _ c.in_ok-support.ensures.discharged_as) _))

pub returns-clause-derived_as : goal.returns-clause-derived_as
returns-clause-derived_as c = λ g. to_fact g c.requires.blank.1 _ _ c.in_ok-support.ensures.discharged_as _ ((rw c.facts-facts.ensures at c.rest_on.ensures)
    (to_rule g c.requires.blank.1 _ _ c.in_ok-support.ensures.discharged_as)) _ (rw c.terms-terms.ensures at c.visit_cells.ensures)
    ((rw (c.terms-terms.ensures, c.facts-facts.ensures) at c.in_ok-scoped.ensures) (to_recalls g c.requires.blank.1 _ _ c.in_ok-support.ensures.discharged_as) _)
