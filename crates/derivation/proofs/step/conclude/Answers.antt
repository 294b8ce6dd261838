use mathlib.Core.Path.{refl}
use Rattle.kernel.proofs.Handed.{handed}
use Rattle.derivation.proofs.StepItems.{rule_formed, items_refused, none_seen, matching_given, used_done, used_refused}
use Rattle.derivation.proofs.step.conclude.Goals as goal

pub returns-in_err-said-clause-used_as : goal.returns-in_err-said-clause-used_as
returns-in_err-said-clause-used_as c = λ g. rw (handed c.from_residual.result c.from_residual.ensures) (items_refused g c.in_err-said.ensures.items_as)

pub visit_all-requires-clause-seen : goal.visit_all-requires-clause-seen
visit_all-requires-clause-seen c = rw c.terms-terms.ensures (none_seen c.requires c.in_ok-said.ensures.items_as _ refl)

pub matched-requires : goal.matched-requires
matched-requires c = rw c.patterns-patterns.ensures (matching_given c.requires c.in_ok-said.ensures.items_as refl _ _ (rw c.terms-terms.ensures at c.visit_all.ensures) _ _
    (rw c.terms-terms.ensures at c.visit_bound.ensures)
    (c.conclusion-place.ensures _ _ (rule_formed c.requires) c.requires.given.known)
    (c.words-first.ensures _ _ _ _ _ _ c.requires.given.ruled.held c.requires.given.known))

pub returns-in_err-judgment-clause-used_as : goal.returns-in_err-judgment-clause-used_as
returns-in_err-judgment-clause-used_as c = λ g. rw (handed c.from_residual-in_err-judgment.result c.from_residual-in_err-judgment.ensures)
    (used_refused g c.in_ok-said.ensures.items_as refl _ _ (rw c.terms-terms.ensures at c.visit_all.ensures) _ _
    (rw c.terms-terms.ensures at c.visit_bound.ensures)
    (c.conclusion-place.ensures _ _ (rule_formed g) g.given.known)
    (c.words-first.ensures _ _ _ _ _ _ g.given.ruled.held g.given.known) (rw c.patterns-patterns.ensures at c.in_err-judgment.ensures.read_as))

pub returns-clause-used_as : goal.returns-clause-used_as
returns-clause-used_as c = λ g. used_done g c.in_ok-said.ensures.items_as refl _ _ (rw c.terms-terms.ensures at c.visit_all.ensures) _ _
    (rw c.terms-terms.ensures at c.visit_bound.ensures)
    (c.conclusion-place.ensures _ _ (rule_formed g) g.given.known)
    (c.words-first.ensures _ _ _ _ _ _ g.given.ruled.held g.given.known) (rw c.patterns-patterns.ensures at c.in_ok-judgment.ensures.read_as)
