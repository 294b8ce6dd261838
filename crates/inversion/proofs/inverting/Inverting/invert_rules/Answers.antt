use borrow.Author.Tests.{not-true, not-false}
use mathlib.Core.Bool.{not}
use mathlib.Core.Path.{refl, ap, ◌∙◌}
use Rattle.std.proofs.lemmas.Result.{err_from_is_err_and}
use Rattle.inversion.proofs.InvertMeets.{empty_still}
use Rattle.inversion.proofs.InvertRounds.{rounds_term, rounds_rule, rounds_start, rounds_over, rounds_turning, rounds_later, rounds_stopped, rounds_again}
use Rattle.inversion.proofs.inverting.Inverting.invert_rules.Goals as goal

pub predicate_of-predicate-requires : goal.predicate_of-predicate-requires
predicate_of-predicate-requires c = rw c.terms.ensures (rounds_term c.requires.turning)

pub loop-r-init : goal.loop-r-init
loop-r-init c = (λ g. rounds_start g (rw c.terms.ensures at c.predicate_of-predicate.ensures), (refl, refl), (refl, refl, refl, refl), (refl, refl, refl, refl), refl)

pub concludes-requires : goal.concludes-requires
concludes-requires c = rounds_rule c.requires.turning c.loop-r-test.true

pub loop-r-preserved-then-not-concludes : goal.loop-r-preserved-then-not-concludes
loop-r-preserved-then-not-concludes c =
    let i = c.loop-r.invariant in
    (λ g. rounds_later g (i.0 g) c.loop-r-test.true c.concludes.ensures (not-true _ (ap not c.if-not-concludes.true)), i.1, i.2, i.3, i.4)

pub invert_rule-requires-clause-turning : goal.invert_rule-requires-clause-turning
invert_rule-requires-clause-turning c = let g = c.requires.turning in rounds_turning g (c.loop-r.invariant.0 g)

pub invert_rule-requires-clause-r_lt_rules : goal.invert_rule-requires-clause-r_lt_rules
invert_rule-requires-clause-r_lt_rules c = (
  c.loop-r-test.true,
  empty_still c.args.scratch.now c.loop-r.scratch c.requires.empty.0 c.loop-r.invariant.3,
  c.loop-r.invariant.4 ∙ c.requires.empty.1,
)

pub returns-in_err-invert_rule-clause-turned_as : goal.returns-in_err-invert_rule-clause-turned_as
returns-in_err-invert_rule-clause-turned_as c = λ g. let p = err_from_is_err_and c.from_residual.result c.from_residual.ensures.1 in
    let h = c.loop-r.invariant.0 g in
    rw (p.1, p.2) (rounds_stopped g h c.loop-r-test.true c.concludes.ensures (not-false _ (ap not c.if-not-concludes.false)) (c.in_err-invert_rule.ensures.turned_as (rounds_turning g h)))

pub loop-r-preserved : goal.loop-r-preserved
loop-r-preserved c =
    let e = c.in_ok-invert_rule.ensures in
    let i = c.loop-r.invariant in (
      λ g. rounds_again g (i.0 g) c.loop-r-test.true c.concludes.ensures (not-false _ (ap not c.if-not-concludes.false)) (e.turned_as (rounds_turning g (i.0 g))),
      (e.same_tables.0 ∙ i.1.0, e.same_tables.1 ∙ i.1.1),
      (e.same_scratch.0 ∙ i.2.0, e.same_scratch.1 ∙ i.2.1, e.same_scratch.2 ∙ i.2.2, e.same_scratch.3 ∙ i.2.3),
      (e.scratch_kept.0 ∙ i.3.0, e.scratch_kept.1 ∙ i.3.1, e.scratch_kept.2 ∙ i.3.2, e.scratch_kept.3 ∙ i.3.3),
      e.ids_unchanged ∙ i.4,
    )

pub returns-clause-turned_as : goal.returns-clause-turned_as
returns-clause-turned_as c = λ g. rounds_over g (c.loop-r.invariant.0 g) c.loop-r-test.false
