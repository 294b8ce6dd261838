use native.Mathlib.Omega.{arith}
use mathlib.Core.Path.{ap, ◌∙◌}
use mathlib.Core.Bool.{not}
use Rattle.std.proofs.lemmas.Result.{err_from_is_err_and}
use Rattle.kernel.proofs.Handed.{handed}
use Rattle.std.specs.Prelude.{Err}
use Rattle.sexp.specs.NthItem.{has_items}
use Rattle.kernel.proofs.Missing.{question_is}
use Rattle.reading.specs.Laws.Parts.{list_is, list_not}
use Rattle.derivation.proofs.Applies.{rule_late, rule_fact, rule_unfit, rule_atom, rule_other, rule_replaceable, rule_full, rule_given, rule_there, rule_answers}
use Rattle.derivation.proofs.Meeting.{blank_memo}
use Rattle.derivation.proofs.RuleFacts.{rule_asks}
use Rattle.derivation.proofs.apply.Rule.apply_on.Goals as goal

pub returns-then-not-is_fact-clause-derived_as : goal.returns-then-not-is_fact-clause-derived_as
returns-then-not-is_fact-clause-derived_as c = λ g. rule_late g c.requires.theta.0 _ c.is_fact.ensures (ap not c.if-not-is_fact.true)

pub applicable-requires : goal.applicable-requires
applicable-requires c = rw c.facts-facts.ensures (rule_fact c.requires.reads c.requires.theta.0 _ c.is_fact.ensures (ap not c.if-not-is_fact.false))

pub returns-in_err-applicable-clause-derived_as : goal.returns-in_err-applicable-clause-derived_as
returns-in_err-applicable-clause-derived_as c = λ g. rw (handed c.from_residual.result c.from_residual.ensures)
    (rule_unfit g c.requires.theta.0 _ c.is_fact.ensures (ap not c.if-not-is_fact.false) (rw c.facts-facts.ensures at c.in_err-applicable.ensures))

pub returns-in_err-inner-clause-derived_as : goal.returns-in_err-inner-clause-derived_as
returns-in_err-inner-clause-derived_as c = λ g.
    rw (handed c.from_residual-in_err-inner.result c.from_residual-in_err-inner.ensures
    ∙ ap Err (question_is _ _ c.ok_or.ensures.ok_part c.ok_or.ensures.value c.in_err-inner.was))
    (rule_atom g c.requires.theta.0 _ c.is_fact.ensures (ap not c.if-not-is_fact.false) (rw c.facts-facts.ensures at c.in_ok-applicable.ensures)
    (list_not g.holds 4 (omega (arith, g.many)) c.list.ensures c.ok_or.ensures.ok_part c.in_err-inner.was))

pub count-requires : goal.count-requires
count-requires c = has_items (list_is c.requires.reads.holds 4 (omega (arith, c.requires.reads.many)) c.list.ensures c.ok_or.ensures.ok_part c.in_ok-inner.was).holds

pub premises_of-requires : goal.premises_of-requires
premises_of-requires c = rw c.facts-facts.ensures (rule_fact c.requires.reads c.requires.theta.0 _ c.is_fact.ensures (ap not c.if-not-is_fact.false))

pub returns-then-count-premises_of-clause-derived_as : goal.returns-then-count-premises_of-clause-derived_as
returns-then-count-premises_of-clause-derived_as c = λ g. rule_other g c.requires.theta.0 _ c.is_fact.ensures (ap not c.if-not-is_fact.false)
    (rw c.facts-facts.ensures at c.in_ok-applicable.ensures) (list_is g.holds 4 (omega (arith, g.many)) c.list.ensures c.ok_or.ensures.ok_part c.in_ok-inner.was) c.count.ensures
    (rw c.facts-facts.ensures at c.premises_of.ensures) c.if-count-premises_of.true

pub judgment-requires : goal.judgment-requires
judgment-requires c = rw c.facts-facts.ensures (rule_asks (rule_fact c.requires.reads c.requires.theta.0 _ c.is_fact.ensures (ap not c.if-not-is_fact.false)))

pub substitute-requires : goal.substitute-requires
substitute-requires c =
    let r = rule_replaceable c.requires.reads c.requires.theta.0 _ c.is_fact.ensures (ap not c.if-not-is_fact.false)
    (rw c.facts-facts.ensures at c.in_ok-applicable.ensures) (list_is c.requires.reads.holds 4 (omega (arith, c.requires.reads.many)) c.list.ensures c.ok_or.ensures.ok_part c.in_ok-inner.was) c.count.ensures
    (rw c.facts-facts.ensures at c.premises_of.ensures) c.if-count-premises_of.false (rw c.facts-facts.ensures at c.judgment.ensures) in
    record { replaceable = r; id_in_bounds = blank_memo r c.requires.theta.1 }

pub returns-in_err-j-clause-derived_as : goal.returns-in_err-j-clause-derived_as
returns-in_err-j-clause-derived_as c = λ g. let p = err_from_is_err_and c.from_residual-in_err-j.result c.from_residual-in_err-j.ensures.1 in
    rw (p.1, p.2) (rule_full g c.requires.theta.0 _ c.is_fact.ensures (ap not c.if-not-is_fact.false)
    (rw c.facts-facts.ensures at c.in_ok-applicable.ensures) (list_is g.holds 4 (omega (arith, g.many)) c.list.ensures c.ok_or.ensures.ok_part c.in_ok-inner.was) c.count.ensures
    (rw c.facts-facts.ensures at c.premises_of.ensures) c.if-count-premises_of.false (rw c.facts-facts.ensures at c.judgment.ensures) _ _
    c.in_err-j.ensures.kept.says)

pub apply_to-requires : goal.apply_to-requires
apply_to-requires c = record {
  rule_use = rule_given c.requires.reads c.requires.theta.0 _ c.is_fact.ensures (ap not c.if-not-is_fact.false)
      (rw c.facts-facts.ensures at c.in_ok-applicable.ensures) (list_is c.requires.reads.holds 4 (omega (arith, c.requires.reads.many)) c.list.ensures c.ok_or.ensures.ok_part c.in_ok-inner.was) c.count.ensures
      (rw c.facts-facts.ensures at c.premises_of.ensures) c.if-count-premises_of.false (rw c.facts-facts.ensures at c.judgment.ensures) _ _
      c.in_ok-j.ensures.kept.says;
  blank = (
    c.substitute.ensures.memo_unchanged ∙ c.requires.theta.1,
    rule_there c.requires.reads c.requires.theta.0 _ c.is_fact.ensures
        (ap not c.if-not-is_fact.false) (rw c.facts-facts.ensures at c.in_ok-applicable.ensures) (list_is c.requires.reads.holds 4 (omega (arith, c.requires.reads.many)) c.list.ensures c.ok_or.ensures.ok_part c.in_ok-inner.was) c.count.ensures
        (rw c.facts-facts.ensures at c.premises_of.ensures) c.if-count-premises_of.false (rw c.facts-facts.ensures at c.judgment.ensures) _ _
        c.in_ok-j.ensures.kept.says,
  );
}

pub returns-clause-derived_as : goal.returns-clause-derived_as
returns-clause-derived_as c = λ g. rule_answers g c.requires.theta.0 _ c.is_fact.ensures (ap not c.if-not-is_fact.false)
    (rw c.facts-facts.ensures at c.in_ok-applicable.ensures) (list_is g.holds 4 (omega (arith, g.many)) c.list.ensures c.ok_or.ensures.ok_part c.in_ok-inner.was) c.count.ensures
    (rw c.facts-facts.ensures at c.premises_of.ensures) c.if-count-premises_of.false (rw c.facts-facts.ensures at c.judgment.ensures) _ _
    c.in_ok-j.ensures.kept.says _ _ _ _ c.apply_to.ensures.derived_as
