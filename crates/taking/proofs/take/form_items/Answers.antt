use Rattle.rules.specs.Forms.{add_hyp, add_rule_hyp}
use Rattle.sexp.specs.declared.tags.Tag.TheVariants.{Var, Def, Hyp, RuleHyp, Invert, Outcome}
use Rattle.forms.specs.Laws.Declared.{gives_form, gives_var}
use Rattle.forms.specs.Laws.Assumed.{gives_fact}
use Rattle.forms.specs.Laws.Results.{stands_result}
use Rattle.forms.specs.Laws.Nexts.{hyps, rule_hyps, inverts}
use mathlib.Core.Path.{ap, ◌∙◌}
use Rattle.std.specs.Prelude.{Err}
use Rattle.kernel.proofs.Handed.{handed}
use Rattle.kernel.proofs.Missing.{there, absent, question_is}
use native.Mathlib.Omega.{arith}
use Rattle.entering.specs.declared.derive.Way.TheVariants as way
use Rattle.entering.specs.Laws.Deriving.{spare_for}
use Rattle.entering.specs.Laws.Inverting.{stands_inversion}
use Rattle.taking.proofs.Heads.{told, untold}
use Rattle.taking.proofs.Arms.{untagged, own, unnumbered, many, next_is, performed, numbered, given_by, derived_by, assumed_tried, inverted_tried, var_tried, def_tried, result_tried, perform_var, perform_def, perform_result}
use Rattle.taking.proofs.take.form_items.Goals as goal

pub own_index-requires : goal.own_index-requires
own_index-requires c = own c.requires.0 (rw (there _ _ c.ok_or.ensures.ok_part c.in_ok-tag.was) at (c.tag_of.ensures c.requires.0.xs c.requires.0.holds))

pub returns-in_err-own_index-clause-tried_as : goal.returns-in_err-own_index-clause-tried_as
returns-in_err-own_index-clause-tried_as c = λ i.
    let f = rw (there _ _ c.ok_or.ensures.ok_part c.in_ok-tag.was) at (c.tag_of.ensures i.xs i.holds) in
    rw (handed c.from_residual-in_err-own_index.result c.from_residual-in_err-own_index.ensures) (unnumbered i f _ (c.in_err-own_index.ensures (own i f)))

pub add_var_of-requires : goal.add_var_of-requires
add_var_of-requires c =
    let i = c.requires.0 in (
      gives_var i.stands i.holds (many i (rw (there _ _ c.ok_or.ensures.ok_part c.in_ok-tag.was) at (c.tag_of.ensures i.xs i.holds)) Var c.in-Var.is),
      rw c.number.ensures (omega arith),
    )

pub returns-in-Var-clause-tried_as : goal.returns-in-Var-clause-tried_as
returns-in-Var-clause-tried_as c = λ i.
    let f = rw (there _ _ c.ok_or.ensures.ok_part c.in_ok-tag.was) at (c.tag_of.ensures i.xs i.holds) in
    rw c.and.ensures (performed i (told Var f c.in-Var.is) (perform_var i.xs i.S) c.add_var_of.new.board c.args.store.now _
    (var_tried i c.add_var_of.new.board _ c.add_var_of.ensures.only (rw c.number.ensures at (c.add_var_of.ensures.var_as (gives_var i.stands i.holds (many i f Var c.in-Var.is))))))

pub add_def-requires : goal.add_def-requires
add_def-requires c =
    let i = c.requires.0 in
    gives_form i.stands i.holds (many i (rw (there _ _ c.ok_or.ensures.ok_part c.in_ok-tag.was) at (c.tag_of.ensures i.xs i.holds)) Def c.in-Def.is)

pub returns-in-Def-clause-tried_as : goal.returns-in-Def-clause-tried_as
returns-in-Def-clause-tried_as c = λ i.
    let f = rw (there _ _ c.ok_or.ensures.ok_part c.in_ok-tag.was) at (c.tag_of.ensures i.xs i.holds) in
    rw c.and-in-Def.ensures (performed i (told Def f c.in-Def.is) (perform_def i.xs i.S) c.add_def.new.board c.add_def.new.store _
    (def_tried i c.add_def.new.board c.add_def.new.store _ c.add_def.ensures.only (c.add_def.ensures.def_as (gives_form i.stands i.holds (many i f Def c.in-Def.is)))))

pub add_derived-requires-clause-adds : goal.add_derived-requires-clause-adds
add_derived-requires-clause-adds c =
    let i = c.requires.0 in
    given_by i (rw (there _ _ c.ok_or.ensures.ok_part c.in_ok-tag.was) at (c.tag_of.ensures i.xs i.holds)) way.Step c.in-Step.is

pub add_derived-requires-clause-spare : goal.add_derived-requires-clause-spare
add_derived-requires-clause-spare c = spare_for way.Step c.requires.1

pub returns-in-Step-clause-tried_as : goal.returns-in-Step-clause-tried_as
returns-in-Step-clause-tried_as c = λ i.
    let f = rw (there _ _ c.ok_or.ensures.ok_part c.in_ok-tag.was) at (c.tag_of.ensures i.xs i.holds) in
    derived_by i f way.Step c.in-Step.is (c.in_ok-own_index.ensures (own i f)) c.add_derived.new.board c.add_derived.new.store _ c.add_derived.ensures.only c.add_derived.ensures.added

pub add_derived-requires-in-Induct-clause-adds : goal.add_derived-requires-in-Induct-clause-adds
add_derived-requires-in-Induct-clause-adds c =
    let i = c.requires.0 in
    given_by i (rw (there _ _ c.ok_or.ensures.ok_part c.in_ok-tag.was) at (c.tag_of.ensures i.xs i.holds)) way.Induct c.in-Induct.is

pub returns-in-Induct-clause-tried_as : goal.returns-in-Induct-clause-tried_as
returns-in-Induct-clause-tried_as c = λ i.
    let f = rw (there _ _ c.ok_or.ensures.ok_part c.in_ok-tag.was) at (c.tag_of.ensures i.xs i.holds) in
    derived_by i f way.Induct c.in-Induct.is (c.in_ok-own_index.ensures (own i f)) c.add_derived-in-Induct.new.board c.add_derived-in-Induct.new.store _ c.add_derived-in-Induct.ensures.only c.add_derived-in-Induct.ensures.added

pub add_derived-requires-in-InductWith-clause-adds : goal.add_derived-requires-in-InductWith-clause-adds
add_derived-requires-in-InductWith-clause-adds c =
    let i = c.requires.0 in
    given_by i (rw (there _ _ c.ok_or.ensures.ok_part c.in_ok-tag.was) at (c.tag_of.ensures i.xs i.holds)) way.InductWith c.in-InductWith.is

pub returns-in-InductWith-clause-tried_as : goal.returns-in-InductWith-clause-tried_as
returns-in-InductWith-clause-tried_as c = λ i.
    let f = rw (there _ _ c.ok_or.ensures.ok_part c.in_ok-tag.was) at (c.tag_of.ensures i.xs i.holds) in
    derived_by i f way.InductWith c.in-InductWith.is (c.in_ok-own_index.ensures (own i f)) c.add_derived-in-InductWith.new.board c.add_derived-in-InductWith.new.store _ c.add_derived-in-InductWith.ensures.only c.add_derived-in-InductWith.ensures.added

pub add_derived-requires-in-Apply-clause-adds : goal.add_derived-requires-in-Apply-clause-adds
add_derived-requires-in-Apply-clause-adds c =
    let i = c.requires.0 in
    given_by i (rw (there _ _ c.ok_or.ensures.ok_part c.in_ok-tag.was) at (c.tag_of.ensures i.xs i.holds)) way.Apply c.in-Apply.is

pub returns-in-Apply-clause-tried_as : goal.returns-in-Apply-clause-tried_as
returns-in-Apply-clause-tried_as c = λ i.
    let f = rw (there _ _ c.ok_or.ensures.ok_part c.in_ok-tag.was) at (c.tag_of.ensures i.xs i.holds) in
    derived_by i f way.Apply c.in-Apply.is (c.in_ok-own_index.ensures (own i f)) c.add_derived-in-Apply.new.board c.add_derived-in-Apply.new.store _ c.add_derived-in-Apply.ensures.only c.add_derived-in-Apply.ensures.added

pub add_hyp-requires : goal.add_hyp-requires
add_hyp-requires c =
    let i = c.requires.0 in
    gives_fact i.stands i.holds (many i (rw (there _ _ c.ok_or.ensures.ok_part c.in_ok-tag.was) at (c.tag_of.ensures i.xs i.holds)) Hyp c.in-Hyp.is)

pub returns-in-Hyp-clause-tried_as : goal.returns-in-Hyp-clause-tried_as
returns-in-Hyp-clause-tried_as c = λ i.
    let f = rw (there _ _ c.ok_or.ensures.ok_part c.in_ok-tag.was) at (c.tag_of.ensures i.xs i.holds) in
    rw (c.and-in-Hyp.ensures, c.one_hypothesis.ensures) (numbered i (told Hyp f c.in-Hyp.is) hyps (next_is i f Hyp c.in-Hyp.is _ (c.in_ok-own_index.ensures (own i f))) c.add_hyp.new.board c.add_hyp.new.store _
    (assumed_tried i c.add_hyp.new.board c.add_hyp.new.store (add_hyp i.xs i.S) _ c.add_hyp.ensures.only (c.add_hyp.ensures.assumed_as (gives_fact i.stands i.holds (many i f Hyp c.in-Hyp.is)))))

pub add_rule_hyp-requires : goal.add_rule_hyp-requires
add_rule_hyp-requires c =
    let i = c.requires.0 in
    gives_fact i.stands i.holds (many i (rw (there _ _ c.ok_or.ensures.ok_part c.in_ok-tag.was) at (c.tag_of.ensures i.xs i.holds)) RuleHyp c.in-RuleHyp.is)

pub returns-in-RuleHyp-clause-tried_as : goal.returns-in-RuleHyp-clause-tried_as
returns-in-RuleHyp-clause-tried_as c = λ i.
    let f = rw (there _ _ c.ok_or.ensures.ok_part c.in_ok-tag.was) at (c.tag_of.ensures i.xs i.holds) in
    rw (c.and-in-RuleHyp.ensures, c.one_hypothesis-in-RuleHyp.ensures) (numbered i (told RuleHyp f c.in-RuleHyp.is) rule_hyps (next_is i f RuleHyp c.in-RuleHyp.is _ (c.in_ok-own_index.ensures (own i f))) c.add_rule_hyp.new.board c.add_rule_hyp.new.store _
    (assumed_tried i c.add_rule_hyp.new.board c.add_rule_hyp.new.store (add_rule_hyp i.xs i.S) _ c.add_rule_hyp.ensures.only (c.add_rule_hyp.ensures.assumed_as (gives_fact i.stands i.holds (many i f RuleHyp c.in-RuleHyp.is)))))

pub add_invert-requires-clause-adds_inversion : goal.add_invert-requires-clause-adds_inversion
add_invert-requires-clause-adds_inversion c =
    let i = c.requires.0 in
    stands_inversion c.args.given.now c.args.board.now c.args.store.now i.stands i.bounded i.holds (many i (rw (there _ _ c.ok_or.ensures.ok_part c.in_ok-tag.was) at (c.tag_of.ensures i.xs i.holds)) Invert c.in-Invert.is)

pub returns-in-Invert-clause-tried_as : goal.returns-in-Invert-clause-tried_as
returns-in-Invert-clause-tried_as c = λ i.
    let f = rw (there _ _ c.ok_or.ensures.ok_part c.in_ok-tag.was) at (c.tag_of.ensures i.xs i.holds) in
    numbered i (told Invert f c.in-Invert.is) inverts (next_is i f Invert c.in-Invert.is _ (c.in_ok-own_index.ensures (own i f))) c.add_invert.new.board c.add_invert.new.store _
    (inverted_tried i c.add_invert.new.board c.add_invert.new.store (many i f Invert c.in-Invert.is) _ c.add_invert.ensures.only c.add_invert.ensures.inverted)

pub result-requires-clause-takes_result : goal.result-requires-clause-takes_result
result-requires-clause-takes_result c =
    let i = c.requires.0 in
    stands_result i.stands i.holds (many i (rw (there _ _ c.ok_or.ensures.ok_part c.in_ok-tag.was) at (c.tag_of.ensures i.xs i.holds)) Outcome c.in-Outcome.is)

pub returns-in-Outcome-clause-tried_as : goal.returns-in-Outcome-clause-tried_as
returns-in-Outcome-clause-tried_as c = λ i.
    let f = rw (there _ _ c.ok_or.ensures.ok_part c.in_ok-tag.was) at (c.tag_of.ensures i.xs i.holds) in
    rw c.and-in-Outcome.ensures (performed i (told Outcome f c.in-Outcome.is) (perform_result i.xs i.S) c.result.new.board c.result.new.store _
    (result_tried i c.result.new.board c.result.new.store _ c.result.ensures.only.0 c.result.ensures.only.1 (c.result.ensures.resulted_as (stands_result i.stands i.holds (many i f Outcome c.in-Outcome.is)))))

pub returns-in_err-tag-clause-tried_as : goal.returns-in_err-tag-clause-tried_as
returns-in_err-tag-clause-tried_as c = λ i.
    rw (handed c.from_residual.result c.from_residual.ensures ∙ ap Err (question_is _ _ c.ok_or.ensures.ok_part c.ok_or.ensures.value c.in_err-tag.was))
    (untagged i (untold (rw (absent _ _ c.ok_or.ensures.ok_part c.in_err-tag.was) at (c.tag_of.ensures i.xs i.holds))))
