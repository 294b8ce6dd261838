use Rattle.std.proofs.lemmas.Result.{err_from_is_err_and}
use Rattle.induction.proofs.CaseEnds.{end_stopped, end_insert, end_unsupposed, end_rows, resting, end_passed}
use Rattle.induction.proofs.Inducts.{plain_with, plain_without, rest_given}
use Rattle.induction.proofs.induct_cases.case_terms.Goals.{then-width-eq0, else-width-eq0}
use Rattle.induction.proofs.induct_cases.case_terms.Goals as goal

pub returns-in_err-judgment-clause-passed_as : goal.returns-in_err-judgment-clause-passed_as
returns-in_err-judgment-clause-passed_as c = λ g.
    let p = err_from_is_err_and c.from_residual.result c.from_residual.ensures.1 in
    rw (p.1, p.2) (end_stopped _ c.args.ids.now c.requires.in_case c.requires.cased c.requires.scratch _ _ c.at_constructor_with.new.out _ c.at_constructor_with.auto.out c.in_err-judgment.ensures.moved_as g _)

pub insert_all-requires : goal.insert_all-requires
insert_all-requires c = end_insert _ c.args.ids.now c.requires.in_case c.requires.cased c.requires.scratch _ _ c.at_constructor_with.new.out _ c.at_constructor_with.auto.out c.in_ok-judgment.ensures.moved_as

pub returns-in_err-end-clause-passed_as : goal.returns-in_err-end-clause-passed_as
returns-in_err-end-clause-passed_as c = λ g.
    let p = err_from_is_err_and c.from_residual-in_err-end.result c.from_residual-in_err-end.ensures.1 in
    rw (p.1, p.2) (end_unsupposed _ c.args.ids.now c.requires.in_case c.requires.cased c.requires.scratch _ _ c.at_constructor_with.new.out _ c.at_constructor_with.auto.out c.in_ok-judgment.ensures.moved_as _ _ c.hypotheses_with.new.ids _ c.in_err-end.ensures.hyps_made_as g _)

pub slice_bounds-rows-end : goal.slice_bounds-rows-end
slice_bounds-rows-end c = end_rows _ c.args.ids.now c.requires.in_case c.requires.cased c.requires.scratch _ _ c.at_constructor_with.new.out _ c.at_constructor_with.auto.out c.in_ok-judgment.ensures.moved_as _ _ c.hypotheses_with.new.ids _ c.in_ok-end.ensures.hyps_made_as c.hypotheses_with.auto.ids

pub case_fact-requires : goal.case_fact-requires
case_fact-requires c =
    let b = resting _ c.args.ids.now c.requires.in_case c.requires.cased c.requires.scratch _ _ c.at_constructor_with.new.out _ c.at_constructor_with.auto.out c.in_ok-judgment.ensures.moved_as _ _ c.hypotheses_with.new.ids _ c.in_ok-end.ensures.hyps_made_as _ c.insert_all.ensures c.hypotheses_with.auto.ids c.requires.in_case in
    rest_given b _ (elim c.if-width-eq0.branch [
      | then-width-eq0 w ↦ λ t l. rw w.plain-is (plain_without b w.if-width-eq0.true _ w.insert_all-then-width-eq0.ensures t l)
      | else-width-eq0 w ↦ λ t l. rw w.plain-is (plain_with b w.if-width-eq0.false t l)
    ])

pub returns-clause-passed_as : goal.returns-clause-passed_as
returns-clause-passed_as c = λ g. end_passed _ c.args.ids.now c.requires.in_case c.requires.cased c.requires.scratch _ _ c.at_constructor_with.new.out _ c.at_constructor_with.auto.out c.in_ok-judgment.ensures.moved_as _ _ c.hypotheses_with.new.ids _ c.in_ok-end.ensures.hyps_made_as _ c.insert_all.ensures c.hypotheses_with.auto.ids g _ _
    (λ b. c.case_fact.ensures (rest_given b _ (elim c.if-width-eq0.branch [
      | then-width-eq0 w ↦ λ t l. rw w.plain-is (plain_without b w.if-width-eq0.true _ w.insert_all-then-width-eq0.ensures t l)
      | else-width-eq0 w ↦ λ t l. rw w.plain-is (plain_with b w.if-width-eq0.false t l)
    ])) b.there)
