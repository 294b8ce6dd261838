use Rattle.state.specs.Records.{fact_rows}
use mathlib.Core.Path.{refl, sym, ap, ◌∙◌}
use lib.Seq.{length-take-le}
use Rattle.std.proofs.lemmas.Result.{err_from_is_err_and}
use Rattle.kernel.proofs.Handed.{handed}
use Rattle.state.specs.Held.{records}
use Rattle.forms.proofs.RuleHyps.{items_of, vars_given, rule_zero, rule_stops, rule_unlisted, rule_asks, rule_inside, vars_inside, rule_added, rule_full}
use Rattle.kernel.proofs.Missing.{there, absent, question_is}
use Rattle.forms.proofs.Tails.{tailed_same}
use Rattle.std.specs.Prelude.{Err}
use Rattle.forms.proofs.hypotheses.add_rule_hyp.Goals as goal

pub read_stated-requires-clause-out_value : goal.read_stated-requires-clause-out_value
read_stated-requires-clause-out_value c = rule_zero c.requires c.min-from.ensures

pub returns-in_err-stated-clause-assumed_as : goal.returns-in_err-stated-clause-assumed_as
returns-in_err-stated-clause-assumed_as c = λ g. rw (handed c.from_residual.result c.from_residual.ensures)
    (let h = rule_stops g c.min-from.ensures c.in_err-stated.ensures.stated_as in (h.0, h.1, refl))

pub vars_list-listed-requires : goal.vars_list-listed-requires
vars_list-listed-requires c = rw c.reader_of.ensures (vars_given (items_of c.requires) c.requires.many c.from.ensures, refl)

pub returns-in_err-many-clause-assumed_as : goal.returns-in_err-many-clause-assumed_as
returns-in_err-many-clause-assumed_as c = λ g.
    let e = sym c.in_err-many.ensures.same in
    let v = (rw (absent _ _ c.ok_or.ensures.ok_part e, c.reader_of.ensures) at c.vars_list-listed.ensures) (vars_given (items_of g) g.many c.from.ensures) in
    let h = rule_unlisted g c.min-from.ensures c.in_ok-stated.ensures.stated_as c.read_stated.auto.out v.0 refl (rw e at c.in_err-many.ensures.cleared) in
    rw (handed c.from_residual-in_err-many.result c.from_residual-in_err-many.ensures
    ∙ ap Err (question_is _ _ c.ok_or.ensures.ok_part c.ok_or.ensures.value e)) (h.0, h.1, refl)

pub slice_bounds-general-end : goal.slice_bounds-general-end
slice_bounds-general-end c =
    let v = (rw (there _ _ c.ok_or.ensures.ok_part (sym c.in_ok-many.ensures.same), c.reader_of.ensures) at c.vars_list-listed.ensures) (vars_given (items_of c.requires) c.requires.many c.from.ensures) in
    vars_inside c.requires v

pub slice_bounds-put_rule-end : goal.slice_bounds-put_rule-end
slice_bounds-put_rule-end c =
    let v = (rw (there _ _ c.ok_or.ensures.ok_part (sym c.in_ok-many.ensures.same), c.reader_of.ensures) at c.vars_list-listed.ensures) (vars_given (items_of c.requires) c.requires.many c.from.ensures) in
    sym (length-take-le c.in_ok-many.many c.vars_list-listed.new.out (vars_inside c.requires v))

pub put_rule-put-requires : goal.put_rule-put-requires
put_rule-put-requires c = (
  c.requires.footings,
  rule_asks c.requires c.min-from.ensures c.in_ok-stated.ensures.stated_as c.read_stated.auto.out
      (tailed_same _ _ (rw (sym c.in_ok-many.ensures.same) at c.in_ok-many.ensures.cleared)),
)

pub slice_bounds-or_cleared-count-2 : goal.slice_bounds-or_cleared-count-2
slice_bounds-or_cleared-count-2 c =
    let u = (rw (there _ _ c.ok_or.ensures.ok_part (sym c.in_ok-many.ensures.same), c.reader_of.ensures) at c.vars_list-listed.ensures) (vars_given (items_of c.requires) c.requires.many c.from.ensures) in
    rule_inside c.requires c.min-from.ensures c.in_ok-stated.ensures.stated_as c.read_stated.auto.out u
    (tailed_same _ _ (rw (sym c.in_ok-many.ensures.same) at c.in_ok-many.ensures.cleared))
    (records (fact_rows c.put_rule-put.new.board.facts.now) c.requires.footings c.put_rule-put.new.board.lists.now)
    c.put_rule-put.new.board.n c.put_rule-put.result c.put_rule-put.ensures.put_as

pub slice_bounds-or_cleared-start-2 : goal.slice_bounds-or_cleared-start-2
slice_bounds-or_cleared-start-2 c =
    let u = (rw (there _ _ c.ok_or.ensures.ok_part (sym c.in_ok-many.ensures.same), c.reader_of.ensures) at c.vars_list-listed.ensures) (vars_given (items_of c.requires) c.requires.many c.from.ensures) in
    rule_inside c.requires c.min-from.ensures c.in_ok-stated.ensures.stated_as c.read_stated.auto.out u
    (tailed_same _ _ (rw (sym c.in_ok-many.ensures.same) at c.in_ok-many.ensures.cleared))
    (records (fact_rows c.put_rule-put.new.board.facts.now) c.requires.footings c.put_rule-put.new.board.lists.now)
    c.put_rule-put.new.board.n c.put_rule-put.result c.put_rule-put.ensures.put_as

pub returns-in_err-or_cleared-clause-assumed_as : goal.returns-in_err-or_cleared-clause-assumed_as
returns-in_err-or_cleared-clause-assumed_as c = λ g.
    let e = sym c.in_err-or_cleared.ensures.same in
    let w = rw e at c.put_rule-put.ensures.put_as in
    let u = (rw (there _ _ c.ok_or.ensures.ok_part (sym c.in_ok-many.ensures.same), c.reader_of.ensures) at c.vars_list-listed.ensures) (vars_given (items_of g) g.many c.from.ensures) in
    let p = err_from_is_err_and c.from_residual-in_err-or_cleared.result c.from_residual-in_err-or_cleared.ensures.1 in
    rw (p.1, p.2) (rule_full g c.min-from.ensures c.in_ok-stated.ensures.stated_as c.read_stated.auto.out u
    (tailed_same _ _ (rw (sym c.in_ok-many.ensures.same) at c.in_ok-many.ensures.cleared))
    (records (fact_rows c.put_rule-put.new.board.facts.now) g.footings c.put_rule-put.new.board.lists.now)
    c.put_rule-put.new.board.n _ w (rw e at c.in_err-or_cleared.ensures.cleared))

pub returns-clause-assumed_as : goal.returns-clause-assumed_as
returns-clause-assumed_as c = λ g.
    let e = sym c.in_ok-or_cleared.ensures.same in
    let w = rw e at c.put_rule-put.ensures.put_as in
    let u = (rw (there _ _ c.ok_or.ensures.ok_part (sym c.in_ok-many.ensures.same), c.reader_of.ensures) at c.vars_list-listed.ensures) (vars_given (items_of g) g.many c.from.ensures) in
    rw (tailed_same _ _ (rw e at c.in_ok-or_cleared.ensures.cleared)) (rule_added g c.min-from.ensures c.in_ok-stated.ensures.stated_as c.read_stated.auto.out u
    (tailed_same _ _ (rw (sym c.in_ok-many.ensures.same) at c.in_ok-many.ensures.cleared))
    (records (fact_rows c.put_rule-put.new.board.facts.now) g.footings c.put_rule-put.new.board.lists.now)
    c.put_rule-put.new.board.n w)
