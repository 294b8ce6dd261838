use mathlib.Core.Path.{sym, ap, ◌∙◌, subst}
use Rattle.std.specs.Prelude.{Ok, Err}
use Rattle.kernel.proofs.Handed.{handed}
use Rattle.kernel.proofs.Missing.{there, absent, question_is}
use Rattle.sexp.specs.Each.{first_atom, first_list}
use Rattle.questions.specs.declared.Question.TheVariants.{GoalForm}
use Rattle.taking.specs.Taking.{GoalTakenIn}
use Rattle.taking.proofs.Heads.{goal_atom_lem, goal_takes}
use Rattle.taking.proofs.Ends.{err_of, ok_of, left_part, left_back, never_tried}
use Rattle.taking.proofs.take.take_goal.Goals as goal
use Rattle.kernel.proofs.Tagged.{alone}

pub returns-in_err-inner-clause-taken_as : goal.returns-in_err-inner-clause-taken_as
returns-in_err-inner-clause-taken_as c = λ g.
    rw (handed c.from_residual.result c.from_residual.ensures ∙ ap Err (question_is _ _ c.ok_or.ensures.ok_part c.ok_or.ensures.value c.in_err-inner.was))
    (never_tried c.args.given.now c.args.board.now c.args.store.now GoalForm g.form.stands (goal_atom_lem (first_atom (alone g.form.formed) (rw (absent _ _ c.ok_or.ensures.ok_part c.in_err-inner.was) at c.list.ensures)).1 g.form.S))

pub goal_items-taken-requires : goal.goal_items-taken-requires
goal_items-taken-requires c = (record { items = record { S = c.requires.form.S; xs = (first_list (alone c.requires.form.formed) (rw (there _ _ c.ok_or.ensures.ok_part c.in_ok-inner.was) at c.list.ensures)).items; stands = c.requires.form.stands; bounded = c.requires.form.bounded; holds = (first_list (alone c.requires.form.formed) (rw (there _ _ c.ok_or.ensures.ok_part c.in_ok-inner.was) at c.list.ensures)).holds }; none_yet = c.requires.none; text = c.requires.text })

pub forget-requires : goal.forget-requires
forget-requires c =
    let p = err_of c.goal_items-taken.result (sym c.is_err.ensures.value ∙ c.if-is_err.true) in
    left_part c.args.given.now c.args.board.now c.goal_items-taken.new.board c.args.store.now c.goal_items-taken.new.store c.requires.form.stands _ ((rw p.1 at c.goal_items-taken.ensures.tried_as) (record { items = record { S = c.requires.form.S; xs = (first_list (alone c.requires.form.formed) (rw (there _ _ c.ok_or.ensures.ok_part c.in_ok-inner.was) at c.list.ensures)).items; stands = c.requires.form.stands; bounded = c.requires.form.bounded; holds = (first_list (alone c.requires.form.formed) (rw (there _ _ c.ok_or.ensures.ok_part c.in_ok-inner.was) at c.list.ensures)).holds }; none_yet = c.requires.none; text = c.requires.text }))

pub returns-else-is_err-clause-taken_as : goal.returns-else-is_err-clause-taken_as
returns-else-is_err-clause-taken_as c = λ g.
    let p = ok_of c.goal_items-taken.result (sym c.is_err.ensures.value ∙ c.if-is_err.false) in
    rw p.1 (subst (λ z. GoalTakenIn c.args.given.now c.args.board.now c.goal_items-taken.new.board c.args.store.now c.goal_items-taken.new.store g.form.S z (Ok p.0)) (sym (goal_takes (first_list (alone g.form.formed) (rw (there _ _ c.ok_or.ensures.ok_part c.in_ok-inner.was) at c.list.ensures)) g.form.S)) ((rw p.1 at c.goal_items-taken.ensures.tried_as) (record { items = record { S = g.form.S; xs = (first_list (alone g.form.formed) (rw (there _ _ c.ok_or.ensures.ok_part c.in_ok-inner.was) at c.list.ensures)).items; stands = g.form.stands; bounded = g.form.bounded; holds = (first_list (alone g.form.formed) (rw (there _ _ c.ok_or.ensures.ok_part c.in_ok-inner.was) at c.list.ensures)).holds }; none_yet = g.none; text = g.text })))

pub returns-then-is_err-clause-taken_as : goal.returns-then-is_err-clause-taken_as
returns-then-is_err-clause-taken_as c = λ g.
    let p = err_of c.goal_items-taken.result (sym c.is_err.ensures.value ∙ c.if-is_err.true) in
    rw p.1 (left_back c.args.given.now c.args.board.now c.goal_items-taken.new.board c.args.store.now c.goal_items-taken.new.store g.form.stands _ ((rw p.1 at c.goal_items-taken.ensures.tried_as) (record { items = record { S = g.form.S; xs = (first_list (alone g.form.formed) (rw (there _ _ c.ok_or.ensures.ok_part c.in_ok-inner.was) at c.list.ensures)).items; stands = g.form.stands; bounded = g.form.bounded; holds = (first_list (alone g.form.formed) (rw (there _ _ c.ok_or.ensures.ok_part c.in_ok-inner.was) at c.list.ensures)).holds }; none_yet = g.none; text = g.text })) c.forget.new.self c.forget.ensures.back c.forget.ensures.mark (goal_takes (first_list (alone g.form.formed) (rw (there _ _ c.ok_or.ensures.ok_part c.in_ok-inner.was) at c.list.ensures)) g.form.S))
