use mathlib.Core.Path.{sym, ap, ◌∙◌, subst}
use Rattle.std.specs.Prelude.{Ok, Err}
use Rattle.kernel.proofs.Handed.{handed}
use Rattle.kernel.proofs.Missing.{there, absent, question_is}
use Rattle.sexp.specs.Each.{first_atom, first_list}
use Rattle.questions.specs.declared.Question.TheVariants.{ProofForm}
use Rattle.taking.specs.Taking.{TakenIn}
use Rattle.taking.proofs.Heads.{form_atom_lem, form_takes}
use Rattle.taking.proofs.Ends.{err_of, ok_of, left_part, left_back, never_tried}
use Rattle.taking.proofs.take.take_form.Goals as goal
use Rattle.kernel.proofs.Tagged.{alone}

pub returns-in_err-inner-clause-taken_as : goal.returns-in_err-inner-clause-taken_as
returns-in_err-inner-clause-taken_as c = λ g.
    rw (handed c.from_residual.result c.from_residual.ensures ∙ ap Err (question_is _ _ c.ok_or.ensures.ok_part c.ok_or.ensures.value c.in_err-inner.was))
    (never_tried c.args.given.now c.args.board.now c.args.store.now ProofForm g.stands (form_atom_lem (first_atom (alone g.formed) (rw (absent _ _ c.ok_or.ensures.ok_part c.in_err-inner.was) at c.list.ensures)).1 g.S))

pub form_items-taken-requires : goal.form_items-taken-requires
form_items-taken-requires c = ((record { S = c.requires.0.S; xs = (first_list (alone c.requires.0.formed) (rw (there _ _ c.ok_or.ensures.ok_part c.in_ok-inner.was) at c.list.ensures)).items; stands = c.requires.0.stands; bounded = c.requires.0.bounded; holds = (first_list (alone c.requires.0.formed) (rw (there _ _ c.ok_or.ensures.ok_part c.in_ok-inner.was) at c.list.ensures)).holds }), c.requires.1)

pub forget-requires : goal.forget-requires
forget-requires c =
    let p = err_of c.form_items-taken.result (sym c.is_err.ensures.value ∙ c.if-is_err.true) in
    left_part c.args.given.now c.args.board.now c.form_items-taken.new.board c.args.store.now c.form_items-taken.new.store c.requires.0.stands _ ((rw p.1 at c.form_items-taken.ensures.tried_as) (record { S = c.requires.0.S; xs = (first_list (alone c.requires.0.formed) (rw (there _ _ c.ok_or.ensures.ok_part c.in_ok-inner.was) at c.list.ensures)).items; stands = c.requires.0.stands; bounded = c.requires.0.bounded; holds = (first_list (alone c.requires.0.formed) (rw (there _ _ c.ok_or.ensures.ok_part c.in_ok-inner.was) at c.list.ensures)).holds }))

pub returns-else-is_err-clause-taken_as : goal.returns-else-is_err-clause-taken_as
returns-else-is_err-clause-taken_as c = λ g.
    let p = ok_of c.form_items-taken.result (sym c.is_err.ensures.value ∙ c.if-is_err.false) in
    rw p.1 (subst (λ z. TakenIn c.args.given.now c.args.board.now c.form_items-taken.new.board c.args.store.now c.form_items-taken.new.store g.S z (Ok p.0)) (sym (form_takes (first_list (alone g.formed) (rw (there _ _ c.ok_or.ensures.ok_part c.in_ok-inner.was) at c.list.ensures)) g.S)) ((rw p.1 at c.form_items-taken.ensures.tried_as) (record { S = g.S; xs = (first_list (alone g.formed) (rw (there _ _ c.ok_or.ensures.ok_part c.in_ok-inner.was) at c.list.ensures)).items; stands = g.stands; bounded = g.bounded; holds = (first_list (alone g.formed) (rw (there _ _ c.ok_or.ensures.ok_part c.in_ok-inner.was) at c.list.ensures)).holds })))

pub returns-then-is_err-clause-taken_as : goal.returns-then-is_err-clause-taken_as
returns-then-is_err-clause-taken_as c = λ g.
    let p = err_of c.form_items-taken.result (sym c.is_err.ensures.value ∙ c.if-is_err.true) in
    rw p.1 (left_back c.args.given.now c.args.board.now c.form_items-taken.new.board c.args.store.now c.form_items-taken.new.store g.stands _ ((rw p.1 at c.form_items-taken.ensures.tried_as) (record { S = g.S; xs = (first_list (alone g.formed) (rw (there _ _ c.ok_or.ensures.ok_part c.in_ok-inner.was) at c.list.ensures)).items; stands = g.stands; bounded = g.bounded; holds = (first_list (alone g.formed) (rw (there _ _ c.ok_or.ensures.ok_part c.in_ok-inner.was) at c.list.ensures)).holds })) c.forget.new.self c.forget.ensures.back c.forget.ensures.mark (form_takes (first_list (alone g.formed) (rw (there _ _ c.ok_or.ensures.ok_part c.in_ok-inner.was) at c.list.ensures)) g.S))
