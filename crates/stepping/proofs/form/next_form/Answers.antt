use Rattle.stepping.proofs.form.next_form.Goals as goal

pub returns-clause-advanced : goal.returns-clause-advanced
returns-clause-advanced c = λ g. c.form_long.ensures.advanced g.rest
