use mathlib.Core.Path.{ap, ◌∙◌}
use Rattle.std.specs.Prelude.{Err}
use Rattle.kernel.proofs.Handed.{handed}
use Rattle.kernel.proofs.Missing.{there, absent, question_is}
use Rattle.std.proofs.lemmas.Result.{err_from_is_err_and}
use Rattle.referring.specs.Laws.Refers.{refers_recalls}
use Rattle.inversion.proofs.InvertOn.{on_atom, on_cases, on_refused, on_turning, on_turned}
use Rattle.inversion.proofs.inverting.Inverting.invert_on.Goals as goal

pub returns-in_err-inner-clause-inverted_on_as : goal.returns-in_err-inner-clause-inverted_on_as
returns-in_err-inner-clause-inverted_on_as c = λ g.
    rw (handed c.from_residual.result c.from_residual.ensures ∙ ap Err (question_is _ _ c.ok_or.ensures.ok_part c.ok_or.ensures.value c.in_err-inner.was))
    (on_atom g (rw (absent _ _ c.ok_or.ensures.ok_part c.in_err-inner.was) at c.list.ensures))

pub read_cases-requires : goal.read_cases-requires
read_cases-requires c = on_cases c.requires.inverts_on (rw (there _ _ c.ok_or.ensures.ok_part c.in_ok-inner.was) at c.list.ensures)

pub returns-in_err-read_cases-clause-inverted_on_as : goal.returns-in_err-read_cases-clause-inverted_on_as
returns-in_err-read_cases-clause-inverted_on_as c = λ g. let p = err_from_is_err_and c.from_residual-in_err-read_cases.result c.from_residual-in_err-read_cases.ensures.1 in
    rw (p.1, p.2) (on_refused g (rw (there _ _ c.ok_or.ensures.ok_part c.in_ok-inner.was) at c.list.ensures) (λ w. (c.in_err-read_cases.ensures w).0))

pub taken_vars-names-requires : goal.taken_vars-names-requires
taken_vars-names-requires c = let g = c.requires.inverts_on in
    rw c.terms.ensures (refers_recalls g.form.refers, g.hypothesis, g.judgment, g.known)

pub all_rules-requires-clause-turning : goal.all_rules-requires-clause-turning
all_rules-requires-clause-turning c =
    on_turning c.requires.inverts_on (rw (there _ _ c.ok_or.ensures.ok_part c.in_ok-inner.was) at c.list.ensures) c.in_ok-read_cases.ensures
    (rw c.terms.ensures at c.taken_vars-names.ensures)

pub returns-clause-inverted_on_as : goal.returns-clause-inverted_on_as
returns-clause-inverted_on_as c = λ g. on_turned g (rw (there _ _ c.ok_or.ensures.ok_part c.in_ok-inner.was) at c.list.ensures) c.in_ok-read_cases.ensures _ _ _ _ _ (c.all_rules.ensures.turned_as
    (on_turning g (rw (there _ _ c.ok_or.ensures.ok_part c.in_ok-inner.was) at c.list.ensures) c.in_ok-read_cases.ensures
    (rw c.terms.ensures at c.taken_vars-names.ensures)))
