use mathlib.Core.Path.{refl, ap, ◌∙◌}
use Rattle.std.specs.Prelude.{Err}
use Rattle.reading.specs.Laws.Parts.{first_is, first_not}
use Rattle.kernel.proofs.Handed.{handed}
use Rattle.kernel.proofs.Missing.{question_is}
use Rattle.reading.proofs.Hypotheses.{atom_refuses, facts_inside, hyps_read}
use Rattle.reading.proofs.reader.Reader.hyp_list.Goals as goal

pub returns-in_err-inner : goal.returns-in_err-inner
returns-in_err-inner o c = λ g p s. rw (handed c.from_residual.result c.from_residual.ensures ∙ ap Err (question_is _ _ c.ok_or.ensures.ok_part c.ok_or.ensures.value c.in_err-inner.was))
    (atom_refuses p g.S g.x _ _ (first_not g.holds c.list.ensures c.ok_or.ensures.ok_part c.in_err-inner.was).1.is, refl)

pub hyp_each-requires : goal.hyp_each-requires
hyp_each-requires o c =
    let i = c.requires.item in
    record { items = facts_inside i (first_is i.holds c.list.ensures c.ok_or.ensures.ok_part c.in_ok-inner.was); callable = c.requires.callable }

pub returns : goal.returns
returns o c = λ g p s.
    let list = first_is g.holds c.list.ensures c.ok_or.ensures.ok_part c.in_ok-inner.was in
    hyps_read g list p _ (c.hyp_each.ensures (facts_inside g list) p s)
