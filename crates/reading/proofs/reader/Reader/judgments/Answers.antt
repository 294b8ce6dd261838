use mathlib.Core.Path.{refl, ap, ◌∙◌}
use Rattle.std.specs.Prelude.{Err}
use Rattle.kernel.proofs.Handed.{handed}
use Rattle.kernel.proofs.Missing.{question_is}
use Rattle.reading.specs.Laws.Parts.{first_is, first_not}
use Rattle.terms.specs.On.{pure_stopped}
use Rattle.reading.proofs.Judgments.{atom_stops, reads_inside, judgments_read}
use Rattle.reading.proofs.reader.Reader.judgments.Goals as goal

pub returns-in_err-inner-clause-judgments_as : goal.returns-in_err-inner-clause-judgments_as
returns-in_err-inner-clause-judgments_as c = λ g. rw (handed c.from_residual.result c.from_residual.ensures ∙ ap Err (question_is _ _ c.ok_or.ensures.ok_part c.ok_or.ensures.value c.in_err-inner.was))
    (pure_stopped g.reads.good (atom_stops g.S g.x _ _ (first_not g.holds c.list.ensures c.ok_or.ensures.ok_part c.in_err-inner.was).1.is _), refl)

pub judgment_each-count-requires : goal.judgment_each-count-requires
judgment_each-count-requires c = record { reads_items = reads_inside c.requires.reads_item (first_is c.requires.reads_item.holds c.list.ensures c.ok_or.ensures.ok_part c.in_ok-inner.was); out_value = c.requires.out_value }

pub returns-clause-judgments_as : goal.returns-clause-judgments_as
returns-clause-judgments_as c = λ g. rw c.or_cleared.ensures.same
    (judgments_read g (first_is g.holds c.list.ensures c.ok_or.ensures.ok_part c.in_ok-inner.was) _ _ _ _ _ c.judgment_each-count.ensures.judgments_as _ c.requires.out_value
    c.judgment_each-count.auto.out c.or_cleared.ensures.cleared)
