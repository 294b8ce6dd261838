use mathlib.Core.Path.{refl, ap, ◌∙◌}
use Rattle.std.specs.Prelude.{Err}
use Rattle.kernel.proofs.Handed.{handed}
use Rattle.kernel.proofs.Missing.{there, absent, question_is}
use Rattle.forms.proofs.OwnIndices.{own_item, own_missing, own_other, own_next}
use Rattle.forms.proofs.next.next_index.Goals as goal

pub index-requires : goal.index-requires
index-requires c = own_item c.requires c.from.ensures

pub returns-in_err-i : goal.returns-in_err-i
returns-in_err-i c = λ g.
    rw (handed c.from_residual.result c.from_residual.ensures ∙ ap Err (question_is _ _ c.ok_or.ensures.ok_part c.ok_or.ensures.value c.in_err-i.was))
    (own_missing g c.from.ensures c.index.ensures (absent _ _ c.ok_or.ensures.ok_part c.in_err-i.was), refl)

pub returns-then-i-n : goal.returns-then-i-n
returns-then-i-n c = λ g. (own_other g c.from.ensures c.index.ensures (there _ _ c.ok_or.ensures.ok_part c.in_ok-i.was) c.if-i-n.true, refl)

pub returns : goal.returns
returns c = λ g. own_next g c.from.ensures c.index.ensures (there _ _ c.ok_or.ensures.ok_part c.in_ok-i.was) c.if-i-n.false
