use Rattle.std.proofs.Common.{refl, ◌∙◌}
use Rattle.rules.specs.Tags.{tagging}
use Rattle.sexp.proofs.TagLaws.{index_is}
use Rattle.sexp.proofs.tags.index_place.Goals as goal

pub returns-in_err-form : goal.returns-in_err-form
unfolding tagging
returns-in_err-form c = c.from_residual.ensures ∙ index_is _ _ _ c.in_err-form.ensures refl

pub returns : goal.returns
unfolding tagging
returns c = index_is _ _ _ c.in_ok-form.ensures refl
