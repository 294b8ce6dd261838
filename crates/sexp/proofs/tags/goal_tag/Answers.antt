use Rattle.std.proofs.Common.{refl, ◌∙◌}
use Rattle.rules.specs.Tags.{tagging}
use Rattle.sexp.proofs.TagLaws.{goal_is}
use Rattle.sexp.proofs.tags.goal_tag.Goals as goal

pub returns : goal.returns
unfolding tagging
returns c = c.tag_in.ensures ∙ goal_is _ _ _ refl refl
