use mathlib.Core.Path.{◌∙◌}
use Rattle.rules.specs.Tags.{goal_form}
use Rattle.sexp.specs.TagTable.{goal_answer}
use Rattle.taking.proofs.Heads.{tag_none, tag_found}
use Rattle.taking.proofs.tags.tag_of_goal.Goals as goal

pub returns-in_err-name : goal.returns-in_err-name
returns-in_err-name c = λ xs h. rw c.from_residual.ensures (tag_none goal_form goal_answer xs (c.in_err-name.ensures xs h).1)

pub returns : goal.returns
returns c = λ xs h. c.goal_tag.ensures ∙ tag_found goal_form goal_answer xs (c.in_ok-name.ensures xs h).1 (c.count.ensures xs h.cells)
