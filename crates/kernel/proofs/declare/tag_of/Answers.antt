use mathlib.Core.Path.{◌∙◌}
use Rattle.kernel.proofs.Tagged.{tag_none, tag_found}
use Rattle.kernel.proofs.declare.tag_of.Goals as goal

pub returns-in_err-name : goal.returns-in_err-name
returns-in_err-name c = λ xs h. rw c.from_residual.ensures (tag_none xs (c.in_err-name.ensures xs h).1)

pub returns : goal.returns
returns c = λ xs h. c.theory_tag.ensures ∙ tag_found xs (c.in_ok-name.ensures xs h).1 (c.count.ensures xs h.cells)
