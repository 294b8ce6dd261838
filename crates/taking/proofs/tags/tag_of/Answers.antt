use mathlib.Core.Path.{◌∙◌}
use Rattle.rules.specs.Tags.{proof_tag}
use Rattle.sexp.specs.TagTable.{tag_answer}
use Rattle.taking.proofs.Heads.{tag_none, tag_found}
use Rattle.taking.proofs.tags.tag_of.Goals as goal

pub returns-in_err-name : goal.returns-in_err-name
returns-in_err-name c = λ xs h. rw c.from_residual.ensures (tag_none proof_tag tag_answer xs (c.in_err-name.ensures xs h).1)

pub returns : goal.returns
returns c = λ xs h. c.proof_tag.ensures ∙ tag_found proof_tag tag_answer xs (c.in_ok-name.ensures xs h).1 (c.count.ensures xs h.cells)
