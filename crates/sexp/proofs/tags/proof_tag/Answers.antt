use Rattle.std.proofs.Common.{refl, ◌∙◌, rules}
use Rattle.rules.specs.Tags.{tagging}
use Rattle.sexp.proofs.TagLaws.{proof_is}
use Rattle.sexp.proofs.tags.proof_tag.Goals as goal

pub returns : goal.returns
unfolding tagging
returns c = let e = c.tag_in.ensures ∙ proof_is _ _ _ refl refl in search (rules, e)
