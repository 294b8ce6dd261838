use Rattle.std.proofs.Common.{refl, ◌∙◌, rules}
use Rattle.rules.specs.Tags.{tagging}
use Rattle.sexp.proofs.TagLaws.{theory_is}
use Rattle.sexp.proofs.tags.theory_tag.Goals as goal

pub returns : goal.returns
unfolding tagging
returns c = let e = c.tag_in.ensures ∙ theory_is _ _ _ refl refl in search (rules, e)
