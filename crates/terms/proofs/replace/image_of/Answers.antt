use Rattle.std.proofs.Common.{◌∙◌}
use Rattle.terms.proofs.Gathers.{image_found, image_out}
use Rattle.terms.proofs.replace.image_of.Goals as goal

pub returns-in_default : goal.returns-in_default
returns-in_default c = image_out _ _ _ c.in_default.ensures.lookup.3

pub returns : goal.returns
returns c = c.unwrap_or.ensures ∙ image_found _ _ _ _ _ (c.in-Some.ensures.lookup.3.1 0) c.checked_sub.ensures
