use Rattle.terms.proofs.SetWords.{has_law}
use Rattle.terms.proofs.sets.has.Goals as goal

pub returns : goal.returns
returns c = has_law _ _
