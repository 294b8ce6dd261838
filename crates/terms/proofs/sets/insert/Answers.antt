use Rattle.terms.proofs.SetWords.{insert_law}
use Rattle.terms.proofs.sets.insert.Goals as goal

pub returns : goal.returns
returns c = insert_law _ _ (c.requires)
