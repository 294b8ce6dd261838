use Rattle.terms.proofs.Nodes.{flag_byte, linked}
use Rattle.terms.proofs.store.link.Goals as goal

pub returns : goal.returns
returns c = rw (c.from.ensures, flag_byte) (linked _ _ _ _ _ c.requires)
