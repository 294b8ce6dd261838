use Rattle.terms.proofs.Nodes.{open_is}
use Rattle.terms.proofs.store.Terms.is_open.Goals as goal

pub returns : goal.returns
returns c = open_is _ _ c.requires
