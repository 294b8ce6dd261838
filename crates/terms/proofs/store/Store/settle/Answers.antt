use Rattle.terms.proofs.Nodes.{settling}
use Rattle.terms.proofs.store.Store.settle.Goals as goal

pub returns-clause-index : goal.returns-clause-index
returns-clause-index c = settling c.args.self.now.index.now _ c.requires c.clear.ensures
