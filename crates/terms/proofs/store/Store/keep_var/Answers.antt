use Rattle.terms.specs.Laws.Variable.{var_node, var_after}
use Rattle.terms.proofs.store.Store.keep_var.Goals as goal

pub keep-requires-clause-node : goal.keep-requires-clause-node
keep-requires-clause-node c = var_node _ _ c.requires.1

pub returns-clause-kept : goal.returns-clause-kept
returns-clause-kept c = var_after c.keep.ensures.kept
