use Rattle.terms.proofs.Gathers.{gathered_node, rebuild_done}
use Rattle.terms.proofs.replace.rebuild.Goals as goal

pub keep-requires-clause-node : goal.keep-requires-clause-node
keep-requires-clause-node c =
    let g = rw c.terms.ensures at c.gather.ensures in
    gathered_node _ _ _ _ c.requires.rebuildable _ _ g _ c.requires.shaped

pub returns-clause-kept : goal.returns-clause-kept
returns-clause-kept c =
    let g = rw c.terms.ensures at c.gather.ensures in
    rebuild_done _ _ _ _ c.requires.rebuildable _ _ g _ _ _ _ _ _ _ c.keep.ensures.kept
