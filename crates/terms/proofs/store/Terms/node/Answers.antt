use native.Mathlib.Omega.{arith}
use Rattle.terms.proofs.Nodes.{node_fits, node_is}
use Rattle.terms.proofs.store.Terms.node.Goals as goal

pub slice_bounds-result-end : goal.slice_bounds-result-end
slice_bounds-result-end c = omega (arith, node_fits _ _ _ c.requires _ c.start_of.ensures)

pub returns : goal.returns
returns c = node_is _ _ _ _ c.start_of.ensures
