use Rattle.std.proofs.Common.{arith, ext_get_or}
use Rattle.terms.proofs.store.write_node.Goals as goal

pub returns : goal.returns
returns c = ext_get_or 0 _ _ c.loop-i.invariant.0 (λ k h. c.loop-i.invariant.1 k (omega arith))
