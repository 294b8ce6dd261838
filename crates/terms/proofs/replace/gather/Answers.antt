use Rattle.terms.proofs.Gathers.{gathering_on, gathering_ends}
use Rattle.terms.proofs.replace.gather.Goals as goal

pub loop-k-preserved : goal.loop-k-preserved
loop-k-preserved c = gathering_on _ _ _ _ _ _ _ c.loop-k.invariant c.loop-k-test.true

pub returns : goal.returns
returns c = gathering_ends _ _ c.args.node.now _ _ _ _ c.loop-k.invariant c.requires.in_bounds c.loop-k-test.false
