use Rattle.std.proofs.Common.{sym}
use Rattle.terms_main.proofs.Nodes.{args_below}
use Rattle.terms_main.proofs.ShownDisplay.+fmt.Goals as goal

pub loop-arg-init : goal.loop-arg-init
loop-arg-init g t c =
    let id = c.self.inside.id in
    let i = c.self.invariant in
    rw (sym c.self.view_is) (args_below id c.node-node.result.now (rw c.node-node.ensures (i.0.shaped id i.1)) c.in_default.ensures.1)
