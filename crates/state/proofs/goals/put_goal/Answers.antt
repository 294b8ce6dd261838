use Prim.Native.Nat.{◌*◌}
use Rattle.state.proofs.Stores.{stores6}
use Rattle.state.proofs.goals.put_goal.Goals as goal

pub returns : goal.returns
returns c = rw c.put_span.ensures (stores6 c.args.goals.now (6 * c.args.k) c.args.name.from c.args.name.end c.args.judgment c.args.from c.args.hyps 0)
