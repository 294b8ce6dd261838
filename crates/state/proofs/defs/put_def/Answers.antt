use Prim.Native.Nat.{◌*◌}
use Rattle.state.proofs.Stores.{stores3}
use Rattle.state.proofs.defs.put_def.Goals as goal

pub returns : goal.returns
returns c = rw c.put_span.ensures (stores3 c.args.defs.now (3 * c.args.d) c.args.name.from c.args.name.end c.args.term)
