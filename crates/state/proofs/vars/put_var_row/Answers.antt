use Prim.Native.Nat.{◌*◌}
use Rattle.state.proofs.Stores.{stores4}
use Rattle.state.proofs.vars.put_var_row.Goals as goal

pub returns : goal.returns
returns c = rw c.put_span.ensures (stores4 c.args.vars.now (4 * c.args.v) c.args.sort c.args.text c.args.name.from c.args.name.end)
