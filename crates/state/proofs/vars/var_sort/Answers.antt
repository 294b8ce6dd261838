use Prim.Native.Nat.{◌*◌}
use native.Mathlib.Omega.{arith}
use Rattle.state.proofs.Stores.{first_cell}
use Rattle.state.proofs.vars.var_sort.Goals as goal

pub overflow_cast-result : goal.overflow_cast-result
overflow_cast-result c = omega (arith, c.type_inv.vars (4 * c.args.v))

pub returns : goal.returns
returns c = first_cell c.args.vars.now (4 * c.args.v)
