use Prim.Native.Nat.{◌+◌, ◌*◌}
use native.Mathlib.Omega.{arith}
use Rattle.state.proofs.goals.goal_hyps.Goals as goal

pub overflow_cast-from : goal.overflow_cast-from
overflow_cast-from c = omega (arith, c.type_inv.goals (6 * c.args.k + 3))

pub overflow_cast-result : goal.overflow_cast-result
overflow_cast-result c = omega (arith, c.type_inv.goals (6 * c.args.k + 4))

pub overflow_add-result-2 : goal.overflow_add-result-2
overflow_add-result-2 c = omega (
  arith,
  c.type_inv.goals (6 * c.args.k + 3),
  c.type_inv.goals (6 * c.args.k + 4),
)
