use native.Mathlib.Omega.{arith}
use Rattle.sexp.proofs.sexp.close_list.Goals as goal

pub overflow_cast-around : goal.overflow_cast-around
overflow_cast-around c = omega (arith, c.slice_known-1.given c.args.head)
