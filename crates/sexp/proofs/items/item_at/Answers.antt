use native.Mathlib.Omega.{arith}
use borrow.Author.Tests.{eq-eqb, ne_eqb}
use Rattle.sexp.specs.Items.{item_at}
use Rattle.sexp.proofs.items.item_at.Goals as goal

pub overflow_cast-cell : goal.overflow_cast-cell
overflow_cast-cell c = omega (arith, c.shared_slice_known-1.given c.args.at)

pub returns-then-cell-eq1 : goal.returns-then-cell-eq1
unfolding item_at
returns-then-cell-eq1 c = rw (eq-eqb _ _ c.if-cell-eq1.true)

pub overflow_add-result : goal.overflow_add-result
overflow_add-result c = omega (arith, c.shared_slice_known-1.given c.args.at, c.well_formed, c.requires)

pub returns : goal.returns
unfolding item_at
returns c = rw (ne_eqb _ _ c.if-cell-eq1.false)
