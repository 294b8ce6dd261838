use native.Mathlib.Omega.{arith}
use Rattle.sexp.specs.ItemLaws.{at_first}
use Rattle.sexp.proofs.Tallies.{walked}
use Rattle.sexp.proofs.items.count.Goals as goal

pub returns : goal.returns
returns c xs e =
    let (items, (u, (t, gives, ends)), is) = c.count.ensures.ran in
    omega (arith, is, walked _ t u items xs c.all.ensures.0 (rw c.all.ensures.1 (at_first e)) gives ends)
