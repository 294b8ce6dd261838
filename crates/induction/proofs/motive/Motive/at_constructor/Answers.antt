use native.Mathlib.Omega.{arith}
use Rattle.induction.proofs.Moves.{put_none}
use Rattle.induction.proofs.motive.Motive.at_constructor.Goals as goal

pub at_constructor_with-requires-clause-casing : goal.at_constructor_with-requires-clause-casing
at_constructor_with-requires-clause-casing c =
    let g = c.requires.casing.0 in
    (record { good = g.good; symbol = omega (arith, g.symbol); narrow = g.narrow; small = g.small }, c.requires.casing.1)

pub at_constructor_with-requires-clause-put : goal.at_constructor_with-requires-clause-put
at_constructor_with-requires-clause-put c = put_none _
