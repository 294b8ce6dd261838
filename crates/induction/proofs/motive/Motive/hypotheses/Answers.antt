use native.Mathlib.Omega.{arith}
use Rattle.induction.proofs.Moves.{put_none}
use Rattle.induction.proofs.motive.Motive.hypotheses.Goals as goal

pub hypotheses_with-requires-clause-put : goal.hypotheses_with-requires-clause-put
hypotheses_with-requires-clause-put c = put_none _

pub hypotheses_with-requires-clause-below : goal.hypotheses_with-requires-clause-below
hypotheses_with-requires-clause-below c = (c.requires.below.0, omega (arith, c.requires.below.1), c.requires.below.2)
