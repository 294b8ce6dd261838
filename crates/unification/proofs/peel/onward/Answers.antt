use Rattle.std.proofs.Common.{refl}
use Rattle.unification.proofs.Looks.{look_crowd, look_more}
use Rattle.unification.proofs.peel.onward.Goals as goal

pub returns-then-scratch-left-gt-PAIRS-clause-looked : goal.returns-then-scratch-left-gt-PAIRS-clause-looked
returns-then-scratch-left-gt-PAIRS-clause-looked c = (look_crowd _ _ _ _ _ _ _ _ c.requires _ c.compare.result c.compare.ensures.answered _ _ c.in-Parts.is c.if-scratch-left-gt-PAIRS.true, refl)

pub returns-else-scratch-left-gt-PAIRS-clause-looked : goal.returns-else-scratch-left-gt-PAIRS-clause-looked
returns-else-scratch-left-gt-PAIRS-clause-looked c = rw c.push.ensures.waiting (look_more _ _ _ _ _ _ _ _ c.requires _ c.compare.result c.compare.ensures.answered _ _ c.in-Parts.is c.if-scratch-left-gt-PAIRS.false _ c.push.ensures.pairs)
