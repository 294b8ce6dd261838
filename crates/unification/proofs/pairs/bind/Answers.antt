use Rattle.unification.proofs.Compares.{bind_clash, bind_to}
use Rattle.unification.proofs.pairs.bind.Goals as goal

pub returns-then-not-occurs-clause-answered : goal.returns-then-not-occurs-clause-answered
returns-then-not-occurs-clause-answered c = bind_to _ _ _ _ _ _ c.requires.0 c.requires.1 _ c.occurs.ensures.occurs c.if-not-occurs.true

pub returns-clause-answered : goal.returns-clause-answered
returns-clause-answered c = bind_clash _ _ _ c.occurs.ensures.occurs c.if-not-occurs.false
