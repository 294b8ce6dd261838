use Rattle.unification.proofs.Solves.{cleared}
use Rattle.unification.proofs.unify.clear_memo.Goals as goal

pub returns : goal.returns
returns c = cleared _ _ c.requires _ c.clear.ensures
