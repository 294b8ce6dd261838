use native.Mathlib.Omega.{arith}
use Rattle.std.proofs.Common.{refl}
use Rattle.terms.proofs.Forgets.{going_there, going_ends}
use Rattle.terms.proofs.store.Store.forget.Goals as goal

pub returns-clause-back : goal.returns-clause-back
returns-clause-back c = going_ends _ _ _ _ _ _ c.loop.invariant.going (omega arith) _ refl c.requires.ends

pub returns-clause-mark : goal.returns-clause-mark
returns-clause-mark c = going_there _ _ _ _ _ _ c.loop.invariant.going (omega arith) _ refl c.requires.ends
