use native.Mathlib.Omega.{arith}
use Rattle.terms.specs.Laws.Tables.{start_first, start_later}
use Rattle.terms.proofs.store.Terms.start_of.Goals as goal

pub returns-in-Some : goal.returns-in-Some
returns-in-Some c = let some = c.in-Some.ensures.0 in rw c.in-Some.ensures.1 (start_later _ _ (λ z. omega arith))

pub returns-in-None : goal.returns-in-None
returns-in-None c = let none = c.in-None.ensures in start_first _ _ (omega arith)
