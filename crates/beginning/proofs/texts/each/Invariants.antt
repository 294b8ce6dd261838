use Rattle.std.proofs.Common.{◌≡◌, Bool, List, ℕ}
use Rattle.beginning.proofs.Asks.{Pass}
use Rattle.beginning.proofs.texts.each.Given as goal

abbrev pub invariant-loop-text : goal.invariant-loop-text
invariant-loop-text g l =
    (p : List ℕ → Bool) → ((x : _) (r : Bool) → g.F.Fn.post l.passes (x, tt) r → r ≡ p x.now) →
    Pass p l.texts.theory.now l.texts.goals.now l.texts.proof.now l.text-index
