use mathlib.Core.Path.{◌≡◌}
use Prim.Native.Nat.{ℕ, ◌-◌}
use lib.ListN.{length}
use Rattle.sexp.specs.Tokens.{Gives}
use Rattle.sexp.specs.declared.tokens.Token.TheVariants.{Open}
use Rattle.sexp.proofs.States.{State}
use Rattle.sexp.proofs.sexp.read_list.Given as goal

abbrev pub invariant-loop-token : goal.invariant-loop-token
invariant-loop-token l =
    record {
      text : l.tokens.text.now ≡ l.initial.tokens.text.now;
      state : (from : ℕ) → Gives l.initial.tokens.text.now from Open l.initial.tokens.at →
          State l.initial.tokens.text.now from l.initial.words l.words l.tokens.at l.cells l.depth l.«open»;
      inside : l.depth ≡ 0 → ⊥;
    }

abbrev pub decreases-loop-token : goal.decreases-loop-token
decreases-loop-token l = length l.tokens.text.now - l.tokens.at
