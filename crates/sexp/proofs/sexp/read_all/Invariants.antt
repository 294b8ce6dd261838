use mathlib.Core.Path.{◌≡◌}
use Rattle.sexp.proofs.Turns.{Turning}
use Rattle.sexp.proofs.sexp.read_all.Given as goal

abbrev pub invariant-loop-token : goal.invariant-loop-token
invariant-loop-token l =
    record {
      text : l.token-iterator.text.now ≡ l.text;
      turning : Turning l.text l.token-iterator.at l.depth l.forms;
    }
