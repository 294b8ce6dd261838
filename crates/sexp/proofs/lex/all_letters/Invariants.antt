use Rattle.std.proofs.Common.{◌≡◌, true, ℕ, ◌<◌, get_or}
use Rattle.rules.specs.Lex.{kind, letter}
use Rattle.sexp.proofs.lex.all_letters.Given as goal

abbrev pub invariant-loop-b : goal.invariant-loop-b
invariant-loop-b l = l.letters ≡ true → (k : ℕ) → k < l.b-index → kind (get_or l.block k 0) ≡ letter
