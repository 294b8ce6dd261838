use Rattle.std.proofs.Common.{◌≡◌, true, ℕ, ◌<◌, get_or}
use Rattle.sexp.proofs.lex.within_line.Given as goal

abbrev pub invariant-loop-b : goal.invariant-loop-b
invariant-loop-b l = l.within ≡ true → (k : ℕ) → k < l.b-index → get_or l.block k 0 ≡ 10 → ⊥
