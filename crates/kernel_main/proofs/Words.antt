-- The words that are used of the table of patterns. Assumes nothing.
use Rattle.std.proofs.Common.{◌≡◌, ℕ, ◌≤◌, List, length, drop, ap, length-append, length-drop, arith}
use Rattle.rules.specs.Limits.{PATTERNS}
use Rattle.rules.specs.StateTables.{laid}
use Rattle.rules.specs.Theory.{Theory}
use Rattle.rules.specs.TheoryTables.{pattern_table}
use Rattle.kernel.specs.declared.tables.Counts.{Counts}
use Rattle.kernel.specs.Parsed.{TheoryLists, counts_of, laid_theory, LaidHeld}

laid_long : (cells before : List ℕ) → length before ≤ length (laid cells before)
unfolding laid
laid_long cells before = omega (arith, length-append cells (drop (length cells) before), length-drop (length cells) before)

pub words_fit : {text : List ℕ} {T : Theory} {u : TheoryLists} {n : Counts} (t : TheoryLists) → LaidHeld text T → n ≡ counts_of T → u ≡ laid_theory t T → PATTERNS ≤ length t.patterns
    → n.words ≤ length u.patterns
words_fit {T = T} t h e f room =
    omega (
      arith,
      h.rules.few,
      ap (λ (m : Counts). m.words) e,
      ap (λ (v : TheoryLists). length v.patterns) f,
      laid_long (pattern_table T) t.patterns,
      room,
    )
