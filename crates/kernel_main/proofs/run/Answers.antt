use Rattle.std.proofs.Common.{ℕ, arith}
use Rattle.std.proofs.lemmas.List.{length-replicate}
use Rattle.rules.specs.Limits.{PATTERNS}
use Rattle.kernel_main.proofs.Words.{words_fit}
use Rattle.kernel_main.proofs.run.Goals as goal

pub show_tables-requires : goal.show_tables-requires
show_tables-requires c =
    words_fit _ c.parse.ensures.laid_held c.parse.ensures.held c.parse.ensures.patterns_after (omega (arith, length-replicate {A = ℕ} PATTERNS 0))
