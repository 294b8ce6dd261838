-- What a word of a node or of a pattern stands for. Assumes nothing.
use Rattle.std.specs.Prelude.{◌≡◌, ℕ, ◌-◌, ◌<◌, ◌≤◌}
use Rattle.rules.specs.Limits.{SYMBOLS}
use Rattle.terms.specs.declared.heads.Head.{Head}
use Rattle.terms.specs.declared.heads.Head.TheVariants.{Symbol, Variable}

-- a symbol's number, or SYMBOLS and a variable's
abbrev pub HeadOf : ℕ → Head → Type 0
HeadOf w (Symbol c) = (c ≡ w) × (w < SYMBOLS)
HeadOf w (Variable v) = (v ≡ w - SYMBOLS) × (SYMBOLS ≤ w)
