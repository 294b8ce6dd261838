-- What the contracts of `lex` cite: the lexer at a place of a text. Assumes nothing.
use Rattle.std.specs.Prelude.{◌≡◌, ℕ, ◌+◌, ◌≤◌, ◌<◌, List, Bool, true, false, length, get_or, drop}
use Rattle.rules.specs.Lex.{Kind, blank, left, right, semicolon, letter, kind, Token, between, in_comment, tokens, letters}

abbrev pub is_letter : Kind → Bool
is_letter blank = false
is_letter left = false
is_letter right = false
is_letter semicolon = false
is_letter letter = true

-- the tokens from a place on
abbrev pub from : List ℕ → ℕ → List Token
from text at = tokens between at (drop at text)

-- from `at` on there are letters only up to `r`
pub record InAtom (text : List ℕ) (at r : ℕ) : Type 0 where
  pub low : at ≤ r
  pub high : r ≤ length text
  pub same : at + length (letters (drop at text)) ≡ r + length (letters (drop r text))

-- a comment that is open at `at` is still open at `r`
pub record InComment (text : List ℕ) (at r : ℕ) : Type 0 where
  pub low : at ≤ r
  pub high : r ≤ length text
  pub same : tokens in_comment at (drop at text) ≡ tokens in_comment r (drop r text)

-- a comment from `at` on ends at `r`
pub record LineEnd (text : List ℕ) (at r : ℕ) : Type 0 where
  pub low : at ≤ r
  pub high : r ≤ length text
  pub same : tokens in_comment at (drop at text) ≡ from text r

-- from `at` on there is no token up to `r`, and one begins at `r`, unless the text ends there
pub record Skipped (text : List ℕ) (at r : ℕ) : Type 0 where
  pub low : at ≤ r
  pub high : r ≤ length text
  pub same : from text at ≡ from text r
  pub no_blank : r < length text → kind (get_or text r 0) ≡ blank → ⊥
  pub no_comment : r < length text → kind (get_or text r 0) ≡ semicolon → ⊥
