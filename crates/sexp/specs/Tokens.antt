-- What the next token is to the text and the place that was come to. Assumes nothing.
use Rattle.std.specs.Prelude.{◌≡◌, ℕ, ◌+◌, ◌≤◌, ◌<◌, List, [], ◌∷◌, length, drop, Option, Some, None}
use Rattle.rules.specs.Lex.{opens, closes, word, letters}
use Rattle.rules.specs.Lex as lexer
use Rattle.sexp.specs.Lexed.{from}
use Rattle.sexp.specs.declared.tokens.Token.{Token}
use Rattle.sexp.specs.declared.tokens.Token.TheVariants.{Open, Close, Atom}
use Rattle.sexp.specs.declared.tokens.Tokens.{Tokens}

-- from `at` on the definition's token comes first: it begins at p, and behind it, from `next` on, come the others
pub record Comes (text : List ℕ) (at p next : ℕ) (token : lexer.Token) : Type 0 where
  pub same : from text at ≡ token ∷ from text next
  pub low : at ≤ p
  pub on : p < next
  pub high : next ≤ length text

-- by the kind of token: a bracket is one byte, an atom all letters from its place on
abbrev pub Gives : List ℕ → ℕ → Token → ℕ → Type 0
Gives text at Open next = (p : ℕ) × (next ≡ p + 1) × Comes text at p next (opens p)
Gives text at Close next = (p : ℕ) × (next ≡ p + 1) × Comes text at p next (closes p)
Gives text at (Atom p) next = (next ≡ p + length (letters (drop p text))) × Comes text at p next (word p (letters (drop p text)))

-- the same of the text and the place before and behind
pub record Step (s : Tokens) (token : Token) (t : Tokens) : Type 0 where
  pub same : t.text.now ≡ s.text.now
  pub gives : Gives s.text.now s.at token t.at

-- none comes; the place stays in front of what is passed over
abbrev pub Lexes : Tokens → Option Token → Tokens → Type 0
Lexes s (Some token) t = Step s token t
Lexes s None t = from s.text.now s.at ≡ []
