-- A form's atoms stand in the text where their places say: cells hold a place alone, and the bytes are found there. Assumes nothing.
use Rattle.std.specs.Prelude.{◌≡◌, ℕ, ◌<◌, List, length, drop}
use Rattle.rules.specs.Lex.{letters}
use Rattle.rules.specs.Sexp.{Sexp, Sexps, atom, list, nil, cons}

pub record AtomAt (text : List ℕ) (p : ℕ) (bs : List ℕ) : Type 0 where
  pub inside : p < length text
  pub bytes : letters (drop p text) ≡ bs

abbrev mutual
  pub Spelt : List ℕ → Sexp → Type 0
  Spelt text (atom p bs) = AtomAt text p bs
  Spelt text (list xs) = Spells text xs

  pub Spells : List ℕ → Sexps → Type 0
  Spells text nil = Unit
  Spells text (cons x xs) = Spelt text x × Spells text xs
