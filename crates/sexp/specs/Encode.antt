-- A form's cells: an atom is one, twice its place and 1; a list is one, twice the number of its items' cells, and these behind it.
-- Assumes nothing.
use Rattle.std.specs.Prelude.{ℕ, ◌+◌, ◌*◌, List, [], ◌∷◌, ◌++◌, length}
use Rattle.rules.specs.Sexp.{Sexp, Sexps, atom, list, nil, cons}

unfoldable mutual
  pub encode : Sexp → List ℕ
  encode (atom p bs) = (2 * p + 1) ∷ []
  encode (list xs) = 2 * length (encodes xs) ∷ encodes xs

  pub encodes : Sexps → List ℕ
  encodes nil = []
  encodes (cons x xs) = encode x ++ encodes xs
