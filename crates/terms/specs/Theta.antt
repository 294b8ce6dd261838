-- A substitution in cells: the cell of a variable has the number of its value with 1 added; 0 leaves the variable. Assumes nothing.
use Rattle.std.specs.Prelude.{◌≡◌, ℕ, suc, ◌-◌, ◌≤◌, true, false, List, [], ◌∷◌, length, get_or, replicate, eqb}
use Rattle.rules.specs.Limits.{VARIABLES}
use Rattle.rules.specs.Tree.{var}
use Rattle.rules.specs.Store.{Made}
use Rattle.rules.specs.Unify.{Binding}
use Rattle.terms.specs.declared.store.Mark.{Mark}

-- the bindings that the cells of variable v and the ones behind it stand for
unfoldable pub bindings : Made → List ℕ → ℕ → List Binding
bindings M [] v = []
bindings M (c ∷ cs) v = elim (eqb c 0) [
  | true ↦ bindings M cs (suc v)
  | false ↦ record { variable = v; value = get_or M (c - 1) (var 0) } ∷ bindings M cs (suc v)
]

-- cells for every variable, of terms that are there
pub record Theta (m : Mark) (theta : List ℕ) : Type 0 where
  pub long : length theta ≡ VARIABLES
  pub bound : (v : ℕ) → get_or theta v 0 ≤ m.terms

abbrev pub Zeros : List ℕ → Type 0
Zeros cells = cells ≡ replicate (length cells) 0
