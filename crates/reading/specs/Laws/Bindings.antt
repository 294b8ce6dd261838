-- Bindings that were read, as a substitution: what `terms::substitute::substitute` asks, and what it says of the definition's replacement.
-- Assumes nothing.
use Rattle.std.specs.Prelude.{◌≡◌, List, ℕ, ◌<◌}
use Rattle.rules.specs.Out.{Out}
use Rattle.rules.specs.Store.{Made}
use Rattle.rules.specs.Unify.{Binding, along}
use Rattle.terms.specs.declared.store.Mark.{Mark}
use Rattle.terms.specs.Table.{made}
use Rattle.terms.specs.Subst.{replacement, Replaceable}
use Rattle.terms.specs.Theta.{bindings}
use Rattle.terms.specs.Laws.Theta.{along_is}
use Rattle.reading.specs.Answers.{BindingsRead}

-- the map that `bindings` leaves can be put into each term
module _ {I W J X : List ℕ} {old : Mark} {K : Out Made (List Binding)} {map : List ℕ} {new : Mark} (b : BindingsRead I W J X old K map new) where
  pub bindings_replaceable : {id : ℕ} → id < new.terms → Replaceable J X new map id
  bindings_replaceable l = record { good = b.went.grown.good; bound = b.cells.bound; there = l }

-- it stands for the bindings
pub bindings_along : (I W : List ℕ) (m : Mark) (map : List ℕ) → along (bindings (made I W m) map 0) ≡ replacement (made I W m) map
bindings_along I W m map = along_is (made I W m) map
