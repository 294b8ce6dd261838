-- What storing a node and replacing variables do, with the term's number alone for an answer. Assumes nothing.
use Rattle.std.specs.Prelude.{◌≡◌, List, ℕ, Result}
use Rattle.std.specs.Result.{result_unwrap_or}
use Rattle.rules.specs.Limits.{TERMS}
use Rattle.rules.specs.Store.{keep, substitute}
use Rattle.terms.specs.declared.store.Mark.{Mark}
use Rattle.questions.specs.declared.Row.{Row}
use Rattle.terms.specs.Table.{tree_at, made, After, tree}
use Rattle.terms.specs.Subst.{replacement, substituted}

-- the store went from I W at the mark to J X by the node, as `keep` has it; r is the term's number, or the number of all terms, which no
-- term has
pub record Keeps (I W J X : List ℕ) (m : Mark) (node : List ℕ) (r : ℕ) : Type 0 where
  pub kept : Result ℕ Row
  pub new : Mark
  pub after : After I W J X m new (tree_at (made I W m) node) (keep (tree_at (made I W m) node) (made I W m)) kept
  pub number : r ≡ result_unwrap_or kept TERMS

-- the same by a term under a replacement, as `substitute` has it
pub record Replaces (I W J X : List ℕ) (m : Mark) (map : List ℕ) (id r : ℕ) : Type 0 where
  pub kept : Result ℕ Row
  pub new : Mark
  pub after : After I W J X m new (substituted I W m map id) (substitute (replacement (made I W m) map) (tree I W m id) (made I W m)) kept
  pub number : r ≡ result_unwrap_or kept TERMS
