-- What making a chain of terms does, with the last one's number alone for an answer. Assumes nothing.
use Rattle.std.specs.Prelude.{◌≡◌, List, ℕ, zero, suc, get_or, Result}
use Rattle.std.specs.Result.{result_unwrap_or}
use Rattle.rules.specs.Limits.{TERMS}
use Rattle.rules.specs.Out.{Act, ok, then}
use Rattle.rules.specs.Tree.{Tree, var, app, none, more}
use Rattle.rules.specs.Store.{Made, keep}
use Rattle.terms.specs.declared.store.Mark.{Mark}
use Rattle.questions.specs.declared.Row.{Row}
use Rattle.terms.specs.Table.{made, After}

-- a chain of trees over t: symbol 9 over the last one and t
unfoldable pub chain : Tree → ℕ → Tree
chain t zero = t
chain t (suc n) = app 9 (more (chain t n) (more t none))

-- they come into the store one by one
unfoldable pub links : Tree → ℕ → Act Made Tree
links t zero M = ok t M
links t (suc n) M = then (links t n M) (λ _ N. keep (chain t (suc n)) N)

-- the store went from I W at the mark to J X by so many trees over the term first, as `keep` has it; r is the last one's number,
-- or the number of all terms, which no term has
pub record Chained (I W J X : List ℕ) (m : Mark) (first times r : ℕ) : Type 0 where
  pub kept : Result ℕ Row
  pub new : Mark
  pub after : After I W J X m new (chain (get_or (made I W m) first (var 0)) times) (links (get_or (made I W m) first (var 0)) times (made I W m)) kept
  pub number : r ≡ result_unwrap_or kept TERMS
