-- What unification does, with a number alone for an answer. Assumes nothing.
use Rattle.std.specs.Prelude.{◌≡◌, List, ℕ, Bool, true, false, Result, Ok, Err}
use Rattle.rules.specs.Unify.{unify}
use Rattle.terms.specs.declared.store.Mark.{Mark}
use Rattle.questions.specs.declared.Row.{Row}
use Rattle.terms.specs.Table.{made, tree}
use Rattle.unification.specs.Unify.{UnifiedBy}

-- bindings are found, there are none, or a table has no room
abbrev pub found_of : Result Bool Row → ℕ
found_of (Ok true) = 1
found_of (Ok false) = 0
found_of (Err row) = 2

-- the store went from I W at the mark to J X by two terms, as `unify` has it; theta: the cells afterwards
pub record Unifies (I W J X : List ℕ) (m : Mark) (variables s t : ℕ) (theta : List ℕ) (r : ℕ) : Type 0 where
  pub answer : Result Bool Row
  pub new : Mark
  pub after : UnifiedBy I W J X m new theta (unify variables (tree I W m s) (tree I W m t) (made I W m)) answer
  pub number : r ≡ found_of answer
