-- What the answer of `unify` says, once a caller has seen which one it is, and what the call did to the store then (`Went`). Assumes nothing.
use Rattle.std.specs.Prelude.{◌≡◌, List, ℕ, length, Bool, true, false, Option, Some as some, None as nothing, Result, Ok, Err}
use Rattle.std.proofs.Common.{subst}
use Rattle.rules.specs.Limits.{VARIABLES}
use Rattle.rules.specs.Out.{Out}
use Rattle.rules.specs.Store.{Made}
use Rattle.rules.specs.Unify.{Binding}
use Rattle.terms.specs.declared.store.Mark.{Mark}
use Rattle.questions.specs.Numbers.{row_number}
use Rattle.questions.specs.declared.Row.{Row}
use Rattle.terms.specs.Table.{made, Refused}
use Rattle.terms.specs.Theta.{bindings, Zeros}
use Rattle.terms.specs.On.{Went}
use Rattle.unification.specs.Unify.{Solved, Unsolved, UnifiedAs, UnifiedBy}

module _ {I W J X : List ℕ} {old new : Mark} {theta : List ℕ} {K : Out Made (Option (List Binding))} {r : Result Bool Row} (a : UnifiedBy I W J X old new theta K r) where
  pub unified_found : r ≡ Ok true → Solved I W J X old theta K new
  unified_found e = subst (UnifiedAs I W J X old new theta K) e a.says

  pub unified_apart : r ≡ Ok false → Unsolved I W J X old theta K new × (length theta ≡ VARIABLES) × Zeros theta
  unified_apart e = subst (UnifiedAs I W J X old new theta K) e a.says

  pub unified_full : {row : Row} → r ≡ Err row → Refused (Option (List Binding)) I W J X old K (row_number row) new × (length theta ≡ VARIABLES) × Zeros theta
  unified_full e = subst (UnifiedAs I W J X old new theta K) e a.says

module _ {I W J X : List ℕ} {old new : Mark} {theta : List ℕ} {K : Out Made (Option (List Binding))} where
  pub solved_went : Solved I W J X old theta K new → Went I W J X old K (some (bindings (made J X new) theta 0)) new
  solved_went s = record { grown = s.grown; makes = s.makes }

  pub unsolved_went : Unsolved I W J X old theta K new → Went I W J X old K nothing new
  unsolved_went s = record { grown = s.grown; makes = s.makes }
