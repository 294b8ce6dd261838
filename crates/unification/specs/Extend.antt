-- A substitution that grows by one binding: what the contracts of `extend` and of its loop cite. Assumes nothing.
use Rattle.std.specs.Prelude.{◌≡◌, ℕ, ◌≤◌, ◌<◌, List, [], ◌∷◌, length, get_or, Result, Ok, Err}
use Rattle.rules.specs.Limits.{VARIABLES, TERMS}
use Rattle.rules.specs.Out.{Out, ok, Act, ◌>>=◌, pure}
use Rattle.rules.specs.Tree.{Tree}
use Rattle.rules.specs.Store.{Made, substitute}
use Rattle.rules.specs.Unify.{Binding, insert}
use Rattle.terms.specs.declared.store.Mark.{Mark}
use Rattle.terms.specs.declared.store.Store.{Store}
use Rattle.unification.specs.declared.unify.Scratch.{Scratch}
use Rattle.questions.specs.Numbers.{row_number}
use Rattle.questions.specs.declared.Row.{Row}
use Rattle.terms.specs.Table.{made, Good, Grown, Refused, tree}
use Rattle.terms.specs.Theta.{bindings, Theta, Zeros}

-- Every value under a replacement ----------------------------------------------------------------------------------------------------

-- one value after the other
unfoldable pub in_values : (ℕ → Tree) → List Binding → Act Made (List Binding)
in_values σ [] = pure []
in_values σ (b ∷ θ) = do
  t ← substitute σ b.value
  ζ ← in_values σ θ
  pure (record { variable = b.variable; value = t } ∷ ζ)

-- a map of terms that are there, and a memo without results
pub record Changeable (I W : List ℕ) (m : Mark) (theta map memo : List ℕ) : Type 0 where
  pub good : Good I W m
  pub cells : Theta m theta
  pub bound : (v : ℕ) → get_or map v 0 ≤ m.terms
  pub long : m.terms ≤ length memo
  pub empty : (i : ℕ) → get_or memo i 0 ≡ 0

-- the cells have the values of the definition's answer K; a variable without a value has none
pub record Changed (I W J X : List ℕ) (old : Mark) (theta theta' : List ℕ) (K : Out Made (List Binding)) (new : Mark) : Type 0 where
  pub grown : Grown I W J X old new
  pub makes : K ≡ ok (bindings (made J X new) theta' 0) (made J X new)
  pub cells : Theta new theta'
  pub unbound : (v : ℕ) → get_or theta v 0 ≡ 0 → get_or theta' v 0 ≡ 0

-- theta, theta': the cells before and afterwards
abbrev pub ChangedAs : List ℕ → List ℕ → List ℕ → List ℕ → Mark → Mark → List ℕ → List ℕ → Out Made (List Binding) → Result (Unit {0}) Row → Type 0
ChangedAs I W J X old new theta theta' K (Ok u) = Changed I W J X old theta theta' K new
ChangedAs I W J X old new theta theta' K (Err row) = Refused (List Binding) I W J X old K (row_number row) new

-- One binding more -------------------------------------------------------------------------------------------------------------------

-- a variable without a value, and a term for it
pub record Extendable (I W : List ℕ) (m : Mark) (theta map memo : List ℕ) (x u : ℕ) : Type 0 where
  pub good : Good I W m
  pub cells : Theta m theta
  pub small : x < VARIABLES
  pub unbound : get_or theta x 0 ≡ 0
  pub there : u < m.terms
  pub wide : length map ≡ VARIABLES
  pub blank : Zeros map
  pub long : TERMS ≤ length memo
  pub empty : Zeros memo

-- the values are changed, and x has its value among them
pub record Bound (I W J X : List ℕ) (old : Mark) (theta : List ℕ) (x u : ℕ) (K : Out Made (List Binding)) (new : Mark) : Type 0 where
  pub grown : Grown I W J X old new
  pub values : List Binding
  pub makes : K ≡ ok values (made J X new)
  pub cells : Theta new theta
  pub is : bindings (made J X new) theta 0 ≡ insert (record { variable = x; value = tree I W old u }) values

-- theta: the cells afterwards
abbrev pub Extended : List ℕ → List ℕ → List ℕ → List ℕ → Mark → Mark → List ℕ → ℕ → ℕ → Out Made (List Binding) → Result (Unit {0}) Row → Type 0
Extended I W J X old new theta x u K (Ok done) = Bound I W J X old theta x u K new
Extended I W J X old new theta x u K (Err row) = Refused (List Binding) I W J X old K (row_number row) new × (length theta ≡ VARIABLES)

-- As they are lent -------------------------------------------------------------------------------------------------------------------

-- s and t: the store before and after a call
abbrev pub ChangeableIn : Store → List ℕ → List ℕ → List ℕ → Type 0
ChangeableIn s theta map memo = Changeable s.index.now s.words.now s.mark theta map memo

abbrev pub ChangedIn : Store → Store → List ℕ → List ℕ → Out Made (List Binding) → Result (Unit {0}) Row → Type 0
ChangedIn s t theta theta' K r = ChangedAs s.index.now s.words.now t.index.now t.words.now s.mark t.mark theta theta' K r

abbrev pub ExtendableIn : Store → Scratch → List ℕ → ℕ → ℕ → Type 0
ExtendableIn s w theta x u = Extendable s.index.now s.words.now s.mark theta w.map.now w.memo.now x u

abbrev pub ExtendedIn : Store → Store → List ℕ → ℕ → ℕ → Out Made (List Binding) → Result (Unit {0}) Row → Type 0
ExtendedIn s t theta' x u K r = Extended s.index.now s.words.now t.index.now t.words.now s.mark t.mark theta' x u K r
