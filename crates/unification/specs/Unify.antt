-- What the contract of `unify` cites. Assumes nothing.
use Rattle.std.specs.Prelude.{◌≡◌, ℕ, ◌*◌, ◌≤◌, ◌<◌, Bool, true, false, List, length, Option, Some as some, None as nothing, Result, Ok, Err}
use Rattle.rules.specs.Limits.{VARIABLES, TERMS, PAIRS}
use Rattle.rules.specs.Out.{Out, ok}
use Rattle.rules.specs.Tree.{variables}
use Rattle.rules.specs.Store.{Made}
use Rattle.rules.specs.Unify.{Binding}
use Rattle.terms.specs.declared.store.Mark.{Mark}
use Rattle.terms.specs.declared.store.Store.{Store}
use Rattle.unification.specs.declared.unify.Scratch.{Scratch as Tables}
use Rattle.questions.specs.Numbers.{row_number}
use Rattle.questions.specs.declared.Row.{Row}
use Rattle.terms.specs.Table.{made, Good, Grown, Refused, tree}
use Rattle.terms.specs.Theta.{bindings, Theta, Zeros}

-- the cells beside the store, all of them zero
pub record Scratch (theta map memo pairs seen : List ℕ) : Type 0 where
  pub thetas : length theta ≡ VARIABLES
  pub no_thetas : Zeros theta
  pub maps : length map ≡ VARIABLES
  pub no_maps : Zeros map
  pub memos : TERMS ≤ length memo
  pub no_memos : Zeros memo
  pub many : length pairs ≡ 2 * PAIRS
  pub no_pairs : Zeros pairs
  pub wide : TERMS ≤ 64 * length seen
  pub no_seen : Zeros seen

-- the references are those that were lent
abbrev pub SameScratch : Tables → Tables → Type 0
SameScratch x y = (y.map.ghost_name ≡ x.map.ghost_name) × (y.memo.ghost_name ≡ x.memo.ghost_name) × (y.pairs.ghost_name ≡ x.pairs.ghost_name) × (y.seen.ghost_name ≡ x.seen.ghost_name)

-- the same, and the memo and the pairs are as long
abbrev pub SameCells : Tables → Tables → Type 0
SameCells x y = SameScratch x y × (length y.memo.now ≡ length x.memo.now) × (length y.pairs.now ≡ length x.pairs.now)

-- it holds what it held
abbrev pub ScratchKept : Tables → Tables → Type 0
ScratchKept x y = (y.map.now ≡ x.map.now) × (y.memo.now ≡ x.memo.now) × (y.pairs.now ≡ x.pairs.now) × (y.seen.now ≡ x.seen.now)

-- the same but for the pairs
abbrev pub KeptButPairs : Tables → Tables → Type 0
KeptButPairs x y = (y.map.now ≡ x.map.now) × (y.memo.now ≡ x.memo.now) × (y.seen.now ≡ x.seen.now)

-- the same but for the memo and the pairs
abbrev pub KeptButMemoAndPairs : Tables → Tables → Type 0
KeptButMemoAndPairs x y = (y.map.now ≡ x.map.now) × (y.seen.now ≡ x.seen.now)

-- two terms whose variables are below the count: so many can be bound, and that is enough for every unifier
pub record Unifiable (I W : List ℕ) (m : Mark) (count s t : ℕ) (theta map memo pairs seen : List ℕ) : Type 0 where
  pub good : Good I W m
  pub few : count ≤ VARIABLES
  pub left : s < m.terms
  pub right : t < m.terms
  pub lefts : (v : ℕ) → variables (tree I W m s) v ≡ true → v < count
  pub rights : (v : ℕ) → variables (tree I W m t) v ≡ true → v < count
  pub scratch : Scratch theta map memo pairs seen

-- the bindings found are in the cells
pub record Solved (I W J X : List ℕ) (old : Mark) (theta : List ℕ) (K : Out Made (Option (List Binding))) (new : Mark) : Type 0 where
  pub grown : Grown I W J X old new
  pub makes : K ≡ ok (some (bindings (made J X new) theta 0)) (made J X new)
  pub cells : Theta new theta

-- there is no unifier (Laws/Unify.antt)
pub record Unsolved (I W J X : List ℕ) (old : Mark) (theta : List ℕ) (K : Out Made (Option (List Binding))) (new : Mark) : Type 0 where
  pub grown : Grown I W J X old new
  pub makes : K ≡ ok nothing (made J X new)

-- theta: the cells afterwards, zero unless bindings were found
abbrev pub UnifiedAs : List ℕ → List ℕ → List ℕ → List ℕ → Mark → Mark → List ℕ → Out Made (Option (List Binding)) → Result Bool Row → Type 0
UnifiedAs I W J X old new theta K (Ok true) = Solved I W J X old theta K new
UnifiedAs I W J X old new theta K (Ok false) = Unsolved I W J X old theta K new × (length theta ≡ VARIABLES) × Zeros theta
UnifiedAs I W J X old new theta K (Err row) = Refused (Option (List Binding)) I W J X old K (row_number row) new × (length theta ≡ VARIABLES) × Zeros theta

pub record UnifiedBy (I W J X : List ℕ) (old new : Mark) (theta : List ℕ) (K : Out Made (Option (List Binding))) (r : Result Bool Row) : Type 0 where
  pub says : UnifiedAs I W J X old new theta K r

-- As they are lent ---------------------------------------------------------------------------------------------------------------

-- s and t: the store before and after a call; x: the scratch before
abbrev pub UnifiableIn : Store → Tables → ℕ → ℕ → ℕ → List ℕ → Type 0
UnifiableIn s x count left right theta = Unifiable s.index.now s.words.now s.mark count left right theta x.map.now x.memo.now x.pairs.now x.seen.now

abbrev pub UnifiedIn : Store → Store → List ℕ → Out Made (Option (List Binding)) → Result Bool Row → Type 0
UnifiedIn s t theta K r = UnifiedBy s.index.now s.words.now t.index.now t.words.now s.mark t.mark theta K r
