-- Unification in the tables, pair by pair: what the contracts of the functions cite that take pairs until one binds a variable, and that
-- bind one variable after the other. Assumes nothing.
use Rattle.std.specs.Prelude.{◌≡◌, ℕ, suc, ◌+◌, ◌*◌, ◌≤◌, ◌<◌, Bool, true, false, List, length, get_or, Option, Some as some, None as nothing, Result, Ok, Err}
use Rattle.rules.specs.Limits.{VARIABLES, TERMS, PAIRS}
use Rattle.rules.specs.Out.{Out, ok, refuse, then}
use Rattle.rules.specs.Tree.{Tree, Trees, count_trees}
use Rattle.rules.specs.Store.{Made, substitute}
use Rattle.rules.specs.Unify.{Binding, Pair, Look, agree, clash, parts, push, Found, finished, clashed, bound, peel, weight, solve}
use Rattle.meaning.specs.Unification.List.{Settled}
use Rattle.terms.specs.declared.store.Mark.{Mark}
use Rattle.terms.specs.declared.store.Terms.{Terms}
use Rattle.terms.specs.declared.store.Store.{Store}
use Rattle.questions.specs.Numbers.{row_number}
use Rattle.questions.specs.declared.Row.{Row}
use Rattle.questions.specs.declared.Row.TheVariants as rows
use Rattle.unification.specs.declared.unify.Scratch.{Scratch}
use Rattle.unification.specs.declared.peel.Step.{Step}
use Rattle.unification.specs.declared.peel.Step.TheVariants.{Done, Clash, Binds}
use Rattle.terms.specs.Table.{made, Good, Grown, Refused, tree}
use Rattle.terms.specs.Subst.{replacement, Knows, substituted, Replacing}
use Rattle.unification.specs.Pairs.{waits, Comparable, BindsTo}
use Rattle.terms.specs.Theta.{bindings, Theta, Zeros}
use Rattle.unification.specs.Unify.{Solved, Unsolved}

-- the definition's bindings and pairs, of cells
abbrev pub theta_of : List ℕ → List ℕ → Mark → List ℕ → List Binding
theta_of I W m theta = bindings (made I W m) theta 0

abbrev pub pairs_of : List ℕ → List ℕ → Mark → List ℕ → ℕ → List Pair
pairs_of I W m P w = waits (made I W m) P w

-- Both sides of a pair ---------------------------------------------------------------------------------------------------------------

-- two terms, and a memo of results
pub record Sideable (I W : List ℕ) (m : Mark) (theta memo : List ℕ) (s t : ℕ) : Type 0 where
  pub left : Replacing I W m theta memo s
  pub there : t < m.terms
  pub inside : t < length memo

-- first the left side comes into the store, then the right one, and then what is made of both
abbrev pub sided : List ℕ → List ℕ → Mark → List ℕ → ℕ → ℕ → (Tree → Tree → Made → Out Made Found) → Out Made Found
sided I W m theta s t f =
    then (substitute (replacement (made I W m) theta) (tree I W m s) (made I W m)) (λ u n.
    then (substitute (replacement (made I W m) theta) (tree I W m t) n) (λ v o. f u v o))

pub record BothSides (I W J X : List ℕ) (old : Mark) (theta memo' : List ℕ) (s t a b : ℕ) (new : Mark) : Type 0 where
  pub grown : Grown I W J X old new
  pub makes : (f : Tree → Tree → Made → Out Made Found) → sided I W old theta s t f ≡ f (tree J X new a) (tree J X new b) (made J X new)
  pub left : tree J X new a ≡ substituted I W old theta s
  pub right : tree J X new b ≡ substituted I W old theta t
  pub left_there : a < new.terms
  pub right_there : b < new.terms
  pub knows : (i : ℕ) → 0 < get_or memo' i 0 → Knows (made J X new) (replacement (made I W old) theta) memo' i

pub record NoSides (I W J X : List ℕ) (old : Mark) (theta : List ℕ) (s t : ℕ) (r : ℕ) (new : Mark) : Type 0 where
  pub grown : Grown I W J X old new
  pub makes : (f : Tree → Tree → Made → Out Made Found) → sided I W old theta s t f ≡ refuse 60 r (made J X new)

abbrev pub Sided : List ℕ → List ℕ → List ℕ → List ℕ → Mark → Mark → List ℕ → List ℕ → ℕ → ℕ → Result (ℕ × ℕ) Row → Type 0
Sided I W J X old new theta memo' s t (Ok p) = BothSides I W J X old theta memo' s t p.0 p.1 new
Sided I W J X old new theta memo' s t (Err row) = NoSides I W J X old theta s t (row_number row) new

-- What two terms ask for is done -----------------------------------------------------------------------------------------------------

-- w pairs wait without the one taken
pub record Lookable (I W : List ℕ) (m : Mark) (P seen : List ℕ) (w s t : ℕ) : Type 0 where
  pub both : Comparable I W m seen s t
  pub many : length P ≡ 2 * PAIRS
  pub few : w ≤ PAIRS
  pub there : (k : ℕ) → k < 2 * w → get_or P k 0 < m.terms

-- nothing was asked for, or the arguments came onto the pairs
pub data Onto (M : Made) (P P' : List ℕ) (w v : ℕ) (L : Look) : Type 0 where
  same : L ≡ agree → waits M P' v ≡ waits M P w → Onto M P P' w v L
  more : (ts us : Trees) → L ≡ parts ts us → w + count_trees ts ≤ PAIRS → waits M P' v ≡ push ts us (waits M P w) → Onto M P P' w v L

pub record OntoPairs (I W : List ℕ) (m : Mark) (P P' : List ℕ) (w v : ℕ) (L : Look) : Type 0 where
  pub onto : Onto (made I W m) P P' w v L
  pub few : v ≤ PAIRS
  pub there : (k : ℕ) → k < 2 * v → get_or P' k 0 < m.terms

-- row 14
pub record Crowded (w : ℕ) (L : Look) : Type 0 where
  pub lefts : Trees
  pub rights : Trees
  pub asks : L ≡ parts lefts rights
  pub full : PAIRS < w + count_trees lefts

pub record BindsHere (I W : List ℕ) (m : Mark) (P P' : List ℕ) (L : Look) (x u : ℕ) : Type 0 where
  pub binds : BindsTo I W m L x u
  pub stays : P' ≡ P

abbrev pub Looked : List ℕ → List ℕ → Mark → List ℕ → List ℕ → ℕ → ℕ → Look → Result Step Row → Type 0
Looked I W m P P' w v L (Ok Done) = OntoPairs I W m P P' w v L
Looked I W m P P' w v L (Ok Clash) = (L ≡ clash) × (v ≡ w)
Looked I W m P P' w v L (Ok (Binds x u)) = BindsHere I W m P P' L x u × (v ≡ w)
Looked I W m P P' w v L (Err row) = Crowded w L × (row ≡ rows.Pairs)

-- One pair is taken ------------------------------------------------------------------------------------------------------------------

-- w pairs wait under settled bindings
pub record Peelable (I W : List ℕ) (m : Mark) (theta memo P seen : List ℕ) (w : ℕ) : Type 0 where
  pub good : Good I W m
  pub cells : Theta m theta
  pub settled : Settled (theta_of I W m theta)
  pub memos : TERMS ≤ length memo
  pub knows : (i : ℕ) → 0 < get_or memo i 0 → Knows (made I W m) (replacement (made I W m) theta) memo i
  pub wide : TERMS ≤ 64 * length seen
  pub no_seen : Zeros seen
  pub many : length P ≡ 2 * PAIRS
  pub few : w ≤ PAIRS
  pub there : (k : ℕ) → k < 2 * w → get_or P k 0 < m.terms

-- so many pairs can be taken before one binds
abbrev pub weighs : List ℕ → List ℕ → Mark → List ℕ → List ℕ → ℕ → ℕ
weighs I W m theta P w = weight (theta_of I W m theta) (pairs_of I W m P w)

-- the definition's answer, with k steps
abbrev pub peels : ℕ → List ℕ → List ℕ → Mark → List ℕ → List ℕ → ℕ → Out Made Found
peels k I W m theta P w = peel k (theta_of I W m theta) (pairs_of I W m P w) (made I W m)

-- the pairs that are left say the rest, and weigh less
pub record Lighter (I W J X : List ℕ) (old : Mark) (theta memo' P P' seen : List ℕ) (w v : ℕ) (new : Mark) : Type 0 where
  pub grown : Grown I W J X old new
  pub peelable : Peelable J X new theta memo' P' seen v
  pub less : weighs J X new theta P' v < weighs I W old theta P w
  pub makes : (k : ℕ) → peels (suc k) I W old theta P w ≡ peels k J X new theta P' v

-- the memo has results in its first cells alone
pub record Used (memo : List ℕ) (n : ℕ) : Type 0 where
  pub inside : n ≤ length memo
  pub below : (i : ℕ) → 0 < get_or memo i 0 → i < n

-- it has results of terms that are there alone
abbrev pub Results : List ℕ → Mark → Type 0
Results memo m = Used memo m.terms

pub record Clashes (I W J X : List ℕ) (old : Mark) (memo' : List ℕ) (K : Out Made Found) (new : Mark) : Type 0 where
  pub grown : Grown I W J X old new
  pub makes : K ≡ ok clashed (made J X new)
  pub results : Results memo' new

-- a variable x, a term u for it, and the v pairs that are left
pub record BindsOne (I W J X : List ℕ) (old : Mark) (memo' P' : List ℕ) (K : Out Made Found) (x u v : ℕ) (new : Mark) : Type 0 where
  pub grown : Grown I W J X old new
  pub makes : K ≡ ok (bound x (tree J X new u) (pairs_of J X new P' v)) (made J X new)
  pub results : Results memo' new
  pub small : x < VARIABLES
  pub known : u < new.terms
  pub few : v ≤ PAIRS
  pub there : (k : ℕ) → k < 2 * v → get_or P' k 0 < new.terms

abbrev pub Turned : List ℕ → List ℕ → List ℕ → List ℕ → Mark → Mark → List ℕ → List ℕ → List ℕ → List ℕ → List ℕ → ℕ → ℕ → Result Step Row → Type 0
Turned I W J X old new theta memo' P P' seen w v (Ok Done) = Lighter I W J X old theta memo' P P' seen w v new
Turned I W J X old new theta memo' P P' seen w v (Ok Clash) = ((k : ℕ) → Clashes I W J X old memo' (peels (suc k) I W old theta P w) new) × (suc v ≡ w)
Turned I W J X old new theta memo' P P' seen w v (Ok (Binds x u)) = (k : ℕ) → BindsOne I W J X old memo' P' (peels (suc k) I W old theta P w) x u v new
Turned I W J X old new theta memo' P P' seen w v (Err row) = (k : ℕ) → Refused Found I W J X old (peels (suc k) I W old theta P w) (row_number row) new

-- Pairs are taken --------------------------------------------------------------------------------------------------------------------

pub record Finishes (I W J X : List ℕ) (old : Mark) (memo' : List ℕ) (K : Out Made Found) (new : Mark) : Type 0 where
  pub grown : Grown I W J X old new
  pub makes : K ≡ ok finished (made J X new)
  pub results : Results memo' new

-- of the pairs that wait behind a clash it says nothing: the definition's answer does not have them
abbrev pub PeeledAs : List ℕ → List ℕ → List ℕ → List ℕ → Mark → Mark → List ℕ → List ℕ → ℕ → Out Made Found → Result Step Row → Type 0
PeeledAs I W J X old new memo' P' v K (Ok Done) = Finishes I W J X old memo' K new
PeeledAs I W J X old new memo' P' v K (Ok Clash) = Clashes I W J X old memo' K new
PeeledAs I W J X old new memo' P' v K (Ok (Binds x u)) = BindsOne I W J X old memo' P' K x u v new
PeeledAs I W J X old new memo' P' v K (Err row) = Refused Found I W J X old K (row_number row) new

-- One variable after the other -------------------------------------------------------------------------------------------------------

-- the same, with scratch of zeros
pub record Solvable (I W : List ℕ) (m : Mark) (theta map memo P seen : List ℕ) (w : ℕ) : Type 0 where
  pub peelable : Peelable I W m theta memo P seen w
  pub maps : length map ≡ VARIABLES
  pub no_maps : Zeros map
  pub no_memos : Zeros memo

-- the definition's answer, with n rounds
abbrev pub solves : ℕ → List ℕ → List ℕ → Mark → List ℕ → List ℕ → ℕ → Out Made (Option (List Binding))
solves n I W m theta P w = solve n (theta_of I W m theta) (pairs_of I W m P w) (made I W m)

-- one variable more is bound
pub record BoundMore (I W J X : List ℕ) (old : Mark) (theta theta' map memo P P' seen : List ℕ) (w v : ℕ) (new : Mark) : Type 0 where
  pub grown : Grown I W J X old new
  pub solvable : Solvable J X new theta' map memo P' seen v
  pub makes : (n : ℕ) → solves (suc n) I W old theta P w ≡ solves n J X new theta' P' v

abbrev pub Rounded : List ℕ → List ℕ → List ℕ → List ℕ → Mark → Mark → List ℕ → List ℕ → List ℕ → List ℕ → List ℕ → List ℕ → List ℕ → ℕ → ℕ → Result (Option Bool) Row → Type 0
Rounded I W J X old new theta theta' map memo P P' seen w v (Ok nothing) = BoundMore I W J X old theta theta' map memo P P' seen w v new
Rounded I W J X old new theta theta' map memo P P' seen w v (Ok (some true)) = (n : ℕ) → Solved I W J X old theta' (solves (suc n) I W old theta P w) new
Rounded I W J X old new theta theta' map memo P P' seen w v (Ok (some false)) = (n : ℕ) → Unsolved I W J X old theta' (solves (suc n) I W old theta P w) new
Rounded I W J X old new theta theta' map memo P P' seen w v (Err row) = (n : ℕ) → Refused (Option (List Binding)) I W J X old (solves (suc n) I W old theta P w) (row_number row) new

-- theta: the cells afterwards
abbrev pub SolvedAs : List ℕ → List ℕ → List ℕ → List ℕ → Mark → Mark → List ℕ → Out Made (Option (List Binding)) → Result Bool Row → Type 0
SolvedAs I W J X old new theta K (Ok true) = Solved I W J X old theta K new
SolvedAs I W J X old new theta K (Ok false) = Unsolved I W J X old theta K new
SolvedAs I W J X old new theta K (Err row) = Refused (Option (List Binding)) I W J X old K (row_number row) new

-- As they are lent -------------------------------------------------------------------------------------------------------------------

-- s and t: the store before and after a call; x and y: the scratch
abbrev pub SideableIn : Store → List ℕ → List ℕ → ℕ → ℕ → Type 0
SideableIn s theta memo left right = Sideable s.index.now s.words.now s.mark theta memo left right

abbrev pub SidedIn : Store → Store → List ℕ → List ℕ → ℕ → ℕ → Result (ℕ × ℕ) Row → Type 0
SidedIn s t theta memo' left right r = Sided s.index.now s.words.now t.index.now t.words.now s.mark t.mark theta memo' left right r

abbrev pub LookableIn : Terms → Scratch → ℕ → ℕ → Type 0
LookableIn t x left right = Lookable t.index.now t.words.now t.mark x.pairs.now x.seen.now x.waiting left right

abbrev pub LookedIn : Terms → Scratch → Scratch → Look → Result Step Row → Type 0
LookedIn t x y L r = Looked t.index.now t.words.now t.mark x.pairs.now y.pairs.now x.waiting y.waiting L r

abbrev pub PeelableIn : Store → Scratch → List ℕ → Type 0
PeelableIn s x theta = Peelable s.index.now s.words.now s.mark theta x.memo.now x.pairs.now x.seen.now x.waiting

abbrev pub TurnedIn : Store → Store → Scratch → Scratch → List ℕ → Result Step Row → Type 0
TurnedIn s t x y theta r =
    Turned s.index.now s.words.now t.index.now t.words.now s.mark t.mark theta y.memo.now x.pairs.now y.pairs.now x.seen.now x.waiting y.waiting r

-- the definition's answer on the pairs that wait, with steps enough
abbrev pub peels_in : Store → Scratch → List ℕ → Out Made Found
peels_in s x theta =
    peels (suc (weighs s.index.now s.words.now s.mark theta x.pairs.now x.waiting)) s.index.now s.words.now s.mark theta x.pairs.now x.waiting

abbrev pub PeeledIn : Store → Store → Scratch → Out Made Found → Result Step Row → Type 0
PeeledIn s t y K r = PeeledAs s.index.now s.words.now t.index.now t.words.now s.mark t.mark y.memo.now y.pairs.now y.waiting K r

abbrev pub SolvableIn : Store → Scratch → List ℕ → Type 0
SolvableIn s x theta = Solvable s.index.now s.words.now s.mark theta x.map.now x.memo.now x.pairs.now x.seen.now x.waiting

-- the definition's answer on them, with n rounds
abbrev pub solves_in : ℕ → Store → Scratch → List ℕ → Out Made (Option (List Binding))
solves_in n s x theta = solves n s.index.now s.words.now s.mark theta x.pairs.now x.waiting

abbrev pub RoundedIn : Store → Store → Scratch → Scratch → List ℕ → List ℕ → Result (Option Bool) Row → Type 0
RoundedIn s t x y theta theta' r =
    Rounded s.index.now s.words.now t.index.now t.words.now s.mark t.mark theta theta' x.map.now x.memo.now x.pairs.now y.pairs.now x.seen.now x.waiting y.waiting r

abbrev pub SolvedIn : Store → Store → List ℕ → Out Made (Option (List Binding)) → Result Bool Row → Type 0
SolvedIn s t theta' K r = SolvedAs s.index.now s.words.now t.index.now t.words.now s.mark t.mark theta' K r
