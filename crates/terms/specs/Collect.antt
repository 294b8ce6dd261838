-- The collection of a term's variables, with a set of the terms visited. Assumes nothing.
use Rattle.std.specs.Prelude.{◌≡◌, ℕ, ◌*◌, ◌≤◌, ◌<◌, true, false, ◌||◌, List, length, eqb}
use Rattle.rules.specs.Limits.{VARIABLES, TERMS}
use Rattle.rules.specs.Find.{Set, union}
use Rattle.rules.specs.Tree.{Tree, Trees, var, app, none, more, variables, are_open}
use Rattle.rules.specs.Store.{Made, number}
use Rattle.terms.specs.declared.store.Mark.{Mark}
use Rattle.terms.specs.declared.store.Terms.{Terms}
use Rattle.terms.specs.Sets.{holds}
use Rattle.terms.specs.Table.{made, tree, Good}

-- the numbers of a tree's nodes that have an argument with a variable
unfoldable mutual
  pub open_nodes : Made → Tree → Set
  open_nodes M (var v) i = false
  open_nodes M (app c ts) i = elim (are_open ts) [ true ↦ eqb i (number M (app c ts)) || open_nodes_of M ts i | false ↦ false ]

  pub open_nodes_of : Made → Trees → Set
  open_nodes_of M none i = false
  open_nodes_of M (more t ts) i = open_nodes M t i || open_nodes_of M ts i

-- with a term that was visited, its open nodes were visited, and its variables are in the set
pub record Seen (I W : List ℕ) (m : Mark) (seen a : Set) : Type 0 where
  pub there : (i : ℕ) → seen i ≡ true → i < m.terms
  pub below : (i : ℕ) → seen i ≡ true → (j : ℕ) → open_nodes (made I W m) (tree I W m i) j ≡ true → seen j ≡ true
  pub within : (i : ℕ) → seen i ≡ true → (v : ℕ) → variables (tree I W m i) v ≡ true → a v ≡ true

-- a term, and sets wide enough for every term and for every variable
pub record Readable (I W : List ℕ) (m : Mark) (id : ℕ) (seen set : List ℕ) : Type 0 where
  pub good : Good I W m
  pub there : id < m.terms
  pub wide : TERMS ≤ 64 * length seen
  pub broad : VARIABLES ≤ 64 * length set

-- the term's variables joined the set, and its open nodes those that were visited
pub record Visited (I W : List ℕ) (m : Mark) (id : ℕ) (seen a seen' a' : Set) : Type 0 where
  pub set : a' ≡ union a (variables (tree I W m id))
  pub nodes : seen' ≡ union seen (open_nodes (made I W m) (tree I W m id))
  pub visits : Seen I W m seen' a'

-- As they are lent --------------------------------------------------------------------------------------------------------------

-- each is the relation of the same meaning over plain tables
abbrev pub ReadableIn : Terms → ℕ → List ℕ → List ℕ → Type 0
ReadableIn t id seen set = Readable t.index.now t.words.now t.mark id seen set

-- what was visited before is right for the set
abbrev pub SeenIn : Terms → List ℕ → List ℕ → Type 0
SeenIn t seen set = Seen t.index.now t.words.now t.mark (holds seen) (holds set)

-- `seen'` and `set'` are the two sets after the visit
abbrev pub VisitedIn : Terms → ℕ → List ℕ → List ℕ → List ℕ → List ℕ → Type 0
VisitedIn t id seen set seen' set' = Visited t.index.now t.words.now t.mark id (holds seen) (holds set) (holds seen') (holds set')
