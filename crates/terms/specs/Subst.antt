-- Substitution in the tables: the replacement that a map stands for, and a memo of results. In both a cell has a term's number with 1
-- added; 0 leaves the variable, or is not known. Assumes nothing.
use Rattle.std.specs.Prelude.{◌≡◌, ℕ, ◌+◌, ◌-◌, ◌≤◌, ◌<◌, true, false, List, [], ◌∷◌, length, get_or, eqb, Result, Ok, Err}
use Rattle.rules.specs.Limits.{NODE}
use Rattle.rules.specs.Out.{Out}
use Rattle.rules.specs.Tree.{Tree, var, sub}
use Rattle.rules.specs.Store.{Made, make}
use Rattle.terms.specs.declared.store.Mark.{Mark}
use Rattle.terms.specs.declared.store.Store.{Store}
use Rattle.questions.specs.Numbers.{row_number}
use Rattle.questions.specs.declared.Row.{Row}
use Rattle.terms.specs.Table.{run, made, Good, Stored, Refused}

-- the replacement that a map stands for, over the trees made
unfoldable pub replacement : Made → List ℕ → ℕ → Tree
replacement M map v = elim (eqb (get_or map v 0) 0) [ true ↦ var v | false ↦ get_or M (get_or map v 0 - 1) (var 0) ]

-- the same as numbers: id is the variable's own
unfoldable pub image : List ℕ → ℕ → ℕ → ℕ
image map v id = elim (eqb (get_or map v 0) 0) [ true ↦ id | false ↦ get_or map v 0 - 1 ]

-- the memo has i's result
pub record Known (memo : List ℕ) (i : ℕ) : Type 0 where
  pub inside : i < length memo
  pub some : 0 < get_or memo i 0

unfoldable pub renumbered : List ℕ → List ℕ → List ℕ
renumbered memo [] = []
renumbered memo (a ∷ xs) = (get_or memo a 0 - 1) ∷ renumbered memo xs

-- the node from s to e, with its arguments as the memo has them
abbrev pub rebuilt : List ℕ → List ℕ → ℕ → ℕ → List ℕ
rebuilt W memo s e = get_or W s 0 ∷ renumbered memo (run W (s + 1) (e - (s + 1)))

pub record Rebuildable (W memo : List ℕ) (s e : ℕ) : Type 0 where
  pub some : s < e
  pub narrow : e ≤ s + NODE
  pub fits : e ≤ length W
  pub known : (k : ℕ) → s < k → k < e → Known memo (get_or W k 0)

-- the memo's entry at i is right
pub record Knows (M : Made) (σ : ℕ → Tree) (memo : List ℕ) (i : ℕ) : Type 0 where
  pub old : i < length M
  pub new : get_or memo i 0 ≤ length M
  pub is : get_or M (get_or memo i 0 - 1) (var 0) ≡ sub σ (get_or M i (var 0))

abbrev pub substituted : List ℕ → List ℕ → Mark → List ℕ → ℕ → Tree
substituted I W m map id = sub (replacement (made I W m) map) (get_or (made I W m) id (var 0))

-- what the definition makes of it
abbrev pub asked : List ℕ → List ℕ → Mark → List ℕ → ℕ → Out Made Tree
asked I W m map id = make (substituted I W m map id) (made I W m)

-- what a caller owes
pub record Replaceable (I W : List ℕ) (m : Mark) (map : List ℕ) (id : ℕ) : Type 0 where
  pub good : Good I W m
  pub bound : (v : ℕ) → get_or map v 0 ≤ m.terms
  pub there : id < m.terms

pub record Replacing (I W : List ℕ) (m : Mark) (map memo : List ℕ) (id : ℕ) : Type 0 where
  pub good : Good I W m
  pub bound : (v : ℕ) → get_or map v 0 ≤ m.terms
  pub there : id < m.terms
  pub inside : id < length memo
  pub knows : (i : ℕ) → 0 < get_or memo i 0 → Knows (made I W m) (replacement (made I W m) map) memo i

pub record Done (I W J X : List ℕ) (old : Mark) (map memo memo' : List ℕ) (id n : ℕ) (new : Mark) : Type 0 where
  pub stored : Stored I W J X old (substituted I W old map id) (asked I W old map id) n new
  pub knows : (i : ℕ) → 0 < get_or memo' i 0 → Knows (made J X new) (replacement (made I W old) map) memo' i
  pub known : 0 < get_or memo' id 0
  pub keeps : (i : ℕ) → 0 < get_or memo i 0 → 0 < get_or memo' i 0

abbrev pub Substituted : List ℕ → List ℕ → List ℕ → List ℕ → Mark → Mark → List ℕ → List ℕ → List ℕ → ℕ → Result ℕ Row → Type 0
Substituted I W J X old new map memo memo' id (Ok n) = Done I W J X old map memo memo' id n new
Substituted I W J X old new map memo memo' id (Err row) = Refused Tree I W J X old (asked I W old map id) (row_number row) new

-- As they are lent --------------------------------------------------------------------------------------------------------------

-- s and t: the store before and after a call
abbrev pub ReplaceableIn : Store → List ℕ → ℕ → Type 0
ReplaceableIn s map id = Replaceable s.index.now s.words.now s.mark map id

abbrev pub ReplacingIn : Store → List ℕ → List ℕ → ℕ → Type 0
ReplacingIn s map memo id = Replacing s.index.now s.words.now s.mark map memo id

abbrev pub substituted_in : Store → List ℕ → ℕ → Tree
substituted_in s map id = substituted s.index.now s.words.now s.mark map id

abbrev pub SubstitutedIn : Store → Store → List ℕ → List ℕ → List ℕ → ℕ → Result ℕ Row → Type 0
SubstitutedIn s t map memo memo' id r = Substituted s.index.now s.words.now t.index.now t.words.now s.mark t.mark map memo memo' id r
