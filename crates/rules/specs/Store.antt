-- The store: the distinct trees made so far, in the order made. With a tree its arguments are there, before it, so a term's number in
-- the tables is its place here. Rows 8 and 9 of question 60 are put whenever a tree is new. Assumes nothing.
use Rattle.std.specs.Prelude.{ℕ, suc, ◌+◌, Bool, true, false, List, [], ◌∷◌, ◌++◌, leb, ltb, length}
use Rattle.rules.specs.Limits.{TERMS, WORDS}
use Rattle.rules.specs.Out.{ok, refuse, then, Act, ◌>>=◌, pure}
use Rattle.rules.specs.Tree.{Tree, Trees, var, app, none, more, same_tree, sub, node, treeing}

abbrev pub Made : Type 0
Made = List Tree

unfoldable pub stored : Made → Tree → Bool
stored [] t = false
stored (u ∷ m) t = elim (same_tree u t) [ true ↦ true | false ↦ stored m t ]

-- a tree's number: its place, or the number of trees where it has none
unfoldable pub number : Made → Tree → ℕ
number [] t = 0
number (u ∷ m) t = elim (same_tree u t) [ true ↦ 0 | false ↦ suc (number m t) ]

-- the words of all nodes
unfoldable pub words : Made → ℕ
words [] = 0
words (t ∷ m) = node t + words m

-- the tree itself, once: its arguments are there
unfoldable pub keep : Tree → Act Made Tree
keep t m =
    elim (stored m t) [
      | true ↦ ok t m
      | false ↦
          elim (ltb (length m) TERMS) [
            | true ↦ elim (leb (words m + node t) WORDS) [ true ↦ ok t (m ++ (t ∷ [])) | false ↦ refuse 60 9 m ]
            | false ↦ refuse 60 8 m
          ]
    ]

-- the tree with all below it, arguments first, left to right
unfoldable mutual
  pub make : Tree → Act Made Tree
  make (var v) = keep (var v)
  make (app c ts) = do
    _ ← makes ts
    keep (app c ts)

  pub makes : Trees → Act Made Trees
  makes none = pure none
  makes (more t ts) = do
    _ ← make t
    _ ← makes ts
    pure (more t ts)

-- `substitute`
unfoldable pub substitute : (ℕ → Tree) → Tree → Act Made Tree
substitute σ t = make (sub σ t)

-- each in turn
unfoldable pub substitutes : (ℕ → Tree) → Trees → Act Made Trees
substitutes σ none = pure none
substitutes σ (more t ts) = do
  u ← substitute σ t
  us ← substitutes σ ts
  pure (more u us)

-- `unfolding storing` opens all of the above, for a computation
unfoldable pub storing : Unit {0}
unfolding treeing then stored number words keep make substitute substitutes
storing = tt
