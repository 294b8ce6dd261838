-- Unification: a most general replacement that makes two trees equal, every variable open to replacement. Pairs wait, and the last one
-- put there is taken first; a replacement found is applied to those before it at once, by rising variable. Row 14 of question 60 bounds
-- the pairs. Two numbers of steps bound the recursion; that they suffice, so that `nothing` means that no replacement exists, is proved
-- of the definition. Assumes nothing.
use Rattle.std.specs.Prelude.{ℕ, zero, suc, ◌+◌, true, false, List, [], ◌∷◌, eqb, leb, ltb, length, Option, Some as some, None as nothing}
use Rattle.rules.specs.Limits.{PAIRS}
use Rattle.rules.specs.Out.{Act, ◌>>=◌, pure, room}
use Rattle.rules.specs.Tree.{Tree, Trees, var, app, none, more, same_tree, sub, single, variables, count_trees, size}
use Rattle.rules.specs.Store.{Made, substitute, storing}

-- Replacements as lists --------------------------------------------------------------------------------------------------------

pub record Binding : Type 0 where
  pub variable : ℕ
  pub value : Tree

-- a variable without a binding stays
unfoldable pub along : List Binding → ℕ → Tree
along [] v = var v
along (b ∷ bs) v = elim (eqb v b.variable) [ true ↦ b.value | false ↦ along bs v ]

-- one binding more, by rising variable
unfoldable pub insert : Binding → List Binding → List Binding
insert b [] = b ∷ []
insert b (c ∷ θ) = elim (ltb b.variable c.variable) [ true ↦ b ∷ c ∷ θ | false ↦ c ∷ insert b θ ]

-- u for x in every value, one after the other
unfoldable pub replace : ℕ → Tree → List Binding → Act Made (List Binding)
replace x u [] = pure []
replace x u (b ∷ θ) = do
  t ← substitute (single x u) b.value
  ζ ← replace x u θ
  pure (record { variable = b.variable; value = t } ∷ ζ)

-- Pairs -----------------------------------------------------------------------------------------------------------------------

pub record Pair : Type 0 where
  pub left : Tree
  pub right : Tree

-- what a pair asks for
pub data Look : Type 0 where
  agree clash : Look
  binds : ℕ → Tree → Look
  parts : Trees → Trees → Look

-- the occurs check
unfoldable pub bind_or_clash : ℕ → Tree → Look
bind_or_clash x t = elim (variables t x) [ true ↦ clash | false ↦ binds x t ]

-- of two trees that differ
unfoldable pub differ : Tree → Tree → Look
differ (var x) t = bind_or_clash x t
differ (app c ts) (var y) = bind_or_clash y (app c ts)
differ (app c ts) (app d us) =
    elim (eqb c d) [ true ↦ elim (eqb (count_trees ts) (count_trees us)) [ true ↦ parts ts us | false ↦ clash ] | false ↦ clash ]

unfoldable pub look : Tree → Tree → Look
look s t = elim (same_tree s t) [ true ↦ agree | false ↦ differ s t ]

-- the arguments pair by pair, the last on top
unfoldable pub push : Trees → Trees → List Pair → List Pair
push none us w = w
push (more t ts) none w = w
push (more t ts) (more u us) w = push ts us (record { left = t; right = u } ∷ w)

-- The work --------------------------------------------------------------------------------------------------------------------

pub data Found : Type 0 where
  finished clashed : Found
  bound : ℕ → Tree → List Pair → Found

unfoldable pub onward : (List Pair → Act Made Found) → List Pair → Look → Act Made Found
onward go w agree = go w
onward go w clash = pure clashed
onward go w (binds x u) = pure (bound x u w)
onward go w (parts ts us) = do
  _ ← room 14 (leb (length w + count_trees ts) PAIRS)
  go (push ts us w)

-- pairs are taken until one binds a variable; at most so many
unfoldable pub peel : ℕ → List Binding → List Pair → Act Made Found
peel zero θ w = pure clashed
peel (suc k) θ [] = pure finished
peel (suc k) θ (p ∷ w) = do
  s ← substitute (along θ) p.left
  t ← substitute (along θ) p.right
  onward (λ v. peel k θ v) w (look s t)

-- so many pairs can be taken before one binds
unfoldable pub weight : List Binding → List Pair → ℕ
weight θ [] = 0
weight θ (p ∷ w) = size (sub (along θ) p.left) + weight θ w

unfoldable pub outcome : (List Binding → List Pair → Act Made (Option (List Binding))) → List Binding → Found → Act Made (Option (List Binding))
outcome go θ finished = pure (some θ)
outcome go θ clashed = pure nothing
outcome go θ (bound x u w) = do
  ζ ← replace x u θ
  go (insert (record { variable = x; value = u }) ζ) w

-- so many variables can be bound
unfoldable pub solve : ℕ → List Binding → List Pair → Act Made (Option (List Binding))
solve zero θ w = pure nothing
solve (suc n) θ w = do
  f ← peel (suc (weight θ w)) θ w
  outcome (λ ζ v. solve n ζ v) θ f

-- two trees whose variables are below n
unfoldable pub unify : ℕ → Tree → Tree → Act Made (Option (List Binding))
unify n s t = solve (suc n) [] (record { left = s; right = t } ∷ [])

-- `unfolding unifying` opens all of the above, for a computation
unfoldable pub unifying : Unit {0}
unfolding storing along insert replace bind_or_clash differ look push onward peel weight outcome solve unify
unifying = tt
