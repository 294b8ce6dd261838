-- Matching a rule's pattern with a tree, and building a tree from a pattern. Assumes nothing.
use Rattle.std.specs.Prelude.{ℕ, true, false, eqb, Option, Some as some, None as nothing}
use Rattle.rules.specs.Out.{Act, ◌>>=◌, pure, found}
use Rattle.rules.specs.Tree.{Tree, Trees, var, app, none, more, same_tree}
use Rattle.rules.specs.Store.{Made, keep, storing}

-- what a rule's variables are bound to so far
abbrev pub Bound : Type 0
Bound = ℕ → Option Tree

abbrev pub unbound : Bound
unbound v = nothing

unfoldable pub bind : Bound → ℕ → Tree → Bound
bind b v t w = elim (eqb w v) [ true ↦ some t | false ↦ b w ]

-- a variable is bound where it is first met, and meets the same tree from then on
unfoldable pub match_var : ℕ → Tree → Bound → Option Tree → Option Bound
match_var v t b nothing = some (bind b v t)
match_var v t b (some u) = elim (same_tree u t) [ true ↦ some b | false ↦ nothing ]

unfoldable pub and_then : Option Bound → (Bound → Option Bound) → Option Bound
and_then nothing f = nothing
and_then (some b) f = f b

-- a pattern and a tree; then patterns and trees one by one, as many
unfoldable mutual
  pub matches : Tree → Tree → Bound → Option Bound
  matches (var v) t b = match_var v t b (b v)
  matches (app c ps) (var w) b = nothing
  matches (app c ps) (app d ts) b = elim (eqb c d) [ true ↦ match_all ps ts b | false ↦ nothing ]

  pub match_all : Trees → Trees → Bound → Option Bound
  match_all none none b = some b
  match_all none (more t ts) b = nothing
  match_all (more p ps) none b = nothing
  match_all (more p ps) (more t ts) b = and_then (matches p t b) (λ c. match_all ps ts c)

-- question 38 where a variable without a tree is reached; what is built is made on the way, arguments first
unfoldable mutual
  pub build : Tree → Bound → Act Made Tree
  build (var v) b = found 38 (b v)
  build (app c ps) b = do
    ts ← builds ps b
    keep (app c ts)

  pub builds : Trees → Bound → Act Made Trees
  builds none b = pure none
  builds (more p ps) b = do
    t ← build p b
    ts ← builds ps b
    pure (more t ts)

-- `unfolding matching` opens all of the above, for a computation
unfoldable pub matching : Unit {0}
unfolding storing bind match_var and_then matches build
matching = tt
