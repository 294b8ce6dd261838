-- Terms and judgments as trees: a variable's number, or a symbol's number over arguments. A rule's patterns are trees over the rule's
-- own variables. Assumes nothing.
use Rattle.std.specs.Prelude.{ℕ, suc, ◌+◌, Bool, true, false, eqb}
use Rattle.rules.specs.Find.{Set}

mutual
  pub data Tree : Type 0 where
    var : ℕ → Tree
    app : ℕ → Trees → Tree

  pub data Trees : Type 0 where
    none : Trees
    more : Tree → Trees → Trees

unfoldable mutual
  pub same_tree : Tree → Tree → Bool
  same_tree (var v) (var w) = eqb v w
  same_tree (var v) (app d us) = false
  same_tree (app c ts) (var w) = false
  same_tree (app c ts) (app d us) = elim (eqb c d) [ true ↦ same_trees ts us | false ↦ false ]

  pub same_trees : Trees → Trees → Bool
  same_trees none none = true
  same_trees none (more u us) = false
  same_trees (more t ts) none = false
  same_trees (more t ts) (more u us) = elim (same_tree t u) [ true ↦ same_trees ts us | false ↦ false ]

-- every variable v replaced by σ v
unfoldable mutual
  pub sub : (ℕ → Tree) → Tree → Tree
  sub σ (var v) = σ v
  sub σ (app c ts) = app c (subs σ ts)

  pub subs : (ℕ → Tree) → Trees → Trees
  subs σ none = none
  subs σ (more t ts) = more (sub σ t) (subs σ ts)

-- u for the one variable x
unfoldable pub single : ℕ → Tree → ℕ → Tree
single x u v = elim (eqb v x) [ true ↦ u | false ↦ var v ]

-- `variables`: the set of a tree's variables
unfoldable mutual
  pub variables : Tree → Set
  variables (var w) v = eqb v w
  variables (app c ts) v = variables_of ts v

  pub variables_of : Trees → Set
  variables_of none v = false
  variables_of (more t ts) v = elim (variables t v) [ true ↦ true | false ↦ variables_of ts v ]

-- `open`: has a variable
unfoldable mutual
  pub is_open : Tree → Bool
  is_open (var v) = true
  is_open (app c ts) = are_open ts

  pub are_open : Trees → Bool
  are_open none = false
  are_open (more t ts) = elim (is_open t) [ true ↦ true | false ↦ are_open ts ]

unfoldable pub count_trees : Trees → ℕ
count_trees none = 0
count_trees (more t ts) = suc (count_trees ts)

-- some tree of the list is t
unfoldable pub among : Trees → Tree → Bool
among none t = false
among (more u us) t = elim (same_tree u t) [ true ↦ true | false ↦ among us t ]

-- the words of a node: its head and its arguments
unfoldable pub node : Tree → ℕ
node (var v) = 1
node (app c ts) = suc (count_trees ts)

-- heads and variables, each time they stand there
unfoldable mutual
  pub size : Tree → ℕ
  size (var v) = 1
  size (app c ts) = suc (sizes ts)

  pub sizes : Trees → ℕ
  sizes none = 0
  sizes (more t ts) = size t + sizes ts

-- `unfolding treeing` opens all of the above, for a computation
unfoldable pub treeing : Unit {0}
unfolding same_tree sub single variables is_open count_trees among node size
treeing = tt
