-- Laws of trees: equality that is computed is equality; a tree without variables is left by every replacement. Assumes nothing.
use Rattle.std.specs.Prelude.{◌≡◌, refl, Bool, true, false, ◌||◌, ℕ, eqb}
use Rattle.std.proofs.Common.{sym, ap, ◌∙◌, subst, true≢false, eq-eqb, eqb-true}
use Rattle.std.proofs.lemmas.Bool.{false≢true}
use Rattle.rules.specs.Find.{empty, union}
use Rattle.rules.specs.Tree.{Tree, Trees, var, app, none, more, same_tree, same_trees, sub, subs, variables, variables_of, is_open, are_open}

both : (a b : Bool) → elim a [ true ↦ b | false ↦ false ] ≡ true → (a ≡ true) × (b ≡ true)
both true b e = (refl, e)
both false b e = (e, absurd (false≢true e))

mutual
  unfolding same_tree

  pub same_tree_lem : (t u : Tree) → same_tree t u ≡ true → t ≡ u
  same_tree_lem (var v) (var w) e = ap var (eqb-true v w e)
  same_tree_lem (var v) (app d us) e = absurd (false≢true e)
  same_tree_lem (app c ts) (var w) e = absurd (false≢true e)
  same_tree_lem (app c ts) (app d us) e =
      let p = both (eqb c d) (same_trees ts us) e in
      λ i. app (eqb-true c d p.0 i) (same_trees_lem ts us p.1 i)

  pub same_trees_lem : (t u : Trees) → same_trees t u ≡ true → t ≡ u
  same_trees_lem none none e = refl
  same_trees_lem none (more u us) e = absurd (false≢true e)
  same_trees_lem (more t ts) none e = absurd (false≢true e)
  same_trees_lem (more t ts) (more u us) e =
      let p = both (same_tree t u) (same_trees ts us) e in
      λ i. more (same_tree_lem t u p.0 i) (same_trees_lem ts us p.1 i)

mutual
  unfolding same_tree

  pub same_self : (t : Tree) → same_tree t t ≡ true
  same_self (var v) = eq-eqb v v refl
  same_self (app c ts) = ap (λ (b : Bool). elim b [ true ↦ same_trees ts ts | false ↦ false ]) (eq-eqb c c refl) ∙ sames_self ts

  pub sames_self : (t : Trees) → same_trees t t ≡ true
  sames_self none = refl
  sames_self (more t ts) = ap (λ (b : Bool). elim b [ true ↦ same_trees ts ts | false ↦ false ]) (same_self t) ∙ sames_self ts

pub same_eq : (t u : Tree) → t ≡ u → same_tree t u ≡ true
same_eq t u e = subst (λ (x : Tree). same_tree x u ≡ true) (sym e) (same_self u)

pub not_same : (t u : Tree) → (t ≡ u → ⊥) → same_tree t u ≡ false
not_same t u n = go (same_tree t u) refl
  where
    go : (b : Bool) → same_tree t u ≡ b → b ≡ false
    go true e = absurd (n (same_tree_lem t u e))
    go false e = refl

-- Trees without variables ------------------------------------------------------------------------------------------------------

neither : (a b : Bool) → elim a [ true ↦ true | false ↦ b ] ≡ false → (a ≡ false) × (b ≡ false)
neither true b e = (e, absurd (true≢false e))
neither false b e = (refl, e)

mutual
  unfolding is_open sub

  pub sub_closed : (σ : ℕ → Tree) (t : Tree) → is_open t ≡ false → sub σ t ≡ t
  sub_closed σ (var v) e = absurd (true≢false e)
  sub_closed σ (app c ts) e = ap (app c) (subs_closed σ ts e)

  pub subs_closed : (σ : ℕ → Tree) (ts : Trees) → are_open ts ≡ false → subs σ ts ≡ ts
  subs_closed σ none e = refl
  subs_closed σ (more t ts) e = let p = neither (is_open t) (are_open ts) e in λ i. more (sub_closed σ t p.0 i) (subs_closed σ ts p.1 i)

mutual
  unfolding is_open variables

  pub closed_empty : (t : Tree) → is_open t ≡ false → (v : ℕ) → variables t v ≡ false
  closed_empty (var w) e v = absurd (true≢false e)
  closed_empty (app c ts) e v = closeds_empty ts e v

  pub closeds_empty : (ts : Trees) → are_open ts ≡ false → (v : ℕ) → variables_of ts v ≡ false
  closeds_empty none e v = refl
  closeds_empty (more t ts) e v =
      let p = neither (is_open t) (are_open ts) e in
      ap (λ (b : Bool). elim b [ true ↦ true | false ↦ variables_of ts v ]) (closed_empty t p.0 v) ∙ closeds_empty ts p.1 v

-- Variables --------------------------------------------------------------------------------------------------------------------------

pub variables_var : (w v : ℕ) → variables (var w) v ≡ eqb v w
unfolding variables
variables_var w v = refl

pub variables_app : (c : ℕ) (ts : Trees) → variables (app c ts) ≡ variables_of ts
unfolding variables
variables_app c ts = refl

pub variables_none : variables_of none ≡ empty
unfolding variables
variables_none = refl

pub variables_more : (t : Tree) (ts : Trees) → variables_of (more t ts) ≡ union (variables t) (variables_of ts)
unfolding variables
variables_more t ts = λ i v. go (variables t v) (variables_of ts v) i
  where
    go : (a b : Bool) → elim a [ true ↦ true | false ↦ b ] ≡ a || b
    go true b = refl
    go false b = refl
