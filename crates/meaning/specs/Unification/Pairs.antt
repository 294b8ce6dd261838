-- Replacements that make pairs of trees equal, and what one look at a pair tells: which pairs are left to be made equal, or that none
-- can be. The occurs check is here. Assumes nothing.
use Rattle.std.specs.Prelude.{◌≡◌, refl, ◌⊎◌, Bool, true, false, List, [], ◌∷◌, ℕ, suc, eqb}
use Rattle.std.proofs.Common.{sym, ◌∙◌, ap, ap₂, inl, inr, arith, eqb-true}
use Rattle.std.proofs.lemmas.Bool.{eqb-false}
use Rattle.rules.specs.Tree.{Tree, Trees, var, app, none, more, same_tree, sub, subs, variables, count_trees, size, sizes}
use Rattle.rules.specs.Unify.{Pair, Look, agree, clash, binds, parts, bind_or_clash, differ, look, push}
use Rattle.meaning.specs.Trees.Tree.{Occ, Occs, Sig, Sorted, Sorteds, app_symbol, app_args, more_head, more_tail, sub_ext, sub_sub}
use Rattle.meaning.specs.Trees.Tree.{count_subs, sizes_occ}
use Rattle.meaning.specs.Trees.Tests.{same_tree_true, same_tree_false, variables_true, variables_false}

-- Replacements --------------------------------------------------------------------------------------------------------------------

-- γ makes the two sides of each pair equal
unfoldable pub Unifies : (ℕ → Tree) → List Pair → Type 0
Unifies γ [] = Unit {0}
Unifies γ (p ∷ w) = (sub γ p.left ≡ sub γ p.right) × Unifies γ w

-- γ after θ is γ: θ replaces nothing that γ does not replace so too
abbrev pub Absorbs : (ℕ → Tree) → (ℕ → Tree) → Type 0
Absorbs γ θ = (v : ℕ) → sub γ (θ v) ≡ γ v

pub absorbs_sub : (γ θ : ℕ → Tree) → Absorbs γ θ → (t : Tree) → sub γ (sub θ t) ≡ sub γ t
absorbs_sub γ θ a t = sub_sub γ θ t ∙ sub_ext (λ v. sub γ (θ v)) γ t (λ v o. a v)

-- One look ------------------------------------------------------------------------------------------------------------------------

-- no γ makes x equal to a larger tree that holds x
occurs_apart : (γ : ℕ → Tree) (x : ℕ) (t : Tree) → Occ x t → ¬ (var x ≡ t) → γ x ≡ sub γ t → ⊥
unfolding Occ sub size
occurs_apart γ x (var v) o n e = n (ap var o)
occurs_apart γ x (app c ts) o n e =
    let h = sizes_occ γ x ts o in let q : size (γ x) ≡ suc (sizes (subs γ ts)) = ap size e in omega arith

-- what `look` tells of s and t
unfoldable pub Saw : Tree → Tree → Look → Type 0
Saw s t agree = s ≡ t
Saw s t clash = (γ : ℕ → Tree) → sub γ s ≡ sub γ t → ⊥
Saw s t (binds x u) = (((s ≡ var x) × (t ≡ u)) ⊎ ((t ≡ var x) × (s ≡ u))) × ¬ (Occ x u)
Saw s t (parts ts us) = (c : ℕ) × (s ≡ app c ts) × (t ≡ app c us) × (count_trees ts ≡ count_trees us)

saw_binds : (s t : Tree) (x : ℕ) (u : Tree) → ((s ≡ var x) × (t ≡ u)) ⊎ ((t ≡ var x) × (s ≡ u)) → ¬ (s ≡ t) → Saw s t (bind_or_clash x u)
unfolding Saw bind_or_clash sub
saw_binds s t x u w n = go (variables u x) refl w
  where
    go : (b : Bool) → variables u x ≡ b → ((s ≡ var x) × (t ≡ u)) ⊎ ((t ≡ var x) × (s ≡ u))
        → Saw s t (elim b [ true ↦ clash | false ↦ binds x u ])
    go false e h = (h, variables_false u x e)
    go true e (inl q) = λ γ d.
        occurs_apart γ x u (variables_true u x e) (λ z. n (q.0 ∙ (z ∙ sym q.1))) (sym (ap (sub γ) q.0) ∙ (d ∙ ap (sub γ) q.1))
    go true e (inr q) = λ γ d.
        occurs_apart γ x u (variables_true u x e) (λ z. n (q.1 ∙ (sym z ∙ sym q.0))) (sym (ap (sub γ) q.0) ∙ (sym d ∙ ap (sub γ) q.1))

saw_parts : (c d : ℕ) (ts us : Trees) → Saw (app c ts) (app d us) (differ (app c ts) (app d us))
unfolding Saw differ sub
saw_parts c d ts us = go (eqb c d) refl (eqb (count_trees ts) (count_trees us)) refl
  where
    go : (a : Bool) → eqb c d ≡ a → (b : Bool) → eqb (count_trees ts) (count_trees us) ≡ b
        → Saw (app c ts) (app d us) (elim a [ true ↦ elim b [ true ↦ parts ts us | false ↦ clash ] | false ↦ clash ])
    go false e b f = λ γ q. eqb-false c d e (app_symbol c d (subs γ ts) (subs γ us) q)
    go true e true f = (c, refl, ap (λ z. app z us) (sym (eqb-true c d e)), eqb-true (count_trees ts) (count_trees us) f)
    go true e false f = λ γ q.
        eqb-false (count_trees ts) (count_trees us) f
        (sym (count_subs γ ts) ∙ (ap count_trees (app_args c d (subs γ ts) (subs γ us) q) ∙ count_subs γ us))

saw_differ : (s t : Tree) → ¬ (s ≡ t) → Saw s t (differ s t)
unfolding differ
saw_differ (var x) t n = saw_binds (var x) t x t (inl (refl, refl)) n
saw_differ (app c ts) (var y) n = saw_binds (app c ts) (var y) y (app c ts) (inr (refl, refl)) n
saw_differ (app c ts) (app d us) n = saw_parts c d ts us

pub saw : (s t : Tree) → Saw s t (look s t)
unfolding look Saw
saw s t = go (same_tree s t) refl
  where
    go : (b : Bool) → same_tree s t ≡ b → Saw s t (elim b [ true ↦ agree | false ↦ differ s t ])
    go true e = same_tree_true s t e
    go false e = saw_differ s t (same_tree_false s t e)

-- The arguments pair by pair --------------------------------------------------------------------------------------------------------

pub push_down : (γ : ℕ → Tree) (ts us : Trees) (w : List Pair) → subs γ ts ≡ subs γ us → Unifies γ w → Unifies γ (push ts us w)
unfolding push sub Unifies
push_down γ none us w e h = h
push_down γ (more t ts) none w e h = h
push_down γ (more t ts) (more u us) w e h =
    push_down γ ts us (record { left = t; right = u } ∷ w) (more_tail (sub γ t) (sub γ u) (subs γ ts) (subs γ us) e)
    (more_head (sub γ t) (sub γ u) (subs γ ts) (subs γ us) e, h)

pub push_up : (γ : ℕ → Tree) (ts us : Trees) (w : List Pair) → count_trees ts ≡ count_trees us → Unifies γ (push ts us w)
    → (subs γ ts ≡ subs γ us) × Unifies γ w
unfolding push sub Unifies count_trees
push_up γ none none w a h = (refl, h)
push_up γ none (more u us) w a h = let z : ⊥ = omega arith in absurd z
push_up γ (more t ts) none w a h = let z : ⊥ = omega arith in absurd z
push_up γ (more t ts) (more u us) w a h =
    let r = push_up γ ts us (record { left = t; right = u } ∷ w) (omega arith) h in (ap₂ more r.1.0 r.0, r.1.1)

-- Sorts, and which variables occur --------------------------------------------------------------------------------------------------

-- the sides of each pair have one sort
unfoldable pub SortedPairs : Sig → (ℕ → ℕ) → List Pair → Type 0
SortedPairs S vs [] = Unit {0}
SortedPairs S vs (p ∷ w) = ((s : ℕ) × Sorted S vs p.left s × Sorted S vs p.right s) × SortedPairs S vs w

pub push_sorted : (S : Sig) (vs : ℕ → ℕ) (ts us : Trees) (ss : List ℕ) (w : List Pair) → Sorteds S vs ts ss → Sorteds S vs us ss
    → SortedPairs S vs w → SortedPairs S vs (push ts us w)
unfolding push SortedPairs Sorted
push_sorted S vs none us ss w a b h = h
push_sorted S vs (more t ts) none ss w a b h = h
push_sorted S vs (more t ts) (more u us) [] w a b h = absurd a
push_sorted S vs (more t ts) (more u us) (s ∷ ss) w a b h =
    push_sorted S vs ts us ss (record { left = t; right = u } ∷ w) a.1 b.1 ((s, a.0, b.0), h)

-- only variables of Own occur
abbrev pub Within : (ℕ → Type 0) → Tree → Type 0
Within Own t = (v : ℕ) → Occ v t → Own v

unfoldable pub WithinPairs : (ℕ → Type 0) → List Pair → Type 0
WithinPairs Own [] = Unit {0}
WithinPairs Own (p ∷ w) = Within Own p.left × Within Own p.right × WithinPairs Own w

pub push_within : (Own : ℕ → Type 0) (ts us : Trees) (w : List Pair) → ((v : ℕ) → Occs v ts → Own v) → ((v : ℕ) → Occs v us → Own v)
    → WithinPairs Own w → WithinPairs Own (push ts us w)
unfolding push WithinPairs Occ
push_within Own none us w a b h = h
push_within Own (more t ts) none w a b h = h
push_within Own (more t ts) (more u us) w a b h =
    push_within Own ts us (record { left = t; right = u } ∷ w) (λ v o. a v (inr o)) (λ v o. b v (inr o))
    (λ v o. a v (inl o), λ v o. b v (inl o), h)
