-- The terms visited while variables are collected: none at first; still right when the set grows, and when the store does. Assumes nothing.
use Rattle.std.specs.Prelude.{◌≡◌, refl, true, false, ◌||◌, List, ℕ, ◌<◌, length, eqb}
use Rattle.std.proofs.Common.{sym, ap, ◌∙◌, true≢false, arith}
use Rattle.rules.specs.Find.{Set, empty, union}
use Rattle.rules.specs.Tree.{Tree, Trees, var, app, none, more, is_open, are_open, variables}
use Rattle.rules.specs.Store.{Made, number}
use Rattle.rules.specs.Laws.Set.{or_left}
use Rattle.rules.specs.Laws.Store.{Ins, Closed, stored_true}
use Rattle.terms.specs.declared.store.Mark.{Mark}
use Rattle.terms.specs.Sets.{holds}
use Rattle.terms.specs.Table.{made, tree, Grown}
use Rattle.terms.specs.Collect.{open_nodes, open_nodes_of, Seen}
use Rattle.terms.specs.Theta.{Zeros}
use Rattle.terms.specs.Laws.Growth.{made_length, grown_tree}
use Rattle.terms.specs.Laws.Numbers.{tree_number, made_closed, grown_number}
use Rattle.terms.specs.Laws.Sets.{holds_zero}

-- Open nodes -----------------------------------------------------------------------------------------------------------------------------

pub closed_nodes : (M : Made) (t : Tree) → is_open t ≡ false → open_nodes M t ≡ empty
unfolding is_open open_nodes
closed_nodes M (var v) e = absurd (true≢false e)
closed_nodes M (app c ts) e = λ i j. elim (e i) [ true ↦ eqb j (number M (app c ts)) || open_nodes_of M ts j | false ↦ false ]

pub var_nodes : (M : Made) (v : ℕ) → open_nodes M (var v) ≡ empty
unfolding open_nodes
var_nodes M v = refl

pub open_nodes_lem : (M : Made) (c : ℕ) (ts : Trees) → are_open ts ≡ true → open_nodes M (app c ts) ≡ (λ i. eqb i (number M (app c ts)) || open_nodes_of M ts i)
unfolding open_nodes
open_nodes_lem M c ts e = λ i j. elim (e i) [ true ↦ eqb j (number M (app c ts)) || open_nodes_of M ts j | false ↦ false ]

pub nodes_none : (M : Made) → open_nodes_of M none ≡ empty
unfolding open_nodes
nodes_none M = refl

pub nodes_more : (M : Made) (t : Tree) (ts : Trees) → open_nodes_of M (more t ts) ≡ union (open_nodes M t) (open_nodes_of M ts)
unfolding open_nodes
nodes_more M t ts = refl

-- Seen -----------------------------------------------------------------------------------------------------------------------------------

-- nothing is visited at first
pub seen_none : (I W : List ℕ) (m : Mark) (a : Set) (seen : List ℕ) → Zeros seen → Seen I W m (holds seen) a
seen_none I W m a seen e = record { there = λ i n. absurd (no i n); below = λ i n. absurd (no i n); within = λ i n. absurd (no i n) }
  where
    no : (i : ℕ) → holds seen i ≡ true → ⊥
    no i n = true≢false (sym n ∙ ap (λ (l : List ℕ). holds l i) e ∙ ap (λ (c : Set). c i) (holds_zero (length seen)))

-- the set may grow
pub seen_wider : {I W : List ℕ} {m : Mark} {seen a : Set} (b : Set) → Seen I W m seen a → Seen I W m seen (union a b)
seen_wider {a = a} b s = record { there = s.there; below = s.below; within = λ i n v t. or_left (a v) (b v) (s.within i n v t) }

-- so may the store: numbers stay, and trees with them
mutual
  unfolding open_nodes Closed

  nodes_same : (M N : Made) → Closed M → ((t : Tree) → number M t < length M → number N t ≡ number M t) → (t : Tree) → number M t < length M → (i : ℕ)
      → open_nodes N t i ≡ open_nodes M t i
  nodes_same M N c f (var v) h i = refl
  nodes_same M N c f (app g ts) h i =
      let p = f (app g ts) h in
      let q = nodes_sames M N c f ts (c g ts h) i in
      λ k. elim (are_open ts) [ true ↦ eqb i (p k) || q k | false ↦ false ]

  nodes_sames : (M N : Made) → Closed M → ((t : Tree) → number M t < length M → number N t ≡ number M t) → (ts : Trees) → Ins M ts → (i : ℕ)
      → open_nodes_of N ts i ≡ open_nodes_of M ts i
  nodes_sames M N c f none h i = refl
  nodes_sames M N c f (more t ts) h i = let p = nodes_same M N c f t h.0 i in let q = nodes_sames M N c f ts h.1 i in λ k. p k || q k

module _ {I W J X : List ℕ} {old new : Mark} (w : Grown I W J X old new) where
  pub nodes_grown : (i : ℕ) → i < old.terms → open_nodes (made J X new) (tree J X new i) ≡ open_nodes (made I W old) (tree I W old i)
  nodes_grown i h =
      ap (open_nodes (made J X new)) (grown_tree w i h)
      ∙ (λ k j. nodes_same (made I W old) (made J X new) (made_closed w.was) numbers (tree I W old i) (let a = tree_number w.was i h in let l = made_length I W old in omega arith) j k)
    where
      numbers : (t : Tree) → number (made I W old) t < length (made I W old) → number (made J X new) t ≡ number (made I W old) t
      numbers t l = grown_number w t (stored_true (made I W old) t l)

  pub seen_grown : {seen a : Set} → Seen I W old seen a → Seen J X new seen a
  seen_grown s =
      record {
        there = λ i n. let l = s.there i n in let z = w.more in omega arith;
        below = λ i n j t. s.below i n j (ap (λ (c : Set). c j) (sym (nodes_grown i (s.there i n))) ∙ t);
        within = λ i n v t. s.within i n v (ap (λ (u : Tree). variables u v) (sym (grown_tree w i (s.there i n))) ∙ t);
      }
