-- What two terms of good tables ask for, by their heads and the numbers of their arguments. Assumes nothing.
use mathlib.Core.Path.{◌≡◌, sym, ap, ◌∙◌, subst}
use mathlib.Core.Bool.{Bool, true, false}
use mathlib.Core.List.{List, []}
use Prim.Native.Nat.{ℕ, suc, ◌-◌, ◌≤◌, ◌<◌}
use native.Mathlib.Omega.{arith}
use lib.ListN.{length, get_or}
use lib.Dec.{eqb}
use borrow.Author.Tests.{eq-eqb, ne_eqb}
use Rattle.rules.specs.Limits.{SYMBOLS, VARIABLES}
use Rattle.rules.specs.Tree.{Tree, Trees, var, app, variables, count_trees}
use Rattle.rules.specs.Laws.Tree.{same_eq, not_same}
use Rattle.rules.specs.Store.{Made}
use Rattle.rules.specs.Laws.Store.{Apart}
use Rattle.rules.specs.Unify.{Look, agree, clash, binds, parts, bind_or_clash, differ, look}
use Rattle.terms.specs.declared.store.Mark.{Mark}
use Rattle.unification.specs.declared.pairs.Asks.{Asks}
use Rattle.terms.specs.Table.{start, args_of, tree_at, node_at, made, Below, Shaped, is_var, is_app, Good, tree}
use Rattle.unification.specs.Pairs.{Searchable, Comparable, BindsTo, PartsAre, Answered}
use Rattle.terms.proofs.Arguments.{behind, behind_cons}
use Rattle.terms.specs.Laws.Tables.{length_trees, args_count, shaped_some, tree_here, tree_app, tree_var, node_length}

-- The definition by cases ----------------------------------------------------------------------------------------------------------

look_same : (s t : Tree) → s ≡ t → look s t ≡ agree
unfolding look
look_same s t e = ap (λ (b : Bool). elim b [ true ↦ agree | false ↦ differ s t ]) (same_eq s t e)

look_differ : (s t : Tree) → (s ≡ t → ⊥) → look s t ≡ differ s t
unfolding look
look_differ s t n = ap (λ (b : Bool). elim b [ true ↦ agree | false ↦ differ s t ]) (not_same s t n)

differ_left : (x : ℕ) (s t : Tree) → s ≡ var x → differ s t ≡ bind_or_clash x t
unfolding differ
differ_left x s t e = ap (λ (u : Tree). differ u t) e

differ_right : (c : ℕ) (ts : Trees) (y : ℕ) (s t : Tree) → s ≡ app c ts → t ≡ var y → differ s t ≡ bind_or_clash y s
unfolding differ
differ_right c ts y s t e f = (λ i. differ (e i) (f i)) ∙ ap (bind_or_clash y) (sym e)

module _ (c d : ℕ) (ts us : Trees) (s t : Tree) (e : s ≡ app c ts) (f : t ≡ app d us) where
  abbrev counted : Bool → Look
  counted b = elim b [ true ↦ parts ts us | false ↦ clash ]

  abbrev headed : Bool → Look
  headed b = elim b [ true ↦ counted (eqb (count_trees ts) (count_trees us)) | false ↦ clash ]

  both_apps : differ s t ≡ headed (eqb c d)
  unfolding differ
  both_apps = λ i. differ (e i) (f i)

  differ_heads : (c ≡ d → ⊥) → differ s t ≡ clash
  differ_heads n = both_apps ∙ ap (λ (b : Bool). headed b) (ne_eqb c d n)

  differ_counts : c ≡ d → (count_trees ts ≡ count_trees us → ⊥) → differ s t ≡ clash
  differ_counts p n = both_apps ∙ ap (λ (b : Bool). headed b) (eq-eqb c d p) ∙ ap (λ (b : Bool). counted b) (ne_eqb _ _ n)

  differ_parts : c ≡ d → count_trees ts ≡ count_trees us → differ s t ≡ parts ts us
  differ_parts p q = both_apps ∙ ap (λ (b : Bool). headed b) (eq-eqb c d p) ∙ ap (λ (b : Bool). counted b) (eq-eqb _ _ q)

-- The occurs check -------------------------------------------------------------------------------------------------------------------

pub bind_clash : (t : Tree) (x : ℕ) (r : Bool) → r ≡ variables t x → r ≡ true → bind_or_clash x t ≡ clash
unfolding bind_or_clash
bind_clash t x r e z = ap (λ (b : Bool). elim b [ true ↦ clash | false ↦ binds x t ]) (sym e ∙ z)

bind_binds : (t : Tree) (x : ℕ) (r : Bool) → r ≡ variables t x → r ≡ false → bind_or_clash x t ≡ binds x t
unfolding bind_or_clash
bind_binds t x r e z = ap (λ (b : Bool). elim b [ true ↦ clash | false ↦ binds x t ]) (sym e ∙ z)

module _ (I W : List ℕ) (m : Mark) (seen : List ℕ) (x id : ℕ) (q : Searchable I W m seen id) where
  pub bind_to : x < VARIABLES → (r : Bool) → r ≡ variables (tree I W m id) x → r ≡ false → BindsTo I W m (bind_or_clash x (tree I W m id)) x id
  bind_to h r e z = record { asks = bind_binds _ _ r e z; small = h; there = q.there }

-- A term by its words -----------------------------------------------------------------------------------------------------------------

word_var : (M : Made) (n : ℕ) {w : List ℕ} → Shaped n w → SYMBOLS ≤ get_or w 0 0 → (tree_at M w ≡ var (get_or w 0 0 - SYMBOLS)) × (get_or w 0 0 - SYMBOLS < VARIABLES)
word_var M n (is_var {h = h} p u) l = (tree_var M h [] l, omega (arith, p, u))
word_var M n (is_app {h = h} {xs = xs} p b) l = absurd (omega (arith, p, l))

word_app : (M : Made) (n : ℕ) {w : List ℕ} → Shaped n w → get_or w 0 0 < SYMBOLS → tree_at M w ≡ app (get_or w 0 0) (args_of M (behind w))
word_app M n (is_var {h = h} p u) l = absurd (omega (arith, p, l))
word_app M n (is_app {h = h} {xs = xs} p b) l = tree_app M h xs l ∙ ap (λ (ys : List ℕ). app h (args_of M ys)) (sym (behind_cons h xs))

word_args : (n : ℕ) {w : List ℕ} → Shaped n w → get_or w 0 0 < SYMBOLS → (k : ℕ) → k < length (behind w) → get_or (behind w) k 0 < n
word_args n (is_var {h = h} p u) l = absurd (omega (arith, p, l))
word_args n (is_app {h = h} {xs = xs} p b) l = subst (Below n) (sym (behind_cons h xs)) b

word_count : (n : ℕ) {w : List ℕ} → Shaped n w → suc (length (behind w)) ≡ length w
word_count n (is_var {h = h} p u) = ap (λ (ys : List ℕ). suc (length ys)) (behind_cons h [])
word_count n (is_app {h = h} {xs = xs} p b) = ap (λ (ys : List ℕ). suc (length ys)) (behind_cons h xs)

-- Two terms --------------------------------------------------------------------------------------------------------------------------

trees_apart : (I W : List ℕ) (m : Mark) → Good I W m → (s t : ℕ) → s < m.terms → t < m.terms → (s ≡ t → ⊥) → tree I W m s ≡ tree I W m t → ⊥
unfolding Apart
trees_apart I W m g s t a b n e = let z = length_trees I W m.terms in n (g.apart s t (omega arith) (omega arith) e)

module _ (I W : List ℕ) (m : Mark) (seen : List ℕ) (s t : ℕ) (q : Comparable I W m seen s t) where
  pub both_one : s ≡ t → look (tree I W m s) (tree I W m t) ≡ agree
  both_one e = look_same _ _ (ap (λ (i : ℕ). tree I W m i) e)

  differs : (s ≡ t → ⊥) → look (tree I W m s) (tree I W m t) ≡ differ (tree I W m s) (tree I W m t)
  differs n = look_differ _ _ (trees_apart I W m q.left.good s t q.left.there q.right.there n)

  module _ (n : s ≡ t → ⊥) (w : List ℕ) (e : w ≡ node_at I W s) where
    left_shaped : Shaped s w
    left_shaped = subst (Shaped s) (sym e) (q.left.good.shaped s q.left.there)

    left_tree : tree I W m s ≡ tree_at (made I W m) w
    left_tree = tree_here I W m q.left.good s q.left.there ∙ ap (tree_at (made I W m)) (sym e)

    pub left_some : 0 < length w
    left_some = shaped_some s left_shaped

    pub left_asks : SYMBOLS ≤ get_or w 0 0 → Searchable I W m seen t × (get_or w 0 0 - SYMBOLS < VARIABLES)
    left_asks p = (q.right, (word_var (made I W m) s left_shaped p).1)

    pub left_binds : SYMBOLS ≤ get_or w 0 0 → (r : Asks) → Answered I W m (bind_or_clash (get_or w 0 0 - SYMBOLS) (tree I W m t)) r → Answered I W m (look (tree I W m s) (tree I W m t)) r
    left_binds p r = subst (λ (L : Look). Answered I W m L r) (sym (differs n ∙ differ_left _ _ _ (left_tree ∙ (word_var (made I W m) s left_shaped p).0)))

    module _ (p : get_or w 0 0 < SYMBOLS) (u : List ℕ) (f : u ≡ node_at I W t) where
      right_shaped : Shaped t u
      right_shaped = subst (Shaped t) (sym f) (q.right.good.shaped t q.right.there)

      right_tree : tree I W m t ≡ tree_at (made I W m) u
      right_tree = tree_here I W m q.right.good t q.right.there ∙ ap (tree_at (made I W m)) (sym f)

      pub right_some : 0 < length u
      right_some = shaped_some t right_shaped

      pub right_asks : SYMBOLS ≤ get_or u 0 0 → Searchable I W m seen s × (get_or u 0 0 - SYMBOLS < VARIABLES)
      right_asks r = (q.left, (word_var (made I W m) t right_shaped r).1)

      left_is : tree I W m s ≡ app (get_or w 0 0) (args_of (made I W m) (behind w))
      left_is = left_tree ∙ word_app (made I W m) s left_shaped p

      pub right_binds : SYMBOLS ≤ get_or u 0 0 → (r : Asks) → Answered I W m (bind_or_clash (get_or u 0 0 - SYMBOLS) (tree I W m s)) r → Answered I W m (look (tree I W m s) (tree I W m t)) r
      right_binds o r =
          subst (λ (L : Look). Answered I W m L r) (sym (differs n ∙ differ_right _ _ _ _ _ left_is (right_tree ∙ (word_var (made I W m) t right_shaped o).0)))

      module _ (o : get_or u 0 0 < SYMBOLS) where
        right_is : tree I W m t ≡ app (get_or u 0 0) (args_of (made I W m) (behind u))
        right_is = right_tree ∙ word_app (made I W m) t right_shaped o

        pub heads_clash : (get_or w 0 0 ≡ get_or u 0 0 → ⊥) → look (tree I W m s) (tree I W m t) ≡ clash
        heads_clash h = differs n ∙ differ_heads _ _ _ _ _ _ left_is right_is h

        left_count : count_trees (args_of (made I W m) (behind w)) ≡ length (behind w)
        left_count = args_count (made I W m) (behind w)

        right_count : count_trees (args_of (made I W m) (behind u)) ≡ length (behind u)
        right_count = args_count (made I W m) (behind u)

        pub counts_clash : get_or w 0 0 ≡ get_or u 0 0 → (length w ≡ length u → ⊥) → look (tree I W m s) (tree I W m t) ≡ clash
        counts_clash h d =
            differs n ∙ differ_counts _ _ _ _ _ _ left_is right_is h (λ x. d (sym (word_count s left_shaped) ∙ ap suc (sym left_count ∙ x ∙ right_count) ∙ word_count t right_shaped))

        pub parts_are : get_or w 0 0 ≡ get_or u 0 0 → length w ≡ length u → PartsAre I W m (look (tree I W m s) (tree I W m t)) (behind w) (behind u)
        parts_are h d =
            let x : suc (length (behind w)) ≡ length w = word_count s left_shaped in
            let y : suc (length (behind u)) ≡ length u = word_count t right_shaped in
            let z : length (behind w) ≡ length (behind u) = omega arith in
            let l : length w ≡ get_or I s 0 - start I s = ap length e ∙ node_length I W m q.left.good s q.left.there in
            let k = q.left.good.narrow s q.left.there in
            record {
              asks = differs n ∙ differ_parts _ _ _ _ _ _ left_is right_is h (left_count ∙ z ∙ sym right_count);
              even = sym z;
              few = omega arith;
              lefts = λ j l. let c = word_args s left_shaped p j l in let r = q.left.there in omega arith;
              rights = λ j l. let c = word_args t right_shaped o j l in let r = q.right.there in omega arith;
            }
