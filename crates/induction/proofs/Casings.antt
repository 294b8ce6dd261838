-- A constructor over a case's variables, and the motive at it and at a variable: what the loop has kept, and what is answered. Assumes nothing.
use mathlib.Core.Path.{◌≡◌, refl, sym, ap, ◌∙◌, subst}
use mathlib.Core.List.{List, [], ◌∷◌, ◌++◌}
use Prim.Native.Nat.{ℕ, suc, ◌+◌, ◌<◌, ◌≤◌}
use native.Mathlib.Omega.{arith}
use native.Mathlib.Numerals.{add-one}
use lib.ListN.{length, get_or, set, take, drop, replicate, length-set, length-drop, length-replicate, drop_of_length-le}
use lib.Seq.{drop-cons, take-suc-set, length-take-le, drop-set-add, get_or-set_other}
use Rattle.std.specs.Prelude.{Result, Ok, Err}
use Rattle.rules.specs.Limits.{TERMS, NODE}
use Rattle.rules.specs.Out.{Out, ok, then, Act}
use Rattle.rules.specs.Tree.{Tree, Trees, var, app, none, more, single}
use Rattle.rules.specs.Store.{Made, keep}
use Rattle.rules.specs.Induct.{Hyp, keep_vars, hypothesis_at}
use Rattle.rules.specs.Laws.Out.{then_then}
use Rattle.questions.specs.Numbers.{row_number}
use Rattle.questions.specs.declared.Row.{Row}
use Rattle.terms.specs.declared.store.Mark.{Mark}
use Rattle.terms.specs.Table.{Below, made, tree, tree_at, args_of, Node, Shaped, is_app, Stored, Refused, After}
use Rattle.terms.specs.Subst.{replacement}
use Rattle.terms.specs.On.{Stopped, On, on_start, on_is, on_ok, on_no, stored_went, refused_stopped}
use Rattle.terms.specs.Laws.Answers.{after_term, after_full}
use Rattle.terms.specs.Laws.Growth.{grown_tree, grown_args, grown_there, grown_trans}
use Rattle.terms.specs.Laws.Numbers.{stored_is}
use Rattle.terms.specs.Laws.Tables.{tree_app}
use Rattle.referring.specs.Substitutes.{Replaceables}
use Rattle.terms.specs.Laws.Below.{below_none, below_snoc, below_grown, ahead, ahead_none, ahead_snoc}
use Rattle.referring.specs.Laws.Substitutes.{ahead_grown}
use Rattle.induction.specs.Inducing.{motive_in, Motived, MovedBy, judgment_first, premises_first, var_trees, keep_case, Casing, at_constructor}
use Rattle.induction.proofs.Moves.{moved_on, only, one_cell, one_bound}

-- what an answer says behind what went before
after_on : {I W J X : List ℕ} {old now : Mark} {t : Tree} {K L : Out Made Tree} (Y Z : List ℕ) (new : Mark) (r : Result ℕ Row) → On I W old K J X now L →
    After J X Y Z now new t L r → After I W Y Z old new t K r
after_on Y Z new (Ok n) o a =
    let s = after_term a refl in
    record { says = record { grown = grown_trans o.grown s.grown; makes = o.here ∙ s.makes; numbered = s.numbered; there = s.there } }
after_on Y Z new (Err row) o a = let s = after_full a refl in record { says = record { grown = grown_trans o.grown s.grown; makes = o.here ∙ s.makes } }

-- A constructor over variables ----------------------------------------------------------------------------------------------------------

-- the first k are kept; node has the constructor, then their numbers
pub record Keeping (I W : List ℕ) (old : Mark) (c : ℕ) (own J X node : List ℕ) (now : Mark) (k : ℕ) : Type 0 where
  pub on : On I W old (keep_case c own (made I W old)) J X now
      (then (keep_vars (drop k own) (made J X now)) (λ ts U. keep (app c (ahead (made J X now) (take k (drop 1 node)) ts)) U))
  pub trees : ahead (made J X now) (take k (drop 1 node)) (var_trees (drop k own)) ≡ var_trees own
  pub known : Below now.terms (take k (drop 1 node))
  pub head : get_or node 0 0 ≡ c
  pub long : length node ≡ NODE
  pub near : k ≤ length own

pub keeping_start : {I W : List ℕ} {m : Mark} {c : ℕ} {own : List ℕ} → Casing I W m c own → Keeping I W m c own I W (set (replicate NODE 0) 0 c) m 0
unfolding keep_case ahead
keeping_start {c = c} g =
    record {
      on = on_start g.good;
      trees = refl;
      known = below_none;
      head = refl;
      long = length-set (replicate NODE 0) 0 c ∙ length-replicate {A = ℕ} NODE 0;
      near = omega arith;
    }

module _ {I W : List ℕ} {old : Mark} {c : ℕ} {own J X node : List ℕ} {now : Mark} {k : ℕ} (g : Casing I W old c own) (h : Keeping I W old c own J X node now k) where
  module _ (l : k < length own) where
    split : On I W old (keep_case c own (made I W old)) J X now
        (then (keep (var (get_or own k 0)) (made J X now))
        (λ t U. then (keep_vars (drop (suc k) own) U) (λ ts N. keep (app c (ahead (made J X now) (take k (drop 1 node)) (more t ts))) N)))
    unfolding keep_vars then
    split =
        on_is h.on
        (ap (λ (vs : List ℕ). then (keep_vars vs (made J X now)) (λ ts U. keep (app c (ahead (made J X now) (take k (drop 1 node)) ts)) U)) (drop-cons own k 0 l)
        ∙ then_then (keep (var (get_or own k 0)) (made J X now)) _ _
        ∙ ap (λ (f : Tree → Made → Out Made Tree). then (keep (var (get_or own k 0)) (made J X now)) f)
        (λ i t U. then_then (keep_vars (drop (suc k) own) U) (λ ts N. ok (more t ts) N) (λ ts N. keep (app c (ahead (made J X now) (take k (drop 1 node)) ts)) N) i))

    keeping_place : k + 1 < length node
    keeping_place = omega (arith, g.narrow, l, h.long)

    module _ {Y Z : List ℕ} {new : Mark} where
      pub keeping_full : {row : Row} → Refused Tree J X Y Z now (keep (var (get_or own k 0)) (made J X now)) (row_number row) new →
          After I W Y Z old new (app c (var_trees own)) (keep_case c own (made I W old)) (Err row)
      keeping_full a = let s = on_no _ split (refused_stopped a) in record { says = record { grown = s.grown; makes = s.makes } }

      module _ {t : ℕ} (stored : Stored J X Y Z now (var (get_or own k 0)) (keep (var (get_or own k 0)) (made J X now)) t new) where
        taken : take (k + 1) (drop 1 (set node (k + 1) t)) ≡ take k (drop 1 node) ++ (t ∷ [])
        taken =
            let q : k + 1 ≡ 1 + k = omega arith in
            ap (λ (i : ℕ). take (k + 1) (drop 1 (set node i t))) q ∙ ap (take (k + 1)) (drop-set-add 1 node k t)
            ∙ ap (λ (i : ℕ). take i (set (drop 1 node) k t)) (add-one k)
            ∙ take-suc-set (drop 1 node) k t (omega (arith, keeping_place, length-drop 1 node))

        moved : (ts : Trees) → ahead (made J X now) (take k (drop 1 node)) (more (var (get_or own k 0)) ts) ≡ ahead (made Y Z new) (take (k + 1) (drop 1 (set node (k + 1) t))) ts
        moved ts =
            ap (λ (u : Tree). ahead (made J X now) (take k (drop 1 node)) (more u ts)) (sym (stored_is stored))
            ∙ sym (ahead_grown stored.grown (take k (drop 1 node)) h.known (more (tree Y Z new t) ts))
            ∙ sym (ahead_snoc (made Y Z new) (take k (drop 1 node)) t ts)
            ∙ ap (λ (ns : List ℕ). ahead (made Y Z new) ns ts) (sym taken)

        pub keeping_again : Keeping I W old c own Y Z (set node (k + 1) t) new (k + 1)
        unfolding var_trees
        keeping_again =
            record {
              on = on_is (on_ok _ split (stored_went stored))
                  ((λ i. then (keep_vars (drop (suc k) own) (made Y Z new)) (λ ts U. keep (app c (moved ts i)) U))
                  ∙ ap (λ (i : ℕ). then (keep_vars (drop i own) (made Y Z new))
                  (λ ts U. keep (app c (ahead (made Y Z new) (take (k + 1) (drop 1 (set node (k + 1) t))) ts)) U)) (sym (add-one k)));
              trees = ap (λ (i : ℕ). ahead (made Y Z new) (take (k + 1) (drop 1 (set node (k + 1) t))) (var_trees (drop i own))) (add-one k)
                  ∙ sym (moved (var_trees (drop (suc k) own)))
                  ∙ ap (λ (vs : List ℕ). ahead (made J X now) (take k (drop 1 node)) (var_trees vs)) (sym (drop-cons own k 0 l))
                  ∙ h.trees;
              known = subst (Below new.terms) (sym taken)
                  (below_snoc (take k (drop 1 node)) (below_grown (take k (drop 1 node)) stored.grown.more h.known) stored.there);
              head = get_or-set_other node (k + 1) 0 t 0 (λ z. omega arith) ∙ h.head;
              long = length-set node (k + 1) t ∙ h.long;
              near = omega arith;
            }

  -- all are kept
  module _ (l : length own ≤ k) where
    all : k ≡ length own
    all = omega (arith, h.near)

    node_is : take (length own + 1) node ≡ c ∷ take (length own) (drop 1 node)
    node_is =
        ap (λ (i : ℕ). take i node) (add-one (length own))
        ∙ ap (take (suc (length own))) (drop-cons node 0 0 (omega (arith, h.long)))
        ∙ ap (λ (z : ℕ). z ∷ take (length own) (drop 1 node)) h.head

    known_all : Below now.terms (take (length own) (drop 1 node))
    known_all = subst (λ (i : ℕ). Below now.terms (take i (drop 1 node))) all h.known

    keeping_room : length own + 1 ≤ length node
    keeping_room = omega (arith, g.narrow, h.long)

    pub keeping_node : Node now.terms (take (length own + 1) node)
    keeping_node =
        record {
          narrow = omega (arith, length-take-le (length own + 1) node keeping_room, h.long, keeping_room);
          shaped = subst (λ (w : List ℕ). Shaped now.terms w) (sym node_is) (is_app g.symbol known_all);
        }

    varied : args_of (made J X now) (take (length own) (drop 1 node)) ≡ var_trees own
    unfolding var_trees
    varied =
        sym (ahead_none (made J X now) (take (length own) (drop 1 node)))
        ∙ ap (λ (i : ℕ). ahead (made J X now) (take i (drop 1 node)) none) (sym all)
        ∙ ap (λ (vs : List ℕ). ahead (made J X now) (take k (drop 1 node)) (var_trees vs)) (sym (drop_of_length-le own l))
        ∙ h.trees

    tree_is : tree_at (made J X now) (take (length own + 1) node) ≡ app c (var_trees own)
    tree_is = ap (tree_at (made J X now)) node_is ∙ tree_app (made J X now) c (take (length own) (drop 1 node)) g.symbol ∙ ap (app c) varied

    finish : On I W old (keep_case c own (made I W old)) J X now (keep (app c (var_trees own)) (made J X now))
    unfolding keep_vars then var_trees
    finish =
        on_is h.on
        (ap (λ (vs : List ℕ). then (keep_vars vs (made J X now)) (λ ts U. keep (app c (ahead (made J X now) (take k (drop 1 node)) ts)) U)) (drop_of_length-le own l)
        ∙ ap (λ (ts : Trees). keep (app c ts) (made J X now))
        (ap (λ (vs : List ℕ). ahead (made J X now) (take k (drop 1 node)) (var_trees vs)) (sym (drop_of_length-le own l)) ∙ h.trees))

    pub keeping_done : {Y Z : List ℕ} {new : Mark} {r : Result ℕ Row} →
        After J X Y Z now new (tree_at (made J X now) (take (length own + 1) node)) (keep (tree_at (made J X now) (take (length own + 1) node)) (made J X now)) r →
        After I W Y Z old new (app c (var_trees own)) (keep_case c own (made I W old)) r
    keeping_done {Y} {Z} {new} {r} a = after_on Y Z new r finish (subst (λ (t : Tree). After J X Y Z now new t (keep t (made J X now)) r) tree_is a)

-- The motive at a term ----------------------------------------------------------------------------------------------------------------------

-- term t is put for the variable
module _ {I W : List ℕ} {m : Mark} {x j : ℕ} {premises : List ℕ} (g : Motived I W m x j premises) {u : Tree} {L : Out Made Tree} {J X : List ℕ} {t : ℕ} {new : Mark}
    (d : Stored I W J X m u L t new) {map : List ℕ} (e : map ≡ only x t) where
  pub put_movable : {memo out : List ℕ} → memo ≡ replicate TERMS 0 → length out ≡ length premises → Replaceables J X new map memo premises out × (j < new.terms)
  put_movable zeros long = (
    record {
      good = d.grown.good;
      within = λ v. subst (λ (c : List ℕ). get_or c v 0 ≤ new.terms) (sym e) (one_bound x t new.terms g.small d.there v);
      empty = zeros;
      there = below_grown premises d.grown.more g.known;
      long = long;
    },
    grown_there d.grown j g.there,
  )

  put_on : (F : (ℕ → Tree) → Tree → Trees → Act Made Hyp) (K : Out Made Hyp) →
      K ≡ then L (λ y U. F (single x y) (tree I W m j) (args_of (made I W m) premises) U) →
      On I W m K J X new (F (replacement (made J X new) map) (tree J X new j) (args_of (made J X new) premises) (made J X new))
  put_on F K q =
      let s : single x u ≡ replacement (made J X new) map =
      ap (single x) (sym (stored_is d)) ∙ sym (one_cell (made J X new) x t g.small) ∙ ap (replacement (made J X new)) (sym e) in
      on_is (on_ok _ (on_is (on_start g.good) q) (stored_went d))
      (λ i. F (s i) (sym (grown_tree d.grown j g.there) i) (sym (grown_args d.grown premises g.known) i) (made J X new))

-- at the constructor
module _ {I W : List ℕ} {m : Mark} {x j : ℕ} {premises : List ℕ} (k : Motived I W m x j premises) (sort c : ℕ) (own : List ℕ) where
  abbrev built : Out Made Hyp
  built = at_constructor (motive_in (made I W m) x sort j premises) c own (made I W m)

  module _ {J X : List ℕ} {new : Mark} where
    pub built_full : {r : ℕ} → Refused Tree I W J X m (keep_case c own (made I W m)) r new → Stopped I W J X m built 60 r new
    unfolding at_constructor
    built_full s = on_no _ (on_start k.good) (refused_stopped s)

    pub built_moved : {t : ℕ} → Stored I W J X m (app c (var_trees own)) (keep_case c own (made I W m)) t new → {map : List ℕ} → map ≡ only x t →
        (Y Z out : List ℕ) (last : Mark) (r : Result ℕ Row) →
        MovedBy J X Y Z new last (judgment_first (replacement (made J X new) map) (tree J X new j) (args_of (made J X new) premises) (made J X new)) out r →
        MovedBy I W Y Z m last built out r
    unfolding at_constructor
    built_moved d e Y Z out last r b = moved_on Y Z out last r (put_on k d e judgment_first built refl) b

-- at a variable
module _ {I W : List ℕ} {m : Mark} {x j : ℕ} {premises : List ℕ} (k : Motived I W m x j premises) (sort v : ℕ) where
  abbrev supposed : Out Made Hyp
  supposed = hypothesis_at (motive_in (made I W m) x sort j premises) v (made I W m)

  module _ {J X : List ℕ} {new : Mark} where
    pub supposed_full : {r : ℕ} → Refused Tree I W J X m (keep (var v) (made I W m)) r new → Stopped I W J X m supposed 60 r new
    unfolding hypothesis_at
    supposed_full s = on_no _ (on_start k.good) (refused_stopped s)

    pub supposed_moved : {t : ℕ} → Stored I W J X m (var v) (keep (var v) (made I W m)) t new → {map : List ℕ} → map ≡ only x t →
        (Y Z out : List ℕ) (last : Mark) (r : Result ℕ Row) →
        MovedBy J X Y Z new last (premises_first (replacement (made J X new) map) (tree J X new j) (args_of (made J X new) premises) (made J X new)) out r →
        MovedBy I W Y Z m last supposed out r
    unfolding hypothesis_at premises_first
    supposed_moved d e Y Z out last r b = moved_on Y Z out last r (put_on k d e premises_first supposed refl) b
