-- One pair is taken: the definition's step, the terms that are compared, and that what is left weighs less. Assumes nothing.
use mathlib.Core.Path.{◌≡◌, sym, ap, ◌∙◌, subst}
use mathlib.Core.List.{List, [], ◌∷◌}
use Prim.Native.Nat.{ℕ, suc, ◌+◌, ◌-◌, ◌*◌, ◌<◌}
use native.Mathlib.Omega.{arith}
use lib.ListN.{length, get_or}
use Rattle.rules.specs.Out.{then}
use Rattle.rules.specs.Tree.{Tree, Trees, app, sub, count_trees, size}
use Rattle.rules.specs.Store.{substitute}
use Rattle.rules.specs.Unify.{Binding, Pair, along, Look, clash, parts, look, push, Found, onward, peel, weight}
use Rattle.meaning.specs.Trees.Tree.{size_pos}
use Rattle.meaning.specs.Unification.List.{Settled, Each}
use Rattle.meaning.specs.Unification.Pairs.{Saw, saw, WithinPairs}
use Rattle.meaning.specs.Unification.Peel.{WithinBindings, lighter}
use Rattle.terms.specs.declared.store.Mark.{Mark}
use Rattle.std.specs.Prelude.{Result, Ok, Err}
use Rattle.questions.specs.Numbers.{row_number}
use Rattle.questions.specs.declared.Row.{Row}
use Rattle.unification.specs.declared.peel.Step.{Step}
use Rattle.unification.specs.declared.peel.Step.TheVariants as step
use Rattle.terms.specs.Table.{made, Grown, Refused, tree}
use Rattle.terms.specs.Subst.{Knows}
use Rattle.unification.specs.Pairs.{waits}
use Rattle.unification.specs.Peel.{theta_of, pairs_of, sided, BothSides, NoSides, Sided, Lookable, Onto, same, more, OntoPairs, Crowded}
use Rattle.unification.specs.Peel.{BindsHere, Looked, Turned, Peelable, weighs, peels, Lighter, Results, Clashes, BindsOne}
use Rattle.terms.specs.Laws.Tables.{length_trees}
use Rattle.terms.specs.Laws.Theta.{replacement_grown, along_is, bindings_grown, theta_grown}
use Rattle.terms.specs.Laws.Growth.{grown_tree}
use Rattle.unification.proofs.Waits.{waits_more}
use Rattle.unification.proofs.Looks.{length_waits, onward_agree, onward_clash, onward_binds, onward_parts, onward_crowd}

-- Any variable: the laws that are cited here ask which ones there can be -----------------------------------------------------------

abbrev pub Any : ℕ → Type 0
Any v = Unit {0}

pub any_bindings : (θ : List Binding) → WithinBindings Any θ
unfolding Each
any_bindings [] = tt
any_bindings (b ∷ θ) = ((tt, λ v o. tt), any_bindings θ)

pub any_pairs : (ps : List Pair) → WithinPairs Any ps
unfolding WithinPairs
any_pairs [] = tt
any_pairs (p ∷ ps) = (λ v o. tt, λ v o. tt, any_pairs ps)

-- pairs that wait are those that waited
pub pairs_grown : {I W J X : List ℕ} {old new : Mark} → Grown I W J X old new → (P : List ℕ) (n : ℕ) → ((k : ℕ) → k < 2 * n → get_or P k 0 < old.terms) → pairs_of J X new P n ≡ pairs_of I W old P n
pairs_grown {I} {W} {J} {X} {old} {new} w P n h = waits_more (made I W old) (made J X new) old.terms P n (grown_tree w) h

-- The last pair ----------------------------------------------------------------------------------------------------------------------

module _ (I W : List ℕ) (m : Mark) (theta memo P seen : List ℕ) (w : ℕ) (q : Peelable I W m theta memo P seen w × (0 < w)) where
  abbrev s : ℕ
  s = get_or P (2 * (w - 1)) 0

  abbrev t : ℕ
  t = get_or P (2 * (w - 1) + 1) 0

  abbrev θ : List Binding
  θ = theta_of I W m theta

  abbrev p : Pair
  p = record { left = tree I W m s; right = tree I W m t }

  abbrev ps : List Pair
  ps = pairs_of I W m P (w - 1)

  split : pairs_of I W m P w ≡ p ∷ ps
  unfolding waits
  split = let h = q.1 in let e : w ≡ suc (w - 1) = omega arith in ap (waits (made I W m) P) e

  left_there : s < m.terms
  left_there = let h = q.1 in q.0.there (2 * (w - 1)) (omega arith)

  right_there : t < m.terms
  right_there = let h = q.1 in q.0.there (2 * (w - 1) + 1) (omega arith)

  -- the definition's step
  stepped : (k : ℕ) → peels (suc k) I W m theta P w ≡ sided I W m theta s t (λ u v o. onward (λ z. peel k θ z) ps (look u v) o)
  unfolding peel
  stepped k =
      ap (λ (z : List Pair). peel (suc k) θ z (made I W m)) split
      ∙ ap (λ (σ : ℕ → Tree). then (substitute σ (tree I W m s) (made I W m)) (λ u n. then (substitute σ (tree I W m t) n) (λ v o. onward (λ z. peel k θ z) ps (look u v) o)))
      (along_is (made I W m) theta)

  module _ (J X memo' : List ℕ) (new : Mark) (r : Result (ℕ × ℕ) Row) (d : Sided I W J X m new theta memo' s t r) where
    pub pair_err : (row : Row) → r ≡ Err row → (k : ℕ) → Refused Found I W J X m (peels (suc k) I W m theta P w) (row_number row) new
    pair_err row e k =
        let f : NoSides I W J X m theta s t (row_number row) new = subst (Sided I W J X m new theta memo' s t) e d in
        record { grown = f.grown; makes = stepped k ∙ f.makes _ }

    module _ (ab : ℕ × ℕ) (e : r ≡ Ok ab) where
      abbrev a : ℕ
      a = ab.0

      abbrev b : ℕ
      b = ab.1

      both : BothSides I W J X m theta memo' s t a b new
      both = subst (Sided I W J X m new theta memo' s t) e d

      abbrev θ' : List Binding
      θ' = theta_of J X new theta

      abbrev ps' : List Pair
      ps' = pairs_of J X new P (w - 1)

      abbrev L : Look
      L = look (tree J X new a) (tree J X new b)

      same_theta : θ' ≡ θ
      same_theta = bindings_grown both.grown q.0.cells

      there_old : (k : ℕ) → k < 2 * (w - 1) → get_or P k 0 < m.terms
      there_old k h = q.0.there k (omega arith)

      same_pairs : ps' ≡ ps
      same_pairs = pairs_grown both.grown P (w - 1) there_old

      left_tree : tree J X new a ≡ sub (along θ) (tree I W m s)
      left_tree = both.left ∙ ap (λ (σ : ℕ → Tree). sub σ (tree I W m s)) (sym (along_is (made I W m) theta))

      right_tree : tree J X new b ≡ sub (along θ) (tree I W m t)
      right_tree = both.right ∙ ap (λ (σ : ℕ → Tree). sub σ (tree I W m t)) (sym (along_is (made I W m) theta))

      pub pair_lookable : Lookable J X new P seen (w - 1) a b
      pair_lookable =
          let l = both.grown.more in
          let f = q.0.few in
          record {
            both = record {
              left = record { good = both.grown.good; there = both.left_there; wide = q.0.wide; fresh = q.0.no_seen };
              right = record { good = both.grown.good; there = both.right_there; wide = q.0.wide; fresh = q.0.no_seen };
            };
            many = q.0.many;
            few = omega arith;
            there = λ k h. let x = there_old k h in omega arith;
          }

      -- what is left of the step
      looked : (k : ℕ) → peels (suc k) I W m theta P w ≡ onward (λ z. peel k θ' z) ps' L (made J X new)
      looked k = stepped k ∙ both.makes _ ∙ (λ i. onward (λ z. peel k (sym same_theta i) z) (sym same_pairs i) L (made J X new))

      results : length memo' ≡ length memo → Results memo' new
      results g =
          let a = q.0.memos in
          let b = both.grown.good.room in
          let c = length_trees J X new.terms in
          record { inside = omega arith; below = λ i h. let d = (both.knows i h).old in omega arith }

      module _ (P' : List ℕ) (v : ℕ) where
        pair_clash : length memo' ≡ length memo → L ≡ clash → (k : ℕ) → Clashes I W J X m memo' (peels (suc k) I W m theta P w) new
        pair_clash g c k = record { grown = both.grown; makes = looked k ∙ onward_clash _ _ L (made J X new) c; results = results g }

        pair_crowd : Crowded (w - 1) L → (k : ℕ) → Refused Found I W J X m (peels (suc k) I W m theta P w) 14 new
        pair_crowd f k =
            let l = length_waits (made J X new) P (w - 1) in
            let h = f.full in
            record { grown = both.grown; makes = looked k ∙ onward_crowd _ _ L (made J X new) f.lefts f.rights f.asks (omega arith) }

        pair_binds : length memo' ≡ length memo → (y u : ℕ) → BindsHere J X new P P' L y u × (v ≡ w - 1) → (k : ℕ) → BindsOne I W J X m memo' P' (peels (suc k) I W m theta P w) y u v new
        pair_binds g y u c k =
            let f = c.0 in
            let l = pair_lookable in
            subst (λ (o : List ℕ). BindsOne I W J X m memo' o (peels (suc k) I W m theta P w) y u v new) (sym f.stays)
            (subst (λ (j : ℕ). BindsOne I W J X m memo' P (peels (suc k) I W m theta P w) y u j new) (sym c.1) record {
              grown = both.grown;
              makes = looked k ∙ onward_binds _ _ L (made J X new) _ _ f.binds.asks;
              results = results g;
              small = f.binds.small;
              known = f.binds.there;
              few = l.few;
              there = l.there;
            })

        module _ (got : OntoPairs J X new P P' (w - 1) v L) where
          whole : weighs I W m theta P w ≡ size (sub (along θ) (tree I W m s)) + weight θ ps
          unfolding weight
          whole = ap (weight θ) split

          goes : Onto (made J X new) P P' (w - 1) v L → (k : ℕ) → peels (suc k) I W m theta P w ≡ peels k J X new theta P' v
          goes (same c f) k = looked k ∙ onward_agree _ _ L (made J X new) c ∙ ap (λ (o : List Pair). peel k θ' o (made J X new)) (sym f)
          goes (more ts us c l f) k =
              let y = length_waits (made J X new) P (w - 1) in
              looked k ∙ onward_parts _ _ L (made J X new) ts us c (omega arith) ∙ ap (λ (o : List Pair). peel k θ' o (made J X new)) (sym f)

          -- the terms have one head, and these arguments
          heads : (ts us : Trees) → L ≡ parts ts us
              → (c : ℕ) × (sub (along θ) (tree I W m s) ≡ app c ts) × (sub (along θ) (tree I W m t) ≡ app c us) × (count_trees ts ≡ count_trees us)
          unfolding Saw
          heads ts us c =
              let y : Saw (tree J X new a) (tree J X new b) (parts ts us) = subst (Saw (tree J X new a) (tree J X new b)) c (saw (tree J X new a) (tree J X new b)) in
              (y.0, sym left_tree ∙ y.1, sym right_tree ∙ y.2, y.3)

          falls : Onto (made J X new) P P' (w - 1) v L → weighs J X new theta P' v < weighs I W m theta P w
          falls (same c f) =
              let y : weighs J X new theta P' v ≡ weight θ ps = (λ i. weight (same_theta i) ((f ∙ same_pairs) i)) in
              let o = size_pos (sub (along θ) (tree I W m s)) in
              let h = whole in
              omega arith
          falls (more ts us c l f) =
              let y : weighs J X new theta P' v ≡ weight θ (push ts us ps) = (λ i. weight (same_theta i) ((f ∙ ap (push ts us) same_pairs) i)) in
              let o = heads ts us c in
              let h = whole in
              let g = lighter Any θ q.0.settled (any_bindings θ) (size (sub (along θ) (tree I W m s)) + weight θ ps) (tree I W m s) o.0 ts us ps o.1 (omega arith) in
              omega arith

          pair_more : length P' ≡ length P → length memo' ≡ length memo → Lighter I W J X m theta memo' P P' seen w v new
          pair_more f g =
              let a = q.0.memos in
              record {
                grown = both.grown;
                peelable = record {
                  good = both.grown.good;
                  cells = theta_grown both.grown q.0.cells;
                  settled = subst Settled (sym same_theta) q.0.settled;
                  memos = omega arith;
                  knows = λ i o. subst (λ (τ : ℕ → Tree). Knows (made J X new) τ memo' i)
                      (sym (replacement_grown both.grown theta q.0.cells.bound)) (both.knows i o);
                  wide = q.0.wide;
                  no_seen = q.0.no_seen;
                  many = f ∙ q.0.many;
                  few = got.few;
                  there = got.there;
                };
                less = falls got.onto;
                makes = goes got.onto;
              }

      -- from the answer of what comes next
      pub pair_turned : (P' : List ℕ) (v : ℕ) (x : Result Step Row) → Looked J X new P P' (w - 1) v L x → length P' ≡ length P → length memo' ≡ length memo → Turned I W J X m new theta memo' P P' seen w v x
      pair_turned P' v (Ok step.Done) n f g = pair_more P' v n f g
      pair_turned P' v (Ok step.Clash) n f g = let z = n.1 in let y = q.1 in (pair_clash P' v g n.0, omega arith)
      pair_turned P' v (Ok (step.Binds y u)) n f g = pair_binds P' v g y u n
      pair_turned P' v (Err row) n f g = λ k. subst (λ (r : Row). Refused Found I W J X m (peels (suc k) I W m theta P w) (row_number r) new) (sym n.1) (pair_crowd P' v n.0 k)
