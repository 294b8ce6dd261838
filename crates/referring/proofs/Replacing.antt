-- The loop over terms that are put under one substitution, each in turn. Assumes nothing.
use Rattle.std.specs.Prelude.{◌≡◌}
use Rattle.std.proofs.Math.Path.{sym, ap, subst}
use Rattle.std.proofs.Common.{◌∙◌, add-one, drop_of_length-le, drop-cons}
use mathlib.Core.List.{List, [], ◌∷◌, ◌++◌}
use Prim.Native.Nat.{ℕ, ◌+◌, ◌<◌, ◌≤◌}
use native.Mathlib.Omega.{arith}
use Rattle.std.proofs.Math.ListN.{length, get_or, set, take, drop}
use lib.ListN.{length-set}
use lib.Seq.{take_all, take-suc-set}
use Rattle.rules.specs.Out.{Out, ok, then}
use Rattle.rules.specs.Tree.{Trees, more}
use Rattle.rules.specs.Store.{Made, substitute, substitutes}
use Rattle.rules.specs.Laws.Out.{then_then}
use Rattle.terms.specs.declared.store.Mark.{Mark}
use Rattle.terms.specs.Table.{Below, made, tree, args_of}
use Rattle.terms.specs.Subst.{replacement}
use Rattle.terms.specs.On.{Went, Stopped, On, on_start, on_is, on_ok, on_no, on_done}
use Rattle.reading.specs.Laws.Walks.{then_same}
use Rattle.referring.specs.Substitutes.{Replaceables, Replaced}
use Rattle.terms.specs.Laws.Below.{below_none, below_snoc, below_grown, ahead, ahead_none, ahead_snoc}
use Rattle.referring.specs.Laws.Substitutes.{ahead_grown}

-- what is answered of the rest, behind these
abbrev after : Made → List ℕ → Trees → Made → Out Made Trees
after M ns ts U = ok (ahead M ns ts) U

abbrev pub wanted : List ℕ → List ℕ → Mark → List ℕ → List ℕ → Made → Out Made Trees
wanted I W old map ids M = substitutes (replacement (made I W old) map) (args_of (made I W old) ids) M

-- the first k are there, by their numbers in the cells; the rest is left
pub record Substituting (I W : List ℕ) (old : Mark) (map ids J X out : List ℕ) (now : Mark) (k : ℕ) : Type 0 where
  pub on : On I W old (wanted I W old map ids (made I W old)) J X now (then (wanted I W old map (drop k ids) (made J X now)) (after (made J X now) (take k out)))
  pub below : Below now.terms (take k out)
  pub short : k ≤ length ids
  pub long : length out ≡ length ids

pub substituting_start : {I W : List ℕ} {m : Mark} {map memo ids out : List ℕ} → Replaceables I W m map memo ids out → Substituting I W m map ids I W out m 0
unfolding ahead
substituting_start {I} {W} {m} {map} {memo} {ids} r =
    record { on = on_is (on_start r.good) (then_same (wanted I W m map ids (made I W m))); below = below_none; short = omega arith; long = r.long }

module _ {I W : List ℕ} {old : Mark} {map ids J X out : List ℕ} {now : Mark} {k : ℕ} (h : Substituting I W old map ids J X out now k) where
  -- nothing is left
  pub substituting_over : length ids ≤ k → Replaced I W J X old (wanted I W old map ids (made I W old)) out now
  unfolding substitutes args_of then
  substituting_over l =
      let M = made J X now in
      let c : take k out ≡ out = take_all k out (omega (arith, h.long)) in
      let d : then (wanted I W old map (drop k ids) M) (after M (take k out)) ≡ ok (args_of M out) M =
      ap (λ (xs : List ℕ). then (wanted I W old map xs M) (after M (take k out))) (drop_of_length-le ids l)
      ∙ ap (λ (ts : Trees). ok ts M) (ahead_none M (take k out) ∙ ap (args_of M) c) in
      record { went = on_done (on_is h.on d); there = subst (Below now.terms) c h.below }

  module _ (l : k < length ids) where
    split : On I W old (wanted I W old map ids (made I W old)) J X now
        (then (substitute (replacement (made I W old) map) (tree I W old (get_or ids k 0)) (made J X now))
        (λ t U. then (then (wanted I W old map (drop (k + 1) ids) U) (λ ts W. ok (more t ts) W)) (after (made J X now) (take k out))))
    unfolding substitutes args_of
    split =
        on_is h.on
        (ap (λ (xs : List ℕ). then (wanted I W old map xs (made J X now)) (after (made J X now) (take k out)))
        (drop-cons ids k 0 l ∙ ap (λ (j : ℕ). get_or ids k 0 ∷ drop j ids) (sym (add-one k)))
        ∙ then_then (substitute (replacement (made I W old) map) (tree I W old (get_or ids k 0)) (made J X now)) _ _)

    module _ {Y Z : List ℕ} {new : Mark} where
      pub substituting_stops : {q d : ℕ} →
          Stopped J X Y Z now (substitute (replacement (made I W old) map) (tree I W old (get_or ids k 0)) (made J X now)) q d new →
          Stopped I W Y Z old (wanted I W old map ids (made I W old)) q d new
      substituting_stops s = on_no _ split s

      pub substituting_more : {t : ℕ} →
          Went J X Y Z now (substitute (replacement (made I W old) map) (tree I W old (get_or ids k 0)) (made J X now)) (tree Y Z new t) new →
          t < new.terms → Substituting I W old map ids Y Z (set out k t) new (k + 1)
      unfolding then
      substituting_more {t} w p =
          let U = made Y Z new in
          let s : take (k + 1) (set out k t) ≡ take k out ++ (t ∷ []) =
          ap (λ (i : ℕ). take i (set out k t)) (add-one k) ∙ take-suc-set out k t (omega (arith, h.long, l)) in
          let behind-it : (ts : Trees) → ahead (made J X now) (take k out) (more (tree Y Z new t) ts) ≡ ahead U (take (k + 1) (set out k t)) ts =
          λ ts. sym (ahead_grown w.grown (take k out) h.below (more (tree Y Z new t) ts)) ∙ sym (ahead_snoc U (take k out) t ts) ∙ ap (λ (ns : List ℕ). ahead U ns ts) (sym s) in
          record {
            on = on_is (on_ok _ split w)
                (then_then (wanted I W old map (drop (k + 1) ids) U) _ _ ∙ ap (then (wanted I W old map (drop (k + 1) ids) U)) (λ i ts W. ok (behind-it ts i) W));
            below = subst (Below new.terms) (sym s) (below_snoc (take k out) (below_grown (take k out) w.grown.more h.below) p);
            short = omega arith;
            long = length-set out k t ∙ h.long;
          }
