-- The hypotheses of a set, one after the other. Assumes nothing.
use mathlib.Core.Path.{◌≡◌, refl, sym, ap, ◌∙◌, subst}
use mathlib.Core.Bool.{◌||◌}
use mathlib.Core.List.{List, [], ◌∷◌}
use Rattle.std.specs.Prelude.{Option}
use Prim.Native.Nat.{ℕ, ◌+◌, ◌*◌, ◌≤◌, ◌<◌}
use native.Mathlib.Omega.{arith}
use native.Mathlib.Numerals.{add-one}
use lib.ListN.{length, get_or, take, drop, replicate, drop_of_length-le}
use lib.Seq.{sets, sets-eq, drop-cons}
use Rattle.std.proofs.lemmas.List.{take_at}
use Rattle.rules.specs.Limits.{FACTS, FACTWORDS}
use Rattle.rules.specs.Find.{Set, empty, union, rising}
use Rattle.rules.specs.State.{Fact, free, free_at, hyp_vars}
use Rattle.rules.specs.Laws.Theory.{all_at}
use Rattle.rules.specs.Laws.Set.{union_assoc, union_empty}
use Rattle.rules.specs.Laws.Rising.{rising_all_of}
use Rattle.terms.specs.declared.store.Mark.{Mark}
use Rattle.terms.specs.Sets.{holds}
use Rattle.terms.specs.Collect.{Seen}
use Rattle.state.specs.declared.sizes.Sizes.{Sizes}
use Rattle.state.specs.RowCells.{no_fact}
use Rattle.state.specs.RowTables.{entry_at}
use Rattle.state.specs.Members.{Under, rising_few, rising_under}
use Rattle.referring.specs.Recall.{fact_of, Recalls}
use Rattle.referring.specs.Referral.{Gathered}

-- The members written out ------------------------------------------------------------------------------------------------------------

written : (l vs : List ℕ) (n : ℕ) → n ≡ length vs → n ≤ length l → take n (sets l 0 vs) ≡ vs
written l vs n e p = ap (take n) (sets-eq vs l 0 (omega arith)) ∙ take_at vs (drop (0 + length vs) l) n (sym e)

pub members_out : (hyps : List ℕ) {out : List ℕ} {count : ℕ} → length hyps ≡ FACTWORDS → count ≡ length (rising (64 * length hyps) (holds hyps)) →
    out ≡ sets (replicate FACTS 0) 0 (rising (64 * length hyps) (holds hyps)) → take count out ≡ rising (64 * length hyps) (holds hyps)
members_out hyps {out} {count} f c w =
    ap (take count) w ∙ written (replicate FACTS 0) (rising (64 * length hyps) (holds hyps)) count c (omega (arith, rising_few (64 * length hyps) (holds hyps)))

-- Facts ------------------------------------------------------------------------------------------------------------------------------

hyp_next : (fs : List Fact) (h : ℕ) (hs : List ℕ) → h < length fs → hyp_vars fs (h ∷ hs) ≡ union (free (get_or fs h no_fact)) (hyp_vars fs hs)
unfolding hyp_vars free_at
hyp_next fs h hs l = ap (λ (o : Option Fact). λ (v : ℕ). free_at o v || hyp_vars fs hs v) (entry_at fs h no_fact l)

hyp_none : (fs : List Fact) → hyp_vars fs [] ≡ empty
unfolding hyp_vars
hyp_none fs = refl

module _ {facts lists : List ℕ} {n : Sizes} {I W : List ℕ} {m : Mark} (g : Recalls facts lists n I W m) (hyps : List ℕ) (u : Under n.facts (holds hyps)) (f : length hyps ≡ FACTWORDS) where
  abbrev members : List ℕ
  members = rising n.facts (holds hyps)

  pub members_are : rising (64 * length hyps) (holds hyps) ≡ members
  members_are = rising_under n.facts (64 * length hyps) (holds hyps) (omega (arith, g.recorded.many, g.recorded.rows.row12)) u

  module _ {ids : List ℕ} {k : ℕ} (w : ids ≡ rising (64 * length hyps) (holds hyps)) (h : k < length ids) where
    few : k < length members
    few = omega (arith, ap length (w ∙ members_are))

    pub member_is : get_or ids k 0 ≡ get_or members k 0
    member_is = ap (λ (l : List ℕ). get_or l k 0) (w ∙ members_are)

    pub member_below : get_or ids k 0 < n.facts
    member_below =
        subst (λ (x : ℕ). x < n.facts) (sym member_is) (all_at members k 0 (rising_all_of {P = λ v. v < n.facts} n.facts (holds hyps) (λ v l e. l)) few)

-- what is left of the hypotheses decides
pub record Joining (facts lists : List ℕ) (n : Sizes) (I W : List ℕ) (m : Mark) (hyps seen₀ set₀ seen set : List ℕ) (k : ℕ) : Type 0 where
  pub left : (g : Recalls facts lists n I W m)
      → union (holds set) (hyp_vars g.S.facts (drop k (rising n.facts (holds hyps)))) ≡ union (holds set₀) (hyp_vars g.S.facts (rising n.facts (holds hyps)))
  pub visits : Seen I W m (holds seen) (holds set)

pub joining_begins : {facts lists : List ℕ} {n : Sizes} {I W : List ℕ} {m : Mark} {hyps seen set : List ℕ} → Seen I W m (holds seen) (holds set)
    → Joining facts lists n I W m hyps seen set seen set 0
joining_begins s = record { left = λ g. refl; visits = s }

module _ {facts lists : List ℕ} {n : Sizes} {I W : List ℕ} {m : Mark} {hyps seen₀ set₀ seen set : List ℕ} {k : ℕ} (v : Joining facts lists n I W m hyps seen₀ set₀ seen set k)
    (p : Recalls facts lists n I W m) (u : Under n.facts (holds hyps)) (f : length hyps ≡ FACTWORDS) {ids : List ℕ}
    (w : ids ≡ rising (64 * length hyps) (holds hyps)) where
  pub joining_ready : k < length ids → Recalls facts lists n I W m × (get_or ids k 0 < n.facts)
  joining_ready h = (p, member_below p hyps u f w h)

  pub joining_on : {seen' set' : List ℕ} → k < length ids → ((g : Recalls facts lists n I W m) → Gathered I W m (free (fact_of g.S (get_or ids k 0))) (holds set) (holds seen') (holds set'))
      → Joining facts lists n I W m hyps seen₀ set₀ seen' set' (k + 1)
  joining_on {seen'} {set'} h j = record { left = left; visits = (j p).visits }
    where
      left : (g : Recalls facts lists n I W m)
          → union (holds set') (hyp_vars g.S.facts (drop (k + 1) (rising n.facts (holds hyps)))) ≡ union (holds set₀) (hyp_vars g.S.facts (rising n.facts (holds hyps)))
      left g =
          let xs = rising n.facts (holds hyps) in
          let fs = g.S.facts in
          let z : k < length xs = omega (arith, ap length (w ∙ members_are g hyps u f)) in
          let b = member_below g hyps u f w h in
          let s : hyp_vars fs (drop k xs) ≡ union (free (get_or fs (get_or ids k 0) no_fact)) (hyp_vars fs (drop (k + 1) xs)) =
          ap (hyp_vars fs) (drop-cons xs k 0 z ∙ (λ i. sym (member_is g hyps u f w h) i ∷ drop (sym (add-one k) i) xs))
          ∙ hyp_next fs (get_or ids k 0) (drop (k + 1) xs) (omega (arith, g.recorded.many)) in
          ap (λ (a : Set). union a (hyp_vars fs (drop (k + 1) xs))) (j g).set
          ∙ union_assoc (holds set) (free (get_or fs (get_or ids k 0) no_fact)) (hyp_vars fs (drop (k + 1) xs))
          ∙ ap (union (holds set)) (sym s) ∙ v.left g

  pub joining_ends : length ids ≤ k → (g : Recalls facts lists n I W m) → holds set ≡ union (holds set₀) (hyp_vars g.S.facts (rising n.facts (holds hyps)))
  joining_ends h g =
      let xs = rising n.facts (holds hyps) in
      let z : length xs ≤ k = omega (arith, ap length (w ∙ members_are g hyps u f)) in
      sym (union_empty (holds set)) ∙ ap (union (holds set)) (sym (ap (hyp_vars g.S.facts) (drop_of_length-le xs z) ∙ hyp_none g.S.facts)) ∙ v.left g
