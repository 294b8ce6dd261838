-- One premise of a rule and the reference that is it: what `met` answers for each answer of its parts. Assumes nothing.
use mathlib.Core.Path.{◌≡◌, sym, ap, ◌∙◌, subst}
use mathlib.Core.Bool.{Bool}
use mathlib.Core.List.{List}
use Prim.Native.Nat.{ℕ, ◌<◌}
use native.Mathlib.Omega.{arith}
use lib.Dec.{eqb}
use lib.ListN.{length, replicate, length-replicate}
use borrow.Author.Tests.{eq-eqb, ne_eqb}
use Rattle.rules.specs.Limits.{TERMS}
use Rattle.rules.specs.Out.{Out, ok, then, ask}
use Rattle.rules.specs.Tree.{Tree, same_tree, sub}
use Rattle.rules.specs.Store.{Made, substitute}
use Rattle.rules.specs.Unify.{along}
use Rattle.rules.specs.Reference.{Ref, reference}
use Rattle.rules.proofs.Laws.MakingWalk.{substitute_keeps}
use Rattle.terms.specs.declared.store.Mark.{Mark}
use Rattle.terms.specs.Table.{made, tree, Stored, Refused}
use Rattle.terms.specs.Subst.{replacement, substituted, Replaceable}
use Rattle.terms.specs.Theta.{Theta, bindings}
use Rattle.terms.specs.On.{On, Stopped, stored_went, refused_stopped, on_start, on_ok, on_no, on_done, on_ask_yes, on_ask_no}
use Rattle.terms.specs.Laws.Growth.{grown_tree, grown_there}
use Rattle.terms.specs.Laws.Numbers.{stored_is, same_number}
use Rattle.state.specs.declared.sizes.Sizes.{Sizes}
use Rattle.state.specs.Held.{Names}
use Rattle.referring.specs.Recall.{Refers, RefersItem}
use Rattle.referring.specs.Referral.{RefRead}
use Rattle.derivation.specs.Applying.{met_by}
use Rattle.reading.specs.Laws.Bindings.{bindings_along}
use Rattle.referring.specs.Laws.Refers.{refers_ready, refers_went}

-- a memo that is zero, as `substitute` asks for it
pub blank_memo : {I W : List ℕ} {m : Mark} {memo : List ℕ} {p : ℕ} {map : List ℕ} → Replaceable I W m map p → memo ≡ replicate TERMS 0 →
    (p < length memo) × (memo ≡ replicate (length memo) 0)
blank_memo {memo = memo} r e =
    let l : length memo ≡ TERMS = ap length e ∙ length-replicate {A = ℕ} TERMS 0 in
    (omega (arith, r.there, r.good.room), e ∙ ap (λ (k : ℕ). replicate k 0) (sym l))

-- what is said of a term under the map, is said of it under the bindings
module _ (I W : List ℕ) (m : Mark) (map : List ℕ) (id : ℕ) (P : Tree → Out Made Tree → Type 0) where
  pub along_bindings : P (substituted I W m map id) (substitute (replacement (made I W m) map) (tree I W m id) (made I W m)) →
      P (sub (along (bindings (made I W m) map 0)) (tree I W m id)) (substitute (along (bindings (made I W m) map 0)) (tree I W m id) (made I W m))
  along_bindings a =
      subst (λ (σ : ℕ → Tree). P (sub σ (tree I W m id)) (substitute σ (tree I W m id) (made I W m))) (sym (bindings_along I W m map)) a

module _ {K : Names} {facts : List ℕ} {n : Sizes} {I W : List ℕ} {m : Mark} {cells : List ℕ} (g : RefersItem K facts n I W m cells) {bound : List ℕ} (θ : Theta m bound)
    {p : ℕ} (l : p < m.terms) where
  pub met_replaceable : Replaceable I W m bound p
  met_replaceable = record { good = g.refers.reads.good; bound = θ.bound; there = l }

  -- what the definition answers
  abbrev met_all : Out Made Ref
  met_all = met_by g.S (bindings (made I W m) bound 0) (tree I W m p) g.x (made I W m)

  -- what `substitute` answers
  module _ (J X : List ℕ) {mid : Mark} where
    pub met_full : {row : ℕ} → Refused Tree I W J X m (substitute (replacement (made I W m) bound) (tree I W m p) (made I W m)) row mid →
        Stopped I W J X m met_all 60 row mid
    met_full {row} a =
        on_no _ (on_start g.refers.reads.good)
        (refused_stopped (along_bindings I W m bound p (λ (z : Tree) (Q : Out Made Tree). Refused Tree I W J X m Q row mid) a))

    module _ {t : ℕ} (a : Stored I W J X m (substituted I W m bound p) (substitute (replacement (made I W m) bound) (tree I W m p) (made I W m)) t mid) where
      met_stored : Stored I W J X m (sub (along (bindings (made I W m) bound 0)) (tree I W m p))
          (substitute (along (bindings (made I W m) bound 0)) (tree I W m p) (made I W m)) t mid
      met_stored = along_bindings I W m bound p (λ (z : Tree) (Q : Out Made Tree). Stored I W J X m z Q t mid) a

      pub met_refers : Refers K facts g.footings g.lists n J X mid g.S
      met_refers =
          refers_went g.refers
          (substitute_keeps (along (bindings (made I W m) bound 0)) (tree I W m p) (made I W m) (refers_ready g.refers).good)
          (stored_went met_stored)

      abbrev pub met_given : RefersItem K facts n J X mid cells
      met_given = record { S = g.S; footings = g.footings; lists = g.lists; x = g.x; ys = g.ys; refers = met_refers; holds = g.holds }

      met_on : On I W m met_all J X mid (then (reference g.S g.x (made J X mid)) (λ o U.
          then (ask 38 (same_tree o.judgment (sub (along (bindings (made I W m) bound 0)) (tree I W m p))) U) (λ u T. ok o T)))
      met_on = on_ok _ (on_start g.refers.reads.good) (stored_went met_stored)

      -- what `reference` answers
      module _ (Y Z : List ℕ) {new : Mark} where
        pub met_refused : {k d : ℕ} → ((h : RefersItem K facts n J X mid cells) → Stopped J X Y Z mid (reference h.S h.x (made J X mid)) k d new) →
            Stopped I W Y Z m met_all k d new
        met_refused q = on_no _ met_on (q met_given)

        module _ {j i : ℕ} {bare : Bool} (q : (h : RefersItem K facts n J X mid cells) → RefRead J X Y Z mid h.S (reference h.S h.x (made J X mid)) j i bare new) where
          met_read : RefRead J X Y Z mid g.S (reference g.S g.x (made J X mid)) j i bare new
          met_read = q met_given

          met_same : same_tree (tree Y Z new j) (sub (along (bindings (made I W m) bound 0)) (tree I W m p)) ≡ eqb j t
          met_same =
              ap (same_tree (tree Y Z new j)) (sym (stored_is met_stored) ∙ sym (grown_tree met_read.went.grown t met_stored.there))
              ∙ same_number met_read.went.grown.good j t met_read.there (grown_there met_read.went.grown t met_stored.there)

          -- another judgment
          pub met_other : (j ≡ t → ⊥) → Stopped I W Y Z m met_all 38 0 new
          met_other d = on_ask_no _ 38 (on_ok _ met_on met_read.went) (met_same ∙ ne_eqb j t d)

          pub met_this : j ≡ t → RefRead I W Y Z m g.S met_all j i bare new
          met_this d =
              record {
                went = on_done (on_ask_yes _ 38 (on_ok _ met_on met_read.went) (met_same ∙ eq-eqb j t d));
                there = met_read.there;
                earlier = met_read.earlier;
              }
