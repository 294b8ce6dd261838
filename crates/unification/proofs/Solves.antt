-- One variable after the other is bound: a round against the definition's, and the loop over rounds. Assumes nothing.
use mathlib.Core.Path.{◌≡◌, refl, sym, ap, ◌∙◌, subst}
use mathlib.Core.Logic.{inl, inr}
use mathlib.Core.Bool.{Bool, true, false}
use Rattle.std.specs.Prelude.{Option, Some as some, Err}
use mathlib.Core.List.{List, [], ◌∷◌, ◌++◌}
use Prim.Native.Nat.{ℕ, zero, suc, ◌+◌, ◌-◌}
use native.Mathlib.Omega.{arith}
use native.Mathlib.Decide.{ℕ_discrete}
use lib.ListN.{length, get_or, take, drop, replicate, length-drop, replicate-append-replicate}
use lib.Seq.{length-take-le, get_or-drop}
use lib.Dec.{eqb}
use borrow.Author.Tests.{eqb-true}
use Rattle.rules.specs.Out.{Out, ok, then}
use Rattle.rules.specs.Tree.{Tree, var}
use Rattle.rules.specs.Store.{Made}
use Rattle.rules.specs.Unify.{Binding, Pair, insert, replace, Found, finished, clashed, bound, weight, outcome, solve}
use Rattle.rules.specs.Laws.Store.{then_ok, then_refuse}
use Rattle.meaning.specs.Unification.Acts.{of_ok}
use Rattle.meaning.specs.Unification.List.{Bound as HasBinding, Settled, replaced, replace_ok, extended, settled_extended}
use Rattle.meaning.specs.Unification.Peel.{Binds as BindsRightly, Peeled as PeeledRightly, peel_ok}
use Rattle.terms.specs.declared.store.Mark.{Mark}
use Rattle.questions.specs.Numbers.{row_number}
use Rattle.questions.specs.declared.Row.{Row}
use Rattle.terms.specs.Table.{made, Refused, tree}
use Rattle.terms.specs.Theta.{bindings, Theta}
use Rattle.unification.specs.Extend.{Extendable, Bound, Extended}
use Rattle.unification.specs.Unify.{Solved, Unsolved}
use Rattle.unification.specs.Peel.{theta_of, pairs_of, weighs, peels, Used, Clashes, BindsOne, Finishes, Solvable, solves, BoundMore}
use Rattle.terms.specs.Laws.Growth.{grown_trans}
use Rattle.terms.specs.Laws.Zeros.{get_d_zeros}
use Rattle.terms.specs.Laws.Theta.{bindings_grown, theta_grown}
use Rattle.unification.proofs.Turns.{Any, any_bindings, any_pairs, pairs_grown}

-- a cell that is not zero is a binding
pub cell_bound : (M : Made) (cs : List ℕ) (v x : ℕ) → (get_or cs x 0 ≡ 0 → ⊥) → HasBinding (v + x) (bindings M cs v)
unfolding bindings HasBinding
cell_bound M [] v x n = absurd (n refl)
cell_bound M (c ∷ cs) v zero n = go (eqb c 0) refl
  where
    go : (b : Bool) → eqb c 0 ≡ b
        → HasBinding (v + 0) (elim b [ true ↦ bindings M cs (suc v) | false ↦ record { variable = v; value = get_or M (c - 1) (var 0) } ∷ bindings M cs (suc v) ])
    go true e = absurd (n (eqb-true c 0 e))
    go false e = inl (omega arith)
cell_bound M (c ∷ cs) v (suc x) n = go (eqb c 0) (subst (λ (k : ℕ). HasBinding k (bindings M cs (suc v))) (omega arith) (cell_bound M cs (suc v) x n))
  where
    go : (b : Bool) → HasBinding (v + suc x) (bindings M cs (suc v))
        → HasBinding (v + suc x) (elim b [ true ↦ bindings M cs (suc v) | false ↦ record { variable = v; value = get_or M (c - 1) (var 0) } ∷ bindings M cs (suc v) ])
    go true h = h
    go false h = inr h

-- A memo set back -----------------------------------------------------------------------------------------------------------------------

zeros : (l : List ℕ) → ((i : ℕ) → get_or l i 0 ≡ 0) → l ≡ replicate (length l) 0
zeros [] h = refl
zeros (c ∷ cs) h = let e = h 0 in let ih = zeros cs (λ i. h (suc i)) in λ i. e i ∷ ih i

module _ (memo : List ℕ) (n : ℕ) (r : Used memo n) where
  -- behind the cells that are used everything is zero
  pub cleared : (now : List ℕ) → now ≡ replicate (length (take n memo)) 0 → now ++ drop n memo ≡ replicate (length memo) 0
  cleared now e =
      let h = r.inside in
      let a : now ≡ replicate n 0 = e ∙ ap (λ (k : ℕ). replicate k 0) (length-take-le n memo r.inside) in
      let k : length (drop n memo) ≡ length memo - n = length-drop n memo in
      let b : drop n memo ≡ replicate (length memo - n) 0 = zeros (drop n memo) behind ∙ ap (λ (j : ℕ). replicate j 0) k in
      let c : n + (length memo - n) ≡ length memo = omega arith in
      (λ i. a i ++ b i) ∙ replicate-append-replicate n (length memo - n) 0 ∙ ap (λ (j : ℕ). replicate j 0) c
    where
      behind : (i : ℕ) → get_or (drop n memo) i 0 ≡ 0
      behind i = elim (ℕ_discrete (get_or memo (n + i) 0) 0) [
        | yes p ↦ get_or-drop n memo i 0 ∙ p
        | no p ↦ absurd (let z = r.below (n + i) (omega arith) in omega arith)
      ]

-- One round ----------------------------------------------------------------------------------------------------------------------------

module _ (I W : List ℕ) (m : Mark) (theta map memo P seen : List ℕ) (w : ℕ) (q : Solvable I W m theta map memo P seen w) where
  abbrev θ : List Binding
  θ = theta_of I W m theta

  abbrev ps : List Pair
  ps = pairs_of I W m P w

  abbrev K : Out Made Found
  K = peels (suc (weighs I W m theta P w)) I W m theta P w

  -- the memo that was used and wiped is as it was
  pub wiped_back : (used now : List ℕ) → length used ≡ length memo → now ≡ replicate (length used) 0 → now ≡ memo
  wiped_back used now l e = e ∙ ap (λ (n : ℕ). replicate n 0) l ∙ sym q.no_memos

  module _ (J X memo' P' : List ℕ) (new : Mark) (v : ℕ) where
    peeled_to : (f : Found) (mid : Mark) → K ≡ ok f (made J X mid) → (n : ℕ) → solves (suc n) I W m theta P w ≡ outcome (λ ζ v. solve n ζ v) θ f (made J X mid)
    unfolding solve
    peeled_to f mid e n = then_ok K f (made J X mid) (λ g o. outcome (λ ζ v. solve n ζ v) θ g o) e

    pub round_found : Finishes I W J X m memo' K new → (n : ℕ) → Solved I W J X m theta (solves (suc n) I W m theta P w) new
    unfolding outcome
    round_found f n =
        record {
          grown = f.grown;
          makes = peeled_to finished new f.makes n ∙ ap (λ (ζ : List Binding). ok (some ζ) (made J X new)) (sym (bindings_grown f.grown q.peelable.cells));
          cells = theta_grown f.grown q.peelable.cells;
        }

    pub round_apart : Clashes I W J X m memo' K new → (n : ℕ) → Unsolved I W J X m theta (solves (suc n) I W m theta P w) new
    unfolding outcome
    round_apart f n = record { grown = f.grown; makes = peeled_to clashed new f.makes n }

    pub round_err : (row : Row) → Refused Found I W J X m K (row_number row) new → (n : ℕ) → Refused (Option (List Binding)) I W J X m (solves (suc n) I W m theta P w) (row_number row) new
    unfolding solve
    round_err row f n =
        record { grown = f.grown; makes = then_refuse K 60 (row_number row) (made J X new) _ f.makes }

    module _ (x u : ℕ) (one : BindsOne I W J X m memo' P' K x u v new) where
      abbrev mid : Mark
      mid = new

      abbrev t : Tree
      t = tree J X mid u

      -- what the definition's answer says of the variable and its value
      rightly : BindsRightly Any θ ps x t (pairs_of J X mid P' v)
      unfolding PeeledRightly
      rightly = of_ok (peel_ok Any θ q.peelable.settled (any_bindings θ) (suc (weight θ ps)) ps (omega arith) (any_pairs ps) (made I W m)) one.makes

      unbound : get_or theta x 0 ≡ 0
      unbound = zero_or (get_or theta x 0) (λ n. rightly.unbound (subst (λ (k : ℕ). HasBinding k θ) (omega arith) (cell_bound (made I W m) theta 0 x n)))
        where
          zero_or : (c : ℕ) → ((c ≡ 0 → ⊥) → ⊥) → c ≡ 0
          zero_or zero h = refl
          zero_or (suc c) h = absurd (h (λ z. omega arith))

      cells : Theta mid theta
      cells = theta_grown one.grown q.peelable.cells

      same_theta : theta_of J X mid theta ≡ θ
      same_theta = bindings_grown one.grown q.peelable.cells

      pub round_extends : (wiped : List ℕ) → wiped ≡ memo → Extendable J X mid theta map wiped x u
      round_extends wiped z =
          subst (λ (l : List ℕ). Extendable J X mid theta map l x u) (sym z)
          record { good = one.grown.good; cells = cells; small = one.small; unbound = unbound; there = one.known; wide = q.maps; blank = q.no_maps; long = q.peelable.memos; empty = q.no_memos }

      -- what is left once the variable is known
      left : (n : ℕ) → solves (suc n) I W m theta P w ≡ then (replace x t (theta_of J X mid theta) (made J X mid)) (λ ζ o. solve n (insert (record { variable = x; value = t }) ζ) (pairs_of J X mid P' v) o)
      unfolding outcome
      left n =
          peeled_to (bound x t (pairs_of J X mid P' v)) mid one.makes n
          ∙ ap (λ (ζ : List Binding). then (replace x t ζ (made J X mid)) (λ ζ o. solve n (insert (record { variable = x; value = t }) ζ) (pairs_of J X mid P' v) o)) (sym same_theta)

      module _ (G Y theta' : List ℕ) (last : Mark) where
        pub bind_err : (row : Row) → Extended J X G Y mid last theta' x u (replace x t (theta_of J X mid theta) (made J X mid)) (Err row) → (n : ℕ) → Refused (Option (List Binding)) I W G Y m (solves (suc n) I W m theta P w) (row_number row) last
        bind_err row f n =
            record { grown = grown_trans one.grown f.0.grown; makes = left n ∙ then_refuse _ 60 (row_number row) (made G Y last) _ f.0.makes }

        module _ (grew : Bound J X G Y mid theta' x u (replace x t (theta_of J X mid theta) (made J X mid)) last) where
          now_theta : theta_of G Y last theta' ≡ extended x t θ
          unfolding extended
          now_theta =
              grew.is
              ∙ ap (insert (record { variable = x; value = t })) (of_ok (replace_ok x t (theta_of J X mid theta) (made J X mid)) grew.makes ∙ ap (replaced x t) same_theta)

          now_pairs : pairs_of G Y last P' v ≡ pairs_of J X mid P' v
          now_pairs = pairs_grown grew.grown P' v one.there

          goes : (n : ℕ) → solves (suc n) I W m theta P w ≡ solves n G Y last theta' P' v
          goes n =
              left n ∙ then_ok _ grew.values (made G Y last) _ grew.makes
              ∙ (λ i. solve n (sym grew.is i) (sym now_pairs i) (made G Y last))

          pub bind_more : length P' ≡ length P → BoundMore I W G Y m theta theta' map memo P P' seen w v last
          bind_more l =
              let a = grew.grown.more in
              record {
                grown = grown_trans one.grown grew.grown;
                solvable = record {
                  peelable = record {
                    good = grew.grown.good;
                    cells = grew.cells;
                    settled = subst Settled (sym now_theta) (settled_extended x t θ rightly.unbound q.peelable.settled rightly.absent rightly.free);
                    memos = q.peelable.memos;
                    knows = λ i p. absurd (let y : get_or memo i 0 ≡ 0 = ap (λ (c : List ℕ). get_or c i 0) q.no_memos ∙ get_d_zeros (length memo) i in omega arith);
                    wide = q.peelable.wide;
                    no_seen = q.peelable.no_seen;
                    many = l ∙ q.peelable.many;
                    few = one.few;
                    there = λ k h. let y = one.there k h in omega arith;
                  };
                  maps = q.maps;
                  no_maps = q.no_maps;
                  no_memos = q.no_memos;
                };
                makes = goes;
              }
