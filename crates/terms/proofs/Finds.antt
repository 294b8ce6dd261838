-- The look-up of a node along the chain of its bucket. Assumes nothing.
use mathlib.Core.Path.{◌≡◌, refl, sym, ap, ◌∙◌, subst}
use mathlib.Core.Bool.{Bool, true, false}
use mathlib.Core.List.{List}
use Prim.Native.Nat.{ℕ, ◌+◌, ◌-◌, ◌≤◌, ◌<◌}
use native.Mathlib.Omega.{arith}
use native.Mathlib.Decide.{dec_lt, ℕ_discrete}
use lib.ListN.{length, get_or}
use Rattle.std.proofs.Common.{Some as some, None as nothing}
use Rattle.rules.specs.Tree.{Tree}
use Rattle.rules.specs.Store.{Made, number}
use Rattle.rules.specs.Laws.Store.{stored_true, stored_false, number_le}
use Rattle.terms.specs.declared.store.Mark.{Mark}
use Rattle.terms.specs.Table.{CHAINS, HEADS, node_at, tree_at, made, hash, bucket, latest, Shaped, Good}
use Rattle.terms.specs.Node.{seek}
use Rattle.terms.specs.Laws.Chains.{hash_small, latest_le, latest_key, latest_skip}
use Rattle.terms.specs.Laws.Tables.{length_trees, number_here, number_nowhere}

pub seek_here : (M : Made) (t : Tree) (i : ℕ) → number M t ≡ i → i < length M → some i ≡ seek M t
unfolding seek
seek_here M t i e h = ap (λ (n : ℕ). some n) (sym e) ∙ sym (ap (λ (b : Bool). elim b [ true ↦ some (number M t) | false ↦ nothing ]) (stored_true M t (omega arith)))

pub seek_none : (M : Made) (t : Tree) → number M t ≡ length M → nothing ≡ seek M t
unfolding seek
seek_none M t e = sym (ap (λ (b : Bool). elim b [ true ↦ some (number M t) | false ↦ nothing ]) (stored_false M t e))

-- what the answer says
pub seek_number : (M : Made) (t : Tree) (i : ℕ) → some i ≡ seek M t → (number M t ≡ i) × (number M t < length M)
seek_number M t i e = elim (dec_lt (number M t) (length M)) [
  | yes p ↦ let z : some i ≡ some (number M t) = e ∙ sym (seek_here M t (number M t) refl p) in ((cc), p)
  | no q ↦ let l = number_le M t in let z : some i ≡ nothing = e ∙ sym (seek_none M t (omega arith)) in absurd (cc)
]

pub seek_nowhere : (M : Made) (t : Tree) → nothing ≡ seek M t → number M t ≡ length M
seek_nowhere M t e = elim (dec_lt (number M t) (length M)) [
  | yes p ↦ let z : nothing ≡ some (number M t) = e ∙ sym (seek_here M t (number M t) refl p) in absurd (cc)
  | no q ↦ let l = number_le M t in omega arith
]

-- no term from `at` on has the node's words, and the term before `at` is of its bucket
pub record Seeking (I W : List ℕ) (m : Mark) (w : List ℕ) (at : ℕ) : Type 0 where
  pub good : Good I W m
  pub shaped : Shaped m.terms w
  pub in_terms : at ≤ m.terms
  pub key : 0 < at → bucket I W (at - 1) ≡ hash w
  pub none : (k : ℕ) → at ≤ k → k < m.terms → node_at I W k ≡ w → ⊥

pub head_in : (I W : List ℕ) (m : Mark) (w : List ℕ) (b : ℕ) → Good I W m → b ≡ hash w → HEADS + b < length I
head_in I W m w b g e = let a = hash_small w in let d = g.index in omega arith

pub seeking_begins : (I W : List ℕ) (m : Mark) (w : List ℕ) (b : ℕ) → Good I W m → Shaped m.terms w → b ≡ hash w → Seeking I W m w (get_or I (HEADS + b) 0)
seeking_begins I W m w b g s e =
    let z : get_or I (HEADS + b) 0 ≡ latest (bucket I W) (hash w) m.terms =
    ap (λ (k : ℕ). get_or I (HEADS + k) 0) e ∙ g.heads (hash w) (hash_small w) in
    subst (Seeking I W m w) (sym z)
    (record {
      good = g;
      shaped = s;
      in_terms = latest_le (bucket I W) (hash w) m.terms;
      key = latest_key (bucket I W) (hash w) m.terms;
      none = λ k l h q. latest_skip (bucket I W) (hash w) m.terms k l h (ap hash q);
    })

module _ (I W : List ℕ) (m : Mark) (w : List ℕ) (at : ℕ) (q : Seeking I W m w at) (ne : at ≡ 0 → ⊥) where
  pub seeking_in : at - 1 < m.terms
  seeking_in = let a = q.in_terms in omega arith

  pub seeking_hit : node_at I W (at - 1) ≡ w → some (at - 1) ≡ seek (made I W m) (tree_at (made I W m) w)
  seeking_hit e =
      seek_here (made I W m) _ (at - 1)
      (number_here I W m q.good w (at - 1) seeking_in e)
      (let a = seeking_in in let b = length_trees I W m.terms in omega arith)

  pub seeking_on : (node_at I W (at - 1) ≡ w → ⊥) → Seeking I W m w (get_or I (CHAINS + (at - 1)) 0)
  seeking_on n =
      let l = seeking_in in
      let z : get_or I (CHAINS + (at - 1)) 0 ≡ latest (bucket I W) (hash w) (at - 1) =
      q.good.chains (at - 1) seeking_in ∙ ap (λ (b : ℕ). latest (bucket I W) b (at - 1)) (q.key (omega arith)) in
      subst (Seeking I W m w) (sym z)
      (record {
        good = q.good;
        shaped = q.shaped;
        in_terms = let a = latest_le (bucket I W) (hash w) (at - 1) in omega arith;
        key = latest_key (bucket I W) (hash w) (at - 1);
        none = λ k x h p. elim (dec_lt k (at - 1)) [
          | yes y ↦ latest_skip (bucket I W) (hash w) (at - 1) k x y (ap hash p)
          | no y ↦ elim (ℕ_discrete k (at - 1)) [
            | yes c ↦ n (ap (node_at I W) (sym c) ∙ p)
            | no c ↦ q.none k (omega arith) h p
          ]
        ];
      })

  pub seeking_falls : get_or I (CHAINS + (at - 1)) 0 < at
  seeking_falls =
      let a = latest_le (bucket I W) (bucket I W (at - 1)) (at - 1) in
      let b = q.good.chains (at - 1) seeking_in in
      omega arith

pub seeking_none : (I W : List ℕ) (m : Mark) (w : List ℕ) (at : ℕ) → Seeking I W m w at → at ≡ 0 → nothing ≡ seek (made I W m) (tree_at (made I W m) w)
seeking_none I W m w at q z =
    seek_none (made I W m) _ (number_nowhere I W m q.good w q.shaped (λ k h. q.none k (omega arith) h) ∙ sym (length_trees I W m.terms))
