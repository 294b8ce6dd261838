-- Buckets, and the chain of the terms of one bucket, by falling number. Assumes nothing.
use Rattle.std.specs.Prelude.{◌≡◌, refl, Bool, true, false, List, [], ◌∷◌, ℕ, zero, suc, ◌+◌, ◌-◌, ◌*◌, ◌%◌, ◌≤◌, ◌<◌, eqb}
use Rattle.std.proofs.Common.{ap, ◌∙◌, arith, eq-eqb, ne_eqb, eqb-true}
use Rattle.std.proofs.Math.Decide.{dec_lt}
use Rattle.std.proofs.lemmas.Bool.{eqb-false}
use Rattle.terms.specs.Table.{hash_from, hash, latest, BUCKETS}

hash_from_small : (h : ℕ) (w : List ℕ) → h < 4294967296 → hash_from h w < BUCKETS
unfolding hash_from
hash_from_small h [] l = omega arith
hash_from_small h (x ∷ w) l = hash_from_small (((h + x) * 2015346805) % 4294967296) w (omega arith)

pub hash_small : (w : List ℕ) → hash w < BUCKETS
hash_small w = hash_from_small 0 w (omega arith)

pub latest_le : (key : ℕ → ℕ) (b n : ℕ) → latest key b n ≤ n
unfolding latest
latest_le key b zero = omega arith
latest_le key b (suc n) = go (latest_le key b n) (eqb (key n) b)
  where
    go : latest key b n ≤ n → (c : Bool) → elim c [ true ↦ suc n | false ↦ latest key b n ] ≤ suc n
    go ih true = omega arith
    go ih false = omega arith

pub latest_key : (key : ℕ → ℕ) (b n : ℕ) → 0 < latest key b n → key (latest key b n - 1) ≡ b
unfolding latest
latest_key key b zero l = absurd (omega arith)
latest_key key b (suc n) l = go (latest_key key b n) (eqb (key n) b) refl l
  where
    go : (0 < latest key b n → key (latest key b n - 1) ≡ b) → (c : Bool) → eqb (key n) b ≡ c
        → 0 < elim c [ true ↦ suc n | false ↦ latest key b n ] → key (elim c [ true ↦ suc n | false ↦ latest key b n ] - 1) ≡ b
    go ih true e l = let z : suc n - 1 ≡ n = omega arith in ap key z ∙ eqb-true (key n) b e
    go ih false e l = ih l

pub latest_skip : (key : ℕ → ℕ) (b n k : ℕ) → latest key b n ≤ k → k < n → key k ≡ b → ⊥
unfolding latest
latest_skip key b zero k l m e = absurd (omega arith)
latest_skip key b (suc n) k l m e = go (latest_skip key b n k) (eqb (key n) b) refl l
  where
    go : (latest key b n ≤ k → k < n → key k ≡ b → ⊥) → (c : Bool) → eqb (key n) b ≡ c → elim c [ true ↦ suc n | false ↦ latest key b n ] ≤ k → ⊥
    go ih true q l = omega arith
    go ih false q l = elim (dec_lt k n) [
      | yes p ↦ ih l p e
      | no p ↦ let z : n ≡ k = omega arith in eqb-false (key n) b q (ap key z ∙ e)
    ]

pub latest_agree : (key yek : ℕ → ℕ) (b n : ℕ) → ((i : ℕ) → i < n → key i ≡ yek i) → latest key b n ≡ latest yek b n
unfolding latest
latest_agree key yek b zero f = refl
latest_agree key yek b (suc n) f =
    ap (λ (k : ℕ). elim (eqb k b) [ true ↦ suc n | false ↦ latest key b n ]) (f n (omega arith))
    ∙ ap (λ (r : ℕ). elim (eqb (yek n) b) [ true ↦ suc n | false ↦ r ]) (latest_agree key yek b n (λ i l. f i (omega arith)))

pub latest_here : (key : ℕ → ℕ) (b n : ℕ) → key n ≡ b → latest key b (suc n) ≡ suc n
unfolding latest
latest_here key b n e = ap (λ (c : Bool). elim c [ true ↦ suc n | false ↦ latest key b n ]) (eq-eqb (key n) b e)

pub latest_other : (key : ℕ → ℕ) (b n : ℕ) → (key n ≡ b → ⊥) → latest key b (suc n) ≡ latest key b n
unfolding latest
latest_other key b n e = ap (λ (c : Bool). elim c [ true ↦ suc n | false ↦ latest key b n ]) (ne_eqb (key n) b e)
