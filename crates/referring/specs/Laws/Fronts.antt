-- Scratch of zero cells, of which a front is lent and cleared when it is back: then it is as it was. Assumes nothing.
use Rattle.std.specs.Prelude.{◌≡◌, List, ◌++◌, ℕ, ◌+◌, ◌-◌, ◌≤◌, length, take, drop, replicate}
use Rattle.std.proofs.Common.{sym, ap, ◌∙◌, arith, take-append-drop, length-take-le, take_at, drop_at}
use Rattle.std.proofs.lemmas.List.{length-replicate, replicate-append-replicate}
use Rattle.std.proofs.Math.Seq.{length_front}
use Rattle.terms.specs.Laws.Zeros.{zeros_long}

-- the first k of n zeros
take_zeros : (k n : ℕ) → k ≤ n → take k (replicate n 0) ≡ replicate {A = ℕ} k 0
take_zeros k n h =
    let e : n ≡ k + (n - k) = omega arith in
    ap (λ (j : ℕ). take k (replicate j 0)) e
    ∙ ap (take k) (sym (replicate-append-replicate k (n - k) 0))
    ∙ take_at (replicate k 0) (replicate (n - k) 0) k (length-replicate k 0)

-- the first k cells are lent
module _ (n : ℕ) {ids : List ℕ} (z : ids ≡ replicate n 0) (k : ℕ) (h : k ≤ n) where
  pub front_room : k ≤ length ids
  front_room = omega (arith, zeros_long n z, h)

  pub front_count : k ≡ length (take k ids)
  front_count = sym (length-take-le k ids front_room)

  pub front_zero : take k ids ≡ replicate k 0
  front_zero = ap (take k) z ∙ take_zeros k n h

  -- they are back as they were
  pub front_same : {new : List ℕ} → new ≡ take k ids → new ++ drop k ids ≡ ids
  front_same e = ap (λ (r : List ℕ). r ++ drop k ids) e ∙ take-append-drop k ids

  -- they are back with other content
  module _ (new : List ℕ) (long : length new ≡ length (take k ids)) where
    new_long : length new ≡ k
    new_long = long ∙ sym front_count

    pub back_room : k ≤ length (new ++ drop k ids)
    back_room = omega (arith, length_front ids new k long, front_room)

    pub back_count : k ≡ length (take k (new ++ drop k ids))
    back_count = sym (ap length (take_at new (drop k ids) k new_long) ∙ new_long)

    -- and are cleared
    pub front_cleared : (last : List ℕ) → last ≡ replicate (length (take k (new ++ drop k ids))) 0 → last ++ drop k (new ++ drop k ids) ≡ ids
    front_cleared last e =
        ap (λ (r : List ℕ). last ++ r) (drop_at new (drop k ids) k new_long)
        ∙ front_same (e ∙ ap (λ (j : ℕ). replicate j 0) (sym back_count) ∙ sym front_zero)
