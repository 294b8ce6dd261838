-- Cells that are all zero, and a part of them that is lent and wiped. Assumes nothing.
use Rattle.std.specs.Prelude.{◌≡◌, List, ◌++◌, ℕ, ◌+◌, ◌-◌, ◌≤◌, ◌<◌, length, get_or, take, drop, replicate}
use Rattle.std.proofs.Common.{sym, ap, ◌∙◌, arith, length-take-le, take_at, drop_at, get_or-take}
use Rattle.std.proofs.Math.Decide.{dec_lt}
use Rattle.std.proofs.lemmas.List.{length-replicate, get_or-replicate, replicate-append-replicate}
use Rattle.std.proofs.Math.ListN.{get_or-eq_default}

pub get_d_zeros : (n i : ℕ) → ◌≡◌ {A = ℕ} (get_or (replicate n 0) i 0) 0
get_d_zeros n i = elim (dec_lt i n) [
  | yes p ↦ get_or-replicate n i 0 0 p
  | no q ↦ get_or-eq_default (replicate n 0) 0 {n = i} (let z = length-replicate {A = ℕ} n 0 in omega arith)
]

pub zeros_long : (n : ℕ) {xs : List ℕ} → xs ≡ replicate n 0 → length xs ≡ n
zeros_long n e = ap length e ∙ length-replicate n 0

-- cells that were zero, written and cleared
pub zero_again : {before : List ℕ} (out : List ℕ) {last : List ℕ} → before ≡ replicate (length before) 0 → length out ≡ length before →
    last ≡ replicate (length out) 0 → last ≡ before
zero_again out b k c = c ∙ ap (λ (n : ℕ). replicate n 0) k ∙ sym b

-- a part of zeros
module _ (memo : List ℕ) (n : ℕ) (h : n ≤ length memo) (z : memo ≡ replicate (length memo) 0) where
  pub part_long : n ≡ length (take n memo)
  part_long = sym (length-take-le n memo h)

  part_zero : (i : ℕ) → i < n → get_or (take n memo) i 0 ≡ 0
  part_zero i l = get_or-take n memo i 0 l ∙ ap (λ (r : List ℕ). get_or r i 0) z ∙ get_d_zeros (length memo) i

  pub part_none : (i : ℕ) → get_or (take n memo) i 0 ≡ 0
  part_none i = elim (dec_lt i n) [ yes p ↦ part_zero i p | no q ↦ get_or-eq_default (take n memo) 0 {n = i} (let y = part_long in omega arith) ]

  two_parts : memo ≡ replicate n 0 ++ replicate (length memo - n) 0
  two_parts =
      let e : length memo ≡ n + (length memo - n) = omega arith in
      z ∙ ap (λ (j : ℕ). replicate j 0) e ∙ sym (replicate-append-replicate n (length memo - n) 0)

  rest_zero : drop n memo ≡ replicate (length memo - n) 0
  rest_zero = ap (drop n) two_parts ∙ drop_at (replicate n 0) (replicate (length memo - n) 0) n (length-replicate {A = ℕ} n 0)

  -- what was lent and wiped is as it was
  pub part_wiped : (ys zs : List ℕ) → length ys ≡ length (take n memo) → zs ≡ replicate (length (take n (ys ++ drop n memo))) 0 → zs ++ drop n (ys ++ drop n memo) ≡ memo
  part_wiped ys zs e f =
      let l : length ys ≡ n = e ∙ sym part_long in
      let t : take n (ys ++ drop n memo) ≡ ys = take_at ys (drop n memo) n l in
      let d : drop n (ys ++ drop n memo) ≡ drop n memo = drop_at ys (drop n memo) n l in
      let a : zs ≡ replicate n 0 = f ∙ ap (λ (r : List ℕ). replicate (length r) 0) t ∙ ap (λ (j : ℕ). replicate j 0) l in
      (λ i. a i ++ (d ∙ rest_zero) i) ∙ sym two_parts

  pub part_again : (ys : List ℕ) → length ys ≡ length (take n memo) → n ≡ length (take n (ys ++ drop n memo))
  part_again ys e = sym (ap length (take_at ys (drop n memo) n (e ∙ sym part_long)) ∙ e ∙ sym part_long)
