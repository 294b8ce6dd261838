-- Members written out by rising number. Assumes nothing.
use mathlib.Core.Path.{◌≡◌, refl, sym, ap, ◌∙◌, subst}
use mathlib.Core.Bool.{true≢false}
use mathlib.Core.List.{List, [], ◌∷◌, ◌++◌}
use Prim.Native.Nat.{ℕ, suc, ◌+◌, ◌-◌, ◌*◌, ◌/◌, ◌^◌, ◌≤◌, ◌<◌}
use native.Mathlib.Omega.{arith}
use native.Mathlib.Numerals.{add-one}
use native.Mathlib.Decide.{dec_lt}
use lib.Pow.{shr-shr, shr_lt, shr_le}
use lib.ListN.{length, get_or, set, length-set, length-append}
use lib.Seq.{sets}
use lib.Count.{count_trailing_zeros}
use Rattle.rules.specs.Find.{rising, rising_from}
use Rattle.rules.specs.Laws.Set.{rising_from_none, rising_from_here, rising_from_agree, rising_from_split}
use Rattle.rules.specs.Limits.{TERMS, TERMWORDS}
use Rattle.terms.specs.Sets.{digit, holds, shifted}
use Rattle.terms.specs.Laws.Digits.{digit_of_zero, Lowest, lowest, digit_shift, digit_high}
use Rattle.terms.specs.Laws.Sets.{word_digit}

-- what is left of a word, and what is left of the list, from `at` on; `all` was to be written from n on
pub record Laying (all out₀ out : List ℕ) (n base left at k : ℕ) : Type 0 where
  pub low : base ≤ at
  pub base_small : base + 64 ≤ TERMS
  pub high : at ≤ base + 64
  pub word : left < 2 ^ 64
  pub small : left < 2 ^ (base + 64 - at)
  pub room : k + length (rising_from at (base + 64 - at) (shifted at left)) ≤ length out
  pub long : length out ≡ length out₀
  pub count : k + length (rising_from at (base + 64 - at) (shifted at left)) ≡ n + length all
  pub cells : sets out k (rising_from at (base + 64 - at) (shifted at left)) ≡ sets out₀ n all

module _ (all out₀ out : List ℕ) (n base left at k : ℕ) (y : Laying all out₀ out n base left at k) (some : left ≡ 0 → ⊥) where
  found : Lowest 64 left (count_trailing_zeros 64 left)
  found = lowest 64 left some y.word

  pub skip_small : count_trailing_zeros 64 left < base + 64 - at
  skip_small = elim (dec_lt (count_trailing_zeros 64 left) (base + 64 - at)) [
    | yes p ↦ p
    | no q ↦ absurd (true≢false (sym found.here ∙ digit_high left (base + 64 - at) (count_trailing_zeros 64 left) y.small (omega arith)))
  ]

  abbrev rest : List ℕ
  rest = rising_from (at + count_trailing_zeros 64 left + 1) (base + 64 - (at + count_trailing_zeros 64 left + 1)) (shifted (at + count_trailing_zeros 64 left + 1) (left / 2 ^ count_trailing_zeros 64 left / 2 ^ 1))

  rest_is : rising_from at (base + 64 - at) (shifted at left) ≡ (at + count_trailing_zeros 64 left) ∷ rest
  rest_is =
      let t = count_trailing_zeros 64 left in
      let l = skip_small in
      let h = y.high in
      let e : at + t - at ≡ t = omega arith in
      let a : suc (at + t) ≡ at + t + 1 = omega arith in
      let b : at + (base + 64 - at) - suc (at + t) ≡ base + 64 - (at + t + 1) = omega arith in
      rising_from_here at (base + 64 - at) (shifted at left) (at + t) (omega arith) (omega arith) (ap (digit left) e ∙ found.here)
      (λ w p q. found.below (w - at) (omega arith))
      ∙ ap (λ (l : List ℕ). (at + t) ∷ l)
      (ap (λ (j : ℕ). rising_from (suc (at + t)) j (shifted at left)) b
      ∙ ap (λ (j : ℕ). rising_from j (base + 64 - (at + t + 1)) (shifted at left)) a
      ∙ rising_from_agree (at + t + 1) (base + 64 - (at + t + 1)) (shifted at left) (shifted (at + t + 1) (left / 2 ^ t / 2 ^ 1))
      (λ v p q.
      let f : t + 1 + (v - (at + t + 1)) ≡ v - at = omega arith in
      ap (digit left) (sym f) ∙ sym (digit_shift left (t + 1) (v - (at + t + 1))) ∙ ap (λ (m : ℕ). digit m (v - (at + t + 1))) (sym (shr-shr left t 1))))

  pub laying_fits : k < length out
  laying_fits = let a = y.room in let b = ap length rest_is in omega arith

  pub laying_on : Laying all out₀ (set out k (at + count_trailing_zeros 64 left)) n base (left / 2 ^ count_trailing_zeros 64 left / 2 ^ 1) (at + count_trailing_zeros 64 left + 1) (k + 1)
  laying_on =
      let t = count_trailing_zeros 64 left in
      let l = skip_small in
      let a = y.low in
      let b = y.room in
      let d = y.count in
      let f = ap length rest_is in
      let g = length-set out k (at + t) in
      let w : base + 64 - (at + t + 1) + (t + 1) ≡ base + 64 - at = omega arith in
      record {
        low = omega arith;
        base_small = y.base_small;
        high = omega arith;
        word = let p = shr_le left t in let q = shr_le (left / 2 ^ t) 1 in let r = y.word in omega arith;
        small = subst (λ (m : ℕ). m < 2 ^ (base + 64 - (at + t + 1))) (sym (shr-shr left t 1)) (shr_lt (base + 64 - (at + t + 1)) (t + 1) (subst (λ (j : ℕ). left < 2 ^ j) (sym w) y.small));
        room = omega arith;
        long = length-set out k (at + t) ∙ y.long;
        count = omega arith;
        cells = ap (λ (j : ℕ). sets (set out k (at + t)) j rest) (add-one k) ∙ ap (sets out k) (sym rest_is) ∙ y.cells;
      }

module _ (all out₀ out : List ℕ) (n base left at k : ℕ) (y : Laying all out₀ out n base left at k) (none : left ≡ 0) where
  nothing_left : rising_from at (base + 64 - at) (shifted at left) ≡ []
  nothing_left = rising_from_none at (base + 64 - at) (shifted at left) (λ v p q. ap (λ (m : ℕ). digit m (v - at)) none ∙ digit_of_zero (v - at))

  pub laying_done : (k ≡ n + length all) × (out ≡ sets out₀ n all)
  laying_done =
      let a = y.count in
      let b = ap length nothing_left in
      (omega arith, ap (sets out k) (sym nothing_left) ∙ y.cells)

-- The words one after the other ----------------------------------------------------------------------------------------------

sets_append : (l : List ℕ) (i : ℕ) (xs ys : List ℕ) → sets l i (xs ++ ys) ≡ sets (sets l i xs) (i + length xs) ys
sets_append l i [] ys = let e : i + 0 ≡ i = omega arith in ap (λ (j : ℕ). sets l j ys) (sym e)
sets_append l i (x ∷ xs) ys =
    let e : suc i + length xs ≡ i + suc (length xs) = omega arith in
    sets_append (set l i x) (suc i) xs ys ∙ ap (λ (j : ℕ). sets (sets (set l i x) (suc i) xs) j ys) e

pub record LayingAll (s out₀ out : List ℕ) (n i : ℕ) : Type 0 where
  pub inside : i ≤ length s
  pub few : length s ≤ TERMWORDS
  pub room : n + length (rising_from (i * 64) (64 * length s - i * 64) (holds s)) ≤ length out
  pub long : length out ≡ length out₀
  pub count : n + length (rising_from (i * 64) (64 * length s - i * 64) (holds s)) ≡ length (rising (64 * length s) (holds s))
  pub cells : sets out n (rising_from (i * 64) (64 * length s - i * 64) (holds s)) ≡ sets out₀ 0 (rising (64 * length s) (holds s))

pub all_begins : (s out : List ℕ) → length s ≤ TERMWORDS → length (rising (64 * length s) (holds s)) ≤ length out → LayingAll s out out 0 0
unfolding rising
all_begins s out h l =
    let e : 64 * length s - 0 * 64 ≡ 64 * length s = omega arith in
    let z : rising_from (0 * 64) (64 * length s - 0 * 64) (holds s) ≡ rising (64 * length s) (holds s) = ap (λ (j : ℕ). rising_from 0 j (holds s)) e in
    let b = ap length z in
    record { inside = omega arith; few = h; room = omega arith; long = refl; count = omega arith; cells = ap (sets out 0) z }

module _ (s out₀ out : List ℕ) (n i : ℕ) (y : LayingAll s out₀ out n i) (h : i < length s) where
  abbrev here : List ℕ
  here = rising_from (i * 64) 64 (shifted (i * 64) (get_or s i 0))

  abbrev later : List ℕ
  later = rising_from ((i + 1) * 64) (64 * length s - (i + 1) * 64) (holds s)

  here_later : rising_from (i * 64) (64 * length s - i * 64) (holds s) ≡ here ++ later
  here_later =
      let a : 64 * length s - i * 64 ≡ 64 + (64 * length s - (i + 1) * 64) = omega arith in
      let b : i * 64 + 64 ≡ (i + 1) * 64 = omega arith in
      ap (λ (j : ℕ). rising_from (i * 64) j (holds s)) a
      ∙ rising_from_split (i * 64) 64 (64 * length s - (i + 1) * 64) (holds s)
      ∙ ap (λ (j : ℕ). rising_from (i * 64) 64 (holds s) ++ rising_from j (64 * length s - (i + 1) * 64) (holds s)) b
      ∙ ap (λ (l : List ℕ). l ++ later) (rising_from_agree (i * 64) 64 (holds s) (shifted (i * 64) (get_or s i 0))
      (λ v p q. let d : 64 * i + (v - i * 64) ≡ v = omega arith in ap (holds s) (sym d) ∙ word_digit s i (v - i * 64) (omega arith)))

  pub all_asks : (i * 64 + 64 ≤ TERMS) × (n + length (rising_from (i * 64) 64 (shifted (i * 64) (get_or s i 0))) ≤ length out)
  all_asks =
      let a = y.room in
      let b = ap length here_later in
      let d = length-append here later in
      let e = y.few in
      (omega arith, omega arith)

  pub all_on : (out' : List ℕ) (r : ℕ) → length out' ≡ length out → (r ≡ n + length (rising_from (i * 64) 64 (shifted (i * 64) (get_or s i 0)))) × (out' ≡ sets out n (rising_from (i * 64) 64 (shifted (i * 64) (get_or s i 0))))
      → LayingAll s out₀ out' r (i + 1)
  all_on out' r e p =
      let a = y.room in
      let b = ap length here_later in
      let d = length-append here later in
      let f = y.count in
      let g = p.0 in
      record {
        inside = omega arith;
        few = y.few;
        room = omega arith;
        long = e ∙ y.long;
        count = omega arith;
        cells = ap (λ (l : List ℕ). sets l r later) p.1 ∙ ap (λ (j : ℕ). sets (sets out n here) j later) p.0 ∙ sym (sets_append out n here later) ∙ ap (sets out n) (sym here_later) ∙ y.cells;
      }

pub all_done : (s out₀ out : List ℕ) (n i : ℕ) → LayingAll s out₀ out n i → length s ≤ i → (n ≡ length (rising (64 * length s) (holds s))) × (out ≡ sets out₀ 0 (rising (64 * length s) (holds s)))
all_done s out₀ out n i y h =
    let a = y.inside in
    let e : 64 * length s - i * 64 ≡ 0 = omega arith in
    let z : rising_from (i * 64) (64 * length s - i * 64) (holds s) ≡ [] = ap (λ (j : ℕ). rising_from (i * 64) j (holds s)) e ∙ rising_from_none (i * 64) 0 (holds s) (λ v p q. absurd (omega arith)) in
    let b = ap length z in
    let d = y.count in
    (omega arith, ap (sets out n) (sym z) ∙ y.cells)
