-- What the operations on words do to the sets that the words stand for. Assumes nothing.
use mathlib.Core.Path.{◌≡◌, refl, sym, ap, ◌∙◌, subst}
use Rattle.std.proofs.Math.Bool.{or-false}
use mathlib.Core.Bool.{Bool, true, false, ◌&&◌, not, ◌||◌}
use mathlib.Core.List.{List, ◌∷◌, ◌++◌}
use Prim.Native.Nat.{ℕ, zero, suc, ◌+◌, ◌-◌, ◌*◌, ◌/◌, ◌%◌, ◌^◌, ◌≤◌, ◌<◌}
use native.Mathlib.Omega.{arith}
use native.Mathlib.Decide.{ℕ_discrete, dec_lt}
use native.Mathlib.Nat.{one-mul, pow-suc}
use native.Mathlib.Numerals.{add-one}
use lib.Dec.{eqb, lit<}
use lib.Pow.{shl_exact}
use lib.Arith.{lt-one}
use lib.ListN.{length, get_or, set, take, drop, length-drop, length-set, length-append, get_or-eq_default}
use Rattle.std.proofs.Common.{drop-cons}
use Rattle.std.specs.List.{sum_by}
use Rattle.std.proofs.lemmas.List.Sums.{sum_by_more}
use lib.Seq.{get_or-set_same, get_or-set_other, take-length}
use lib.Bits.{bit_and, bit_or, and_le_l, and_mask}
use lib.Count.{count_trailing_zeros, ones, ones_step}
use borrow.Author.Count.{below_more}
use borrow.Author.Tests.{ne_eqb, eqb-true, eqb-false}
use Rattle.rules.specs.Find.{union, minus, least, rising, rising_from}
use Rattle.rules.specs.Laws.Set.{least_none, least_here, rising_all, rising_none, rising_split, rising_from_length}
use Rattle.terms.specs.Sets.{digit, holds, plus}
use Rattle.terms.specs.Laws.Digits.{digit_or, digit_and, digit_not, digit_one, digit_zero, digit_suc, digit_of_zero, Lowest, lowest}
use Rattle.terms.specs.Laws.Sets.{eqb_iff, word_digit}

-- has ------------------------------------------------------------------------------------------------------------------------

pub has_law : (s : List ℕ) (v : ℕ) → eqb (bit_and (get_or s (v / 64) 0 / 2 ^ (v % 64)) 1) 1 ≡ holds s v
unfolding holds
has_law s v = ap (λ (n : ℕ). eqb n 1) (and_mask (get_or s (v / 64) 0 / 2 ^ (v % 64)) 1)

-- insert ---------------------------------------------------------------------------------------------------------------------

module _ (s : List ℕ) (v : ℕ) (h : v < 64 * length s) where
  abbrev bit_of : ℕ
  bit_of = (1 * 2 ^ (v % 64)) % 2 ^ 64

  abbrev inserted : ℕ
  inserted = bit_or (get_or s (v / 64) 0) bit_of

  bit : bit_of ≡ 2 ^ (v % 64)
  bit = shl_exact 1 (v % 64) 64 (lit< tt) (omega arith) ∙ one-mul (2 ^ (v % 64))

  insert_at : (w : ℕ) → holds (set s (v / 64) inserted) w ≡ plus v (holds s) w
  unfolding holds
  insert_at w = elim (ℕ_discrete (w / 64) (v / 64)) [
    | yes e ↦
        ap (λ (i : ℕ). digit (get_or (set s (v / 64) inserted) i 0) (w % 64)) e
        ∙ ap (λ (n : ℕ). digit n (w % 64)) (get_or-set_same s (v / 64) inserted 0 (omega arith))
        ∙ digit_or (get_or s (v / 64) 0) bit_of (w % 64)
        ∙ ap (λ (i : ℕ). digit (get_or s i 0) (w % 64) || digit bit_of (w % 64)) (sym e)
        ∙ ap (λ (n : ℕ). digit (get_or s (w / 64) 0) (w % 64) || digit n (w % 64)) bit
        ∙ ap (λ (b : Bool). digit (get_or s (w / 64) 0) (w % 64) || b) (digit_one (w % 64) (v % 64) ∙ eqb_iff (w % 64) (v % 64) w v (λ p. omega arith) (λ p. ap (λ (n : ℕ). n % 64) p))
    | no q ↦
        ap (λ (n : ℕ). digit n (w % 64)) (get_or-set_other s (v / 64) (w / 64) inserted 0 q)
        ∙ sym (or-false (digit (get_or s (w / 64) 0) (w % 64)))
        ∙ ap (λ (b : Bool). digit (get_or s (w / 64) 0) (w % 64) || b) (sym (ne_eqb w v (λ e. q (ap (λ (n : ℕ). n / 64) e))))
  ]

  pub insert_law : holds (set s (v / 64) inserted) ≡ plus v (holds s)
  insert_law = λ i w. insert_at w i

-- Word by word ---------------------------------------------------------------------------------------------------------------

-- in the first i words of u each bit is f of those of s and t; the others are as they were
pub record Joined (f : Bool → Bool → Bool) (s t u : List ℕ) (i : ℕ) : Type 0 where
  pub inside : i ≤ length s
  pub long : length u ≡ length s
  pub done : (k : ℕ) → k < i → (j : ℕ) → j < 64 → digit (get_or u k 0) j ≡ f (digit (get_or s k 0) j) (digit (get_or t k 0) j)
  pub left : (k : ℕ) → i ≤ k → get_or u k 0 ≡ get_or s k 0

-- the word x comes next
pub joined_more : (f : Bool → Bool → Bool) (s t u : List ℕ) (i x : ℕ) → Joined f s t u i → i < length u
    → ((j : ℕ) → j < 64 → digit x j ≡ f (digit (get_or u i 0) j) (digit (get_or t i 0) j)) → Joined f s t (set u i x) (i + 1)
joined_more f s t u i x q h d =
    let z = q.long in
    record {
      inside = omega arith;
      long = length-set u i x ∙ q.long;
      done = below_more _ i
          (λ k l j m. ap (λ (n : ℕ). digit n j) (get_or-set_other u i k x 0 (λ e. omega arith)) ∙ q.done k l j m)
          (λ j m. ap (λ (n : ℕ). digit n j) (get_or-set_same u i x 0 h) ∙ d j m ∙ ap (λ (n : ℕ). f (digit n j) (digit (get_or t i 0) j)) (q.left i (omega arith)));
      left = λ k l. get_or-set_other u i k x 0 (λ e. omega arith) ∙ q.left k (omega arith);
    }

joined_at : (f : Bool → Bool → Bool) → f false false ≡ false → (s t u : List ℕ) (i : ℕ) → Joined f s t u i → length u ≤ i → length s ≡ length t
    → (k j : ℕ) → j < 64 → digit (get_or u k 0) j ≡ f (digit (get_or s k 0) j) (digit (get_or t k 0) j)
joined_at f n s t u i q h e k j m = elim (dec_lt k i) [
  | yes l ↦ q.done k l j m
  | no o ↦
      let z = q.long in
      ap (λ (n : ℕ). digit n j) (get_or-eq_default u 0 (omega arith)) ∙ digit_of_zero j
      ∙ sym (ap (λ (n : ℕ). f (digit n j) (digit (get_or t k 0) j)) (get_or-eq_default s 0 (omega arith)) ∙ ap (λ (n : ℕ). f (digit 0 j) (digit n j)) (get_or-eq_default t 0 (omega arith))
      ∙ (λ d. f (digit_of_zero j d) (digit_of_zero j d)) ∙ n)
]

joined_all : (f : Bool → Bool → Bool) → f false false ≡ false → (s t u : List ℕ) (i : ℕ) → Joined f s t u i → length u ≤ i → length s ≡ length t
    → (v : ℕ) → holds u v ≡ f (holds s v) (holds t v)
unfolding holds
joined_all f n s t u i q h e v = joined_at f n s t u i q h e (v / 64) (v % 64) (omega arith)

-- one bit or the other
pub or_more : (s t u : List ℕ) (i : ℕ) → Joined (λ p q. p || q) s t u i → i < length u → Joined (λ p q. p || q) s t (set u i (bit_or (get_or u i 0) (get_or t i 0))) (i + 1)
or_more s t u i q h = joined_more (λ p q. p || q) s t u i (bit_or (get_or u i 0) (get_or t i 0)) q h (λ j m. digit_or (get_or u i 0) (get_or t i 0) j)

pub or_all : (s t u : List ℕ) (i : ℕ) → Joined (λ p q. p || q) s t u i → length u ≤ i → length s ≡ length t → holds u ≡ union (holds s) (holds t)
or_all s t u i q h e = λ d v. joined_all (λ p q. p || q) refl s t u i q h e v d

-- one bit and not the other
pub minus_more : (s t u : List ℕ) (i : ℕ) → Joined (λ p q. p && not q) s t u i → i < length u → get_or t i 0 < 2 ^ 64
    → Joined (λ p q. p && not q) s t (set u i (bit_and (get_or u i 0) (18446744073709551615 - get_or t i 0))) (i + 1)
minus_more s t u i q h l =
    joined_more (λ p q. p && not q) s t u i (bit_and (get_or u i 0) (18446744073709551615 - get_or t i 0)) q h
    (λ j m. digit_and (get_or u i 0) (18446744073709551615 - get_or t i 0) j ∙ ap (λ (b : Bool). digit (get_or u i 0) j && b) (digit_not j 64 (get_or t i 0) m l))

pub minus_all : (s t u : List ℕ) (i : ℕ) → Joined (λ p q. p && not q) s t u i → length u ≤ i → length s ≡ length t → holds u ≡ minus (holds s) (holds t)
minus_all s t u i q h e = λ d v. joined_all (λ p q. p && not q) refl s t u i q h e v d

-- What is in a and not in b --------------------------------------------------------------------------------------------------

-- nothing below n
abbrev pub Clear : List ℕ → List ℕ → ℕ → Type 0
Clear a b n = (w : ℕ) → w < n → minus (holds a) (holds b) w ≡ false

module _ (a b : List ℕ) (i : ℕ) (fits : get_or b i 0 < 2 ^ 64) where
  abbrev pub outside : ℕ
  outside = bit_and (get_or a i 0) (18446744073709551615 - get_or b i 0)

  outside_digit : (w : ℕ) → w / 64 ≡ i → digit outside (w % 64) ≡ minus (holds a) (holds b) w
  unfolding holds
  outside_digit w e =
      digit_and (get_or a i 0) (18446744073709551615 - get_or b i 0) (w % 64)
      ∙ ap (λ (x : Bool). digit (get_or a i 0) (w % 64) && x) (digit_not (w % 64) 64 (get_or b i 0) (omega arith) fits)
      ∙ ap (λ (k : ℕ). digit (get_or a k 0) (w % 64) && not (digit (get_or b k 0) (w % 64))) (sym e)

  pub clear_more : Clear a b (64 * i) → outside ≡ 0 → Clear a b (64 * (i + 1))
  clear_more c z w h = elim (dec_lt w (64 * i)) [
    | yes l ↦ c w l
    | no q ↦ let e : w / 64 ≡ i = omega arith in sym (outside_digit w e) ∙ ap (λ (n : ℕ). digit n (w % 64)) z ∙ digit_of_zero (w % 64)
  ]

and_lt_64 : (x y : ℕ) → x < 2 ^ 64 → bit_and x y < 2 ^ 64
and_lt_64 x y h = let l = and_le_l x y in omega arith

module _ (a b : List ℕ) (i : ℕ) (ha : get_or a i 0 < 2 ^ 64) (hb : get_or b i 0 < 2 ^ 64) (h : i < length a) (clear : Clear a b (64 * i)) (n : outside a b i hb ≡ 0 → ⊥) where
  found : Lowest 64 (outside a b i hb) (count_trailing_zeros 64 (outside a b i hb))
  found = lowest 64 (outside a b i hb) n (and_lt_64 (get_or a i 0) (18446744073709551615 - get_or b i 0) ha)

  at : (t w : ℕ) → w ≡ 64 * i + t → t < 64 → digit (outside a b i hb) t ≡ minus (holds a) (holds b) w
  at t w e l =
      let p : w / 64 ≡ i = omega arith in
      let q : w % 64 ≡ t = omega arith in
      ap (digit (outside a b i hb)) (sym q) ∙ outside_digit a b i hb w p

  pub lowest_at : suc (i * 64 + count_trailing_zeros 64 (outside a b i hb)) ≡ least (64 * length a) (minus (holds a) (holds b))
  lowest_at =
      let f = found in
      let l = f.low in
      sym (least_here (64 * length a) (minus (holds a) (holds b)) (i * 64 + count_trailing_zeros 64 (outside a b i hb)) (omega arith) (sym (at _ _ (omega arith) l) ∙ f.here) below)
    where
      below : (w : ℕ) → w < i * 64 + count_trailing_zeros 64 (outside a b i hb) → minus (holds a) (holds b) w ≡ false
      below w k = elim (dec_lt w (64 * i)) [
        | yes l ↦ clear w l
        | no q ↦ let l = found.low in sym (at (w - 64 * i) w (omega arith) (omega arith)) ∙ found.below (w - 64 * i) (omega arith)
      ]

pub lowest_none : (a b : List ℕ) (i : ℕ) → Clear a b (64 * i) → length a ≤ i → 0 ≡ least (64 * length a) (minus (holds a) (holds b))
lowest_none a b i c h = sym (least_none (64 * length a) (minus (holds a) (holds b)) (λ w l. c w (omega arith)))

-- two slices, word beside word: n words are passed, what is left of each is the rest of it
pub record Beside (a b front back : List ℕ) (n : ℕ) : Type 0 where
  pub clear : Clear a b (64 * n)
  pub first : front ≡ drop n a
  pub second : back ≡ drop n b

module _ (a : List ℕ) (n : ℕ) {x : ℕ} {front : List ℕ} (e : drop n a ≡ x ∷ front) where
  there : n < length a
  there = let h = ap (λ (l : List ℕ). length l) e in let d = length-drop n a in omega arith

  cells : get_or a n 0 ∷ drop (suc n) a ≡ x ∷ front
  cells = sym (drop-cons a n 0 there) ∙ e

  word : get_or a n 0 ≡ x
  word = ap (λ (l : List ℕ). get_or l 0 0) cells

  rest : front ≡ drop (suc n) a
  rest = sym (ap (λ (l : List ℕ). drop 1 l) cells)

module _ {a b f g f' g' : List ℕ} {n x y : ℕ} (w : Beside a b f g n) (p : f ≡ x ∷ f') (q : g ≡ y ∷ g') (fits : get_or b n 0 < 2 ^ 64) where
  words : outside a b n fits ≡ bit_and x (18446744073709551615 - y)
  words = λ i. bit_and (word a n (sym w.first ∙ p) i) (18446744073709551615 - word b n (sym w.second ∙ q) i)

  pub beside_on : {m : ℕ} → bit_and x (18446744073709551615 - y) ≡ 0 → m ≡ n + 1 → Beside a b f' g' m
  beside_on z e =
      subst (Beside a b f' g') (sym e)
      (record {
        clear = clear_more a b n fits w.clear (words ∙ z);
        first = rest a n (sym w.first ∙ p) ∙ ap (λ k. drop k a) (sym (add-one n));
        second = rest b n (sym w.second ∙ q) ∙ ap (λ k. drop k b) (sym (add-one n));
      })

  pub beside_here : {i : ℕ} → get_or a n 0 < 2 ^ 64 → (bit_and x (18446744073709551615 - y) ≡ 0 → ⊥) → i ≡ n →
      suc (i * 64 + count_trailing_zeros 64 (bit_and x (18446744073709551615 - y))) ≡ least (64 * length a) (minus (holds a) (holds b))
  beside_here ha z e =
      (λ j. suc (e j * 64 + count_trailing_zeros 64 (sym words j))) ∙ lowest_at a b n ha fits (there a n (sym w.first ∙ p)) w.clear (λ k. z (sym words ∙ k))

module _ {a b f g : List ℕ} {n : ℕ} (w : Beside a b f g n) (e : length a ≡ length b) where
  pub beside_same : length f ≡ length g
  beside_same =
      let p = ap (λ (l : List ℕ). length l) w.first in let q = ap (λ (l : List ℕ). length l) w.second in
      let d = length-drop n a in let k = length-drop n b in omega arith

  pub beside_over : length f ≡ 0 → 0 ≡ least (64 * length a) (minus (holds a) (holds b))
  beside_over h = lowest_none a b n w.clear (let p = ap (λ (l : List ℕ). length l) w.first in let d = length-drop n a in omega arith)

-- How many -------------------------------------------------------------------------------------------------------------------

-- a number's digits, its own lowest before those of its half
low_first : (k n : ℕ) → length (rising (suc k) (digit n)) ≡ n % 2 + length (rising k (digit (n / 2)))
unfolding rising rising_from
low_first k n = go (digit n 0) refl
  where
    rest : length (rising_from 1 k (digit n)) ≡ length (rising_from 0 k (digit (n / 2)))
    rest = rising_from_length 1 0 k (digit n) (digit (n / 2)) (λ v l. let x : 1 + v ≡ suc v = omega arith in let y : 0 + v ≡ v = omega arith in ap (digit n) x ∙ digit_suc n v ∙ ap (digit (n / 2)) (sym y))

    bit : (b : Bool) → digit n 0 ≡ b → n % 2 ≡ elim b [ true ↦ 1 | false ↦ 0 ]
    bit true e = let z : eqb (n % 2) 1 ≡ true = sym (digit_zero n) ∙ e in eqb-true (n % 2) 1 z
    bit false e = let z : eqb (n % 2) 1 ≡ false = sym (digit_zero n) ∙ e in let y = eqb-false (n % 2) 1 z in omega arith

    go : (b : Bool) → digit n 0 ≡ b → length {A = ℕ} (elim b [ true ↦ 0 ∷ rising_from 1 k (digit n) | false ↦ rising_from 1 k (digit n) ]) ≡ n % 2 + length (rising_from 0 k (digit (n / 2)))
    go true e = let x = bit true e in omega (arith, rest)
    go false e = let x = bit false e in omega (arith, rest)

ones_rising : (k n : ℕ) → n < 2 ^ k → ones n ≡ length (rising k (digit n))
unfolding ones
ones_rising zero n h = ap ones (lt-one h) ∙ sym (ap length (rising_none (digit n)))
ones_rising (suc k) n h =
    let p = pow-suc 2 k in
    ones_step n ∙ ap (λ (m : ℕ). n % 2 + m) (ones_rising k (n / 2) (omega arith)) ∙ sym (low_first k n)

count_none : (s : List ℕ) → 0 ≡ length (rising (64 * 0) (holds s))
count_none s = sym (ap length (rising_none (holds s)))

count_more : (s : List ℕ) (i n o : ℕ) → n ≡ length (rising (64 * i) (holds s)) → o ≡ length (rising 64 (digit (get_or s i 0))) → n + o ≡ length (rising (64 * (i + 1)) (holds s))
count_more s i n o e f =
    let z : 64 * (i + 1) ≡ 64 * i + 64 = omega arith in
    let y : length (rising_from (64 * i) 64 (holds s)) ≡ length (rising 64 (digit (get_or s i 0))) =
    rising_from_length (64 * i) 0 64 (holds s) (digit (get_or s i 0)) (λ v l. let x : 0 + v ≡ v = omega arith in word_digit s i v l ∙ ap (digit (get_or s i 0)) (sym x)) ∙ ap length (sym (rising_all 64 (digit (get_or s i 0)))) in
    let x = length-append (rising (64 * i) (holds s)) (rising_from (64 * i) 64 (holds s)) in
    let w : length (rising (64 * (i + 1)) (holds s)) ≡ length (rising (64 * i) (holds s) ++ rising_from (64 * i) 64 (holds s)) =
    ap (λ (j : ℕ). length (rising j (holds s))) z ∙ ap length (rising_split (64 * i) 64 (holds s)) in
    omega arith

count_up : (s : List ℕ) → ((i : ℕ) → get_or s i 0 < 2 ^ 64) → (k : ℕ) → k ≤ length s → sum_by ones (take k s) ≡ length (rising (64 * k) (holds s))
count_up s fits zero h = count_none s
count_up s fits (suc k) h =
    let e : k + 1 ≡ suc k = add-one k in
    ap (λ (j : ℕ). sum_by ones (take j s)) (sym e)
    ∙ sum_by_more ones s k 0 (omega arith)
    ∙ count_more s k _ _ (count_up s fits k (omega arith)) (ones_rising 64 (get_or s k 0) (fits k))
    ∙ ap (λ (j : ℕ). length (rising (64 * j) (holds s))) e

pub count_law : (s : List ℕ) → ((i : ℕ) → get_or s i 0 < 2 ^ 64) → sum_by ones s ≡ length (rising (64 * length s) (holds s))
count_law s fits = ap (sum_by ones) (sym (take-length s)) ∙ count_up s fits (length s) (omega arith)
