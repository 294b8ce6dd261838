-- Footings: the four words of a fact's row stand for its set of rules, and the words of a set are the row's. Assumes nothing.
use Rattle.std.specs.Prelude.{◌≡◌, refl, ℕ, zero, suc, ◌+◌, ◌-◌, ◌*◌, ◌/◌, ◌%◌, ◌^◌, ◌<◌, ◌≤◌, Bool, true, false, List, [], ◌∷◌, ◌++◌, eqb, length, get_or}
use Rattle.std.proofs.Math.Path.{sym, ap}
use Rattle.std.proofs.Common.{◌∙◌, subst, pow-suc, add-mul, mul_assoc, mul_comm, mul-one, one-mul, zero-mul, eq-eqb, ne_eqb}
use native.Mathlib.Omega.{arith}
use Rattle.std.proofs.Math.Decide.{dec_lt}
use Rattle.std.proofs.Math.ListN.{get_or-eq_default}
use Rattle.std.proofs.Math.Seq.{ext_get_or}
use Rattle.rules.specs.Limits.{RULES}
use Rattle.rules.specs.Find.{Set, has, rising, rising_from}
use Rattle.rules.specs.State.{Fact}
use Rattle.rules.specs.StateTables.{bit, bit_word}
use Rattle.rules.specs.Laws.Theory.{All, all_map}
use Rattle.rules.specs.Laws.Set.{rising_split, rising_from_split, rising_all}
use Rattle.rules.specs.Laws.Shape.{Footed}
use Rattle.terms.specs.Sets.{digit, holds}
use Rattle.terms.specs.Laws.Digits.{digit_zero, digit_suc, digit_of_zero}
use Rattle.state.specs.RowCells.{footing_row, footing_width}
use Rattle.state.specs.Members.{has_above, rises_rising}

-- Digits ---------------------------------------------------------------------------------------------------------------------------

-- the number whose digits are m members of a set, from k on
unfoldable value : Set → ℕ → ℕ → ℕ
value a k zero = 0
value a k (suc m) = bit (a k) + 2 * value a (suc k) m

bit_small : (b : Bool) → bit b < 2
unfolding bit
bit_small true = omega arith
bit_small false = omega arith

bit_is : (b : Bool) → eqb (bit b) 1 ≡ b
unfolding bit
bit_is true = refl
bit_is false = refl

value_digit : (a : Set) (k m u : ℕ) → u < m → digit (value a k m) u ≡ a (k + u)
unfolding value
value_digit a k zero u l = absurd (omega arith)
value_digit a k (suc m) zero l =
    let s = bit_small (a k) in
    let e : (bit (a k) + 2 * value a (suc k) m) % 2 ≡ bit (a k) = omega arith in
    digit_zero (bit (a k) + 2 * value a (suc k) m) ∙ ap (λ n. eqb n 1) e ∙ bit_is (a k) ∙ ap a (let z : k ≡ k + 0 = omega arith in z)
value_digit a k (suc m) (suc u) l =
    let s = bit_small (a k) in
    let e : (bit (a k) + 2 * value a (suc k) m) / 2 ≡ value a (suc k) m = omega arith in
    digit_suc (bit (a k) + 2 * value a (suc k) m) u ∙ ap (λ n. digit n u) e ∙ value_digit a (suc k) m u (omega arith)
    ∙ ap a (let z : suc k + u ≡ k + suc u = omega arith in z)

value_is : (a : Set) (k m x : ℕ) → x < 2 ^ m → ((u : ℕ) → u < m → a (k + u) ≡ digit x u) → value a k m ≡ x
unfolding value bit
value_is a k zero x l f = omega arith
value_is a k (suc m) x l f =
    let p = pow-suc 2 m in
    let z : k + 0 ≡ k = omega arith in
    let b : bit (a k) ≡ x % 2 = ap bit (ap a (sym z) ∙ f 0 (omega arith) ∙ digit_zero x) ∙ low_bit (x % 2) (omega arith) in
    let t = value_is a (suc k) m (x / 2) (omega arith)
    (λ u h. ap a (let z : suc k + u ≡ k + suc u = omega arith in z) ∙ f (suc u) (omega arith) ∙ digit_suc x u) in
    omega arith
  where
    low_bit : (r : ℕ) → r < 2 → bit (eqb r 1) ≡ r
    low_bit zero h = refl
    low_bit (suc zero) h = refl
    low_bit (suc (suc r)) h = absurd (omega arith)

-- Words ----------------------------------------------------------------------------------------------------------------------------

word_append : (xs ys : List ℕ) (i : ℕ) → bit_word (xs ++ ys) i ≡ bit_word xs i + bit_word ys i
unfolding bit_word
word_append [] ys i = omega arith
word_append (x ∷ xs) ys i = go (eqb (x / 64) i) (word_append xs ys i)
  where
    go : (b : Bool) → bit_word (xs ++ ys) i ≡ bit_word xs i + bit_word ys i →
        elim b [ true ↦ 2 ^ (x % 64) + bit_word (xs ++ ys) i | false ↦ bit_word (xs ++ ys) i ]
        ≡ elim b [ true ↦ 2 ^ (x % 64) + bit_word xs i | false ↦ bit_word xs i ] + bit_word ys i
    go true e = omega arith
    go false e = e

-- members of other words add nothing
word_other : (k m : ℕ) (a : Set) (i : ℕ) → ((v : ℕ) → k ≤ v → v < k + m → v / 64 ≡ i → ⊥) → bit_word (rising_from k m a) i ≡ 0
unfolding rising_from bit_word
word_other k zero a i f = refl
word_other k (suc m) a i f = go (a k) (word_other (suc k) m a i (λ v l h. f v (omega arith) (omega arith)))
  where
    go : (b : Bool) → bit_word (rising_from (suc k) m a) i ≡ 0 →
        bit_word (elim b [ true ↦ k ∷ rising_from (suc k) m a | false ↦ rising_from (suc k) m a ]) i ≡ 0
    go true e = rw (bit_word, ne_eqb (k / 64) i (f k (omega arith) (omega arith))) e
    go false e = e

-- the members of word i from its digit j on
word_here : (a : Set) (i m j : ℕ) → j + m ≤ 64 → bit_word (rising_from (64 * i + j) m a) i ≡ value a (64 * i + j) m * 2 ^ j
unfolding rising_from bit_word value bit
word_here a i zero j l = sym (zero-mul (2 ^ j))
word_here a i (suc m) j l =
    let z : 64 * i + suc j ≡ suc (64 * i + j) = omega arith in
    go (a (64 * i + j)) (subst (λ k. bit_word (rising_from k m a) i ≡ value a k m * 2 ^ suc j) z (word_here a i m (suc j) (omega arith)))
  where
    twice : (b x p : ℕ) → b * p + x * (p * 2) ≡ (b + 2 * x) * p
    twice b x p =
        let e = add-mul b (2 * x) p in
        let f : 2 * x * p ≡ x * (p * 2) = ap (λ n. n * p) (mul_comm 2 x) ∙ mul_assoc x 2 p ∙ ap (λ n. x * n) (mul_comm 2 p) in
        omega arith

    go : (b : Bool) → bit_word (rising_from (suc (64 * i + j)) m a) i ≡ value a (suc (64 * i + j)) m * 2 ^ suc j →
        bit_word (elim b [ true ↦ (64 * i + j) ∷ rising_from (suc (64 * i + j)) m a | false ↦ rising_from (suc (64 * i + j)) m a ]) i
        ≡ (bit b + 2 * value a (suc (64 * i + j)) m) * 2 ^ j
    go true e =
        let d : (64 * i + j) / 64 ≡ i = omega arith in
        let r : (64 * i + j) % 64 ≡ j = omega arith in
        let x = value a (suc (64 * i + j)) m in
        let h : bit_word (rising_from (suc (64 * i + j)) m a) i ≡ x * (2 ^ j * 2) = e ∙ ap (λ n. x * n) (pow-suc 2 j) in
        let o = one-mul (2 ^ j) in
        let s : 2 ^ j + bit_word (rising_from (suc (64 * i + j)) m a) i ≡ 1 * 2 ^ j + x * (2 ^ j * 2) = omega arith in
        rw (bit_word, eq-eqb ((64 * i + j) / 64) i d, r) (s ∙ twice 1 x (2 ^ j))
    go false e =
        let x = value a (suc (64 * i + j)) m in
        let o = zero-mul (2 ^ j) in
        let s : x * (2 ^ j * 2) ≡ 0 * 2 ^ j + x * (2 ^ j * 2) = omega arith in
        e ∙ ap (λ n. x * n) (pow-suc 2 j) ∙ s ∙ twice 0 x (2 ^ j)

-- word i of a set that is written out to n
word_of : (a : Set) (n i : ℕ) → 64 * i + 64 ≤ n → bit_word (rising n a) i ≡ value a (64 * i) 64
word_of a n i l =
    let r = n - (64 * i + 64) in
    let e : n ≡ 64 * i + (64 + r) = omega arith in
    let z : 64 * i + 0 ≡ 64 * i = omega arith in
    let before = ap (λ l. bit_word l i) (rising_all (64 * i) a) ∙ word_other 0 (64 * i) a i (λ v h k q. omega arith) in
    let behind = word_other (64 * i + 64) r a i (λ v h k q. omega arith) in
    let here : bit_word (rising_from (64 * i) 64 a) i ≡ value a (64 * i) 64 =
    subst (λ k. bit_word (rising_from k 64 a) i ≡ value a k 64 * 2 ^ 0) z (word_here a i 64 0 (omega arith)) ∙ mul-one (value a (64 * i) 64) in
    ap (λ k. bit_word (rising k a) i) e
    ∙ ap (λ l. bit_word l i) (rising_split (64 * i) (64 + r) a ∙ ap (λ l. rising (64 * i) a ++ l) (rising_from_split (64 * i) 64 r a))
    ∙ word_append (rising (64 * i) a) (rising_from (64 * i) 64 a ++ rising_from (64 * i + 64) r a) i
    ∙ ap (λ n. bit_word (rising (64 * i) a) i + n) (word_append (rising_from (64 * i) 64 a) (rising_from (64 * i + 64) r a) i)
    ∙ (let s : bit_word (rising (64 * i) a) i + (bit_word (rising_from (64 * i) 64 a) i + bit_word (rising_from (64 * i + 64) r a) i)
    ≡ value a (64 * i) 64 = omega arith in s)

-- Rows -----------------------------------------------------------------------------------------------------------------------------

row_word : (f : Fact) (i : ℕ) → i < 4 → get_or (footing_row f) i 0 ≡ bit_word f.footing i
unfolding footing_row
row_word f zero l = refl
row_word f (suc zero) l = refl
row_word f (suc (suc zero)) l = refl
row_word f (suc (suc (suc zero))) l = refl
row_word f (suc (suc (suc (suc i)))) l = absurd (omega arith)

module _ {n : ℕ} (f : Fact) (few : n ≤ RULES) (h : Footed n f.footing) where
  pub footing_below : All (λ r. r < RULES) f.footing
  footing_below = all_map (λ r l. omega arith) h.rules

  written : rising RULES (has f.footing) ≡ f.footing
  written = rises_rising RULES f.footing h.rises footing_below

  word_is : (i : ℕ) → i < 4 → bit_word f.footing i ≡ value (has f.footing) (64 * i) 64
  word_is i l = ap (λ l. bit_word l i) (sym written) ∙ word_of (has f.footing) RULES i (omega arith)

  -- the row's set is the footing
  pub footing_holds : holds (footing_row f) ≡ has f.footing
  unfolding holds
  footing_holds = λ i v. at v i
    where
      at : (v : ℕ) → digit (get_or (footing_row f) (v / 64) 0) (v % 64) ≡ has f.footing v
      at v = elim (dec_lt v RULES) [
        | yes p ↦
            let l : v / 64 < 4 = omega arith in
            let z : 64 * (v / 64) + v % 64 ≡ v = omega arith in
            ap (λ w. digit w (v % 64)) (row_word f (v / 64) l ∙ word_is (v / 64) l)
            ∙ value_digit (has f.footing) (64 * (v / 64)) 64 (v % 64) (omega arith) ∙ ap (has f.footing) z
        | no q ↦
            ap (λ w. digit w (v % 64)) (get_or-eq_default (footing_row f) 0 {n = v / 64} (let w = footing_width f in omega arith)) ∙ digit_of_zero (v % 64)
            ∙ sym (has_above f.footing RULES v footing_below (omega arith))
      ]

  -- four words of 64 bits with that set are the row
  pub footing_row_lem : (words : List ℕ) → length words ≡ 4 → ((i : ℕ) → get_or words i 0 < 2 ^ 64) → holds words ≡ has f.footing → words ≡ footing_row f
  unfolding holds
  footing_row_lem words e b q =
      let w = footing_width f in
      ext_get_or 0 words (footing_row f) (omega arith) (λ i l. sym (row_word f i (omega arith) ∙ word_is i (omega arith)
      ∙ value_is (has f.footing) (64 * i) 64 (get_or words i 0) (b i) (λ u k. sym (digit_at i u k))))
    where
      digit_at : (i u : ℕ) → u < 64 → digit (get_or words i 0) u ≡ has f.footing (64 * i + u)
      digit_at i u k =
          let p : (64 * i + u) / 64 ≡ i = omega arith in
          let r : (64 * i + u) % 64 ≡ u = omega arith in
          sym (ap (λ (j : ℕ). digit (get_or words j 0) ((64 * i + u) % 64)) p ∙ ap (digit (get_or words i 0)) r) ∙ (λ j. q j (64 * i + u))
