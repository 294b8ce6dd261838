-- Words of 64 bits as sets. Assumes nothing.
use Rattle.std.specs.Prelude.{◌≡◌, refl, Bool, ◌||◌, List, [], ◌∷◌, ℕ, ◌+◌, ◌*◌, ◌/◌, ◌%◌, ◌<◌, zero, suc, ◌≤◌, ◌^◌, eqb, get_or, replicate, length}
use Rattle.std.proofs.Common.{sym, ◌∙◌, arith, ext_get_or, eq-eqb, ne_eqb}
use Rattle.std.proofs.Math.Path.{ap}
use Rattle.std.proofs.Math.Bool.{true, false, or_assoc, or_comm}
use Rattle.std.proofs.Math.Decide.{ℕ_discrete, dec_lt}
use Rattle.std.proofs.Math.ListN.{get_or-eq_default}
use Rattle.rules.specs.Find.{empty, Set, has, union, rising}
use Rattle.rules.specs.Limits.{RULES, RULEWORDS}
use Rattle.rules.specs.StateTables.{bit_word}
use Rattle.rules.specs.Laws.Rising.{RisesFrom, Rises, rising_rises}
use Rattle.rules.specs.Laws.Members.{has_rising_all}
use Rattle.terms.specs.Sets.{digit, holds, plus}
use Rattle.terms.specs.Laws.Digits.{digit_of_zero, digits_one, digits_small, digit_add}
use Rattle.terms.specs.Laws.Zeros.{get_d_zeros}

pub eqb_iff : (a b c d : ℕ) → (a ≡ b → c ≡ d) → (c ≡ d → a ≡ b) → eqb a b ≡ eqb c d
eqb_iff a b c d f g = elim (ℕ_discrete a b) [ yes p ↦ eq-eqb a b p ∙ sym (eq-eqb c d (f p)) | no q ↦ ne_eqb a b q ∙ sym (ne_eqb c d (λ e. q (g e))) ]

-- the digits of word i are the members from 64 * i on
pub word_digit : (s : List ℕ) (i v : ℕ) → v < 64 → holds s (64 * i + v) ≡ digit (get_or s i 0) v
unfolding holds
word_digit s i v l =
    let p : (64 * i + v) / 64 ≡ i = omega arith in
    let q : (64 * i + v) % 64 ≡ v = omega arith in
    ap (λ (j : ℕ). digit (get_or s j 0) ((64 * i + v) % 64)) p ∙ ap (digit (get_or s i 0)) q

pub holds_zero : (n : ℕ) → holds (replicate n 0) ≡ empty
unfolding holds
holds_zero n = λ i v. (ap (λ (w : ℕ). digit w (v % 64)) (get_d_zeros n (v / 64)) ∙ digit_of_zero (v % 64)) i

-- The set determines the words -----------------------------------------------------------------------------------------------------------

pub holds_one : (s t : List ℕ) → length s ≡ length t → ((i : ℕ) → get_or s i 0 < 2 ^ 64) → ((i : ℕ) → get_or t i 0 < 2 ^ 64) → holds s ≡ holds t → s ≡ t
holds_one s t l a b e =
    ext_get_or 0 s t l
    (λ i h. digits_one 64 (get_or s i 0) (get_or t i 0) (a i) (b i) (λ j k. sym (word_digit s i j k) ∙ ap (λ (c : Set). c (64 * i + j)) e ∙ word_digit t i j k))

-- One member more --------------------------------------------------------------------------------------------------------------------------

plus_or : (p q : Bool) → elim p [ true ↦ true | false ↦ q ] ≡ q || p
plus_or true true = refl
plus_or true false = refl
plus_or false true = refl
plus_or false false = refl

pub plus_has : (x : ℕ) (xs : List ℕ) → has (x ∷ xs) ≡ plus x (has xs)
unfolding has
plus_has x xs = λ i v. plus_or (eqb v x) (has xs v) i

-- the last of three goes before the second
pub or_last : (p q r : Bool) → (p || q) || r ≡ p || (r || q)
or_last p q r = or_assoc p q r ∙ ap (λ (b : Bool). p || b) (or_comm q r)

pub plus_union : (v : ℕ) (a b : Set) → union a (plus v b) ≡ plus v (union a b)
plus_union v a b = λ i w. sym (or_assoc (a w) (b w) (eqb w v)) i

-- The words of a list that rises -----------------------------------------------------------------------------------------------------------

pub has_below : (xs : List ℕ) (k v : ℕ) → RisesFrom k xs → v < k → has xs v ≡ false
unfolding RisesFrom has
has_below [] k v h l = refl
has_below (x ∷ xs) k v h l =
    let p = h.0 in
    ap (λ (b : Bool). elim b [ true ↦ true | false ↦ has xs v ]) (ne_eqb v x (λ e. omega arith)) ∙ has_below xs (suc x) v h.1 (omega arith)

-- the number at the front, in its word or in another
module _ (x : ℕ) (xs : List ℕ) (k : ℕ) where
  word_here : x / 64 ≡ k → bit_word (x ∷ xs) k ≡ 2 ^ (x % 64) + bit_word xs k
  unfolding bit_word
  word_here e = ap (λ (b : Bool). elim b [ true ↦ 2 ^ (x % 64) + bit_word xs k | false ↦ bit_word xs k ]) (eq-eqb (x / 64) k e)

  word_there : (x / 64 ≡ k → ⊥) → bit_word (x ∷ xs) k ≡ bit_word xs k
  unfolding bit_word
  word_there n = ap (λ (b : Bool). elim b [ true ↦ 2 ^ (x % 64) + bit_word xs k | false ↦ bit_word xs k ]) (ne_eqb (x / 64) k n)

  -- the bit that comes in was not set
  bit_free : RisesFrom (suc x) xs → x / 64 ≡ k → digit (bit_word xs k) (x % 64) ≡ has xs (64 * k + x % 64) → digit (bit_word xs k) (x % 64) ≡ false
  bit_free h e ih = let z : 64 * k + x % 64 ≡ x = omega arith in ih ∙ ap (has xs) z ∙ has_below xs (suc x) x h (omega arith)

-- bit j of word k is the member 64 * k + j
pub bit_digit : (xs : List ℕ) (lo : ℕ) → RisesFrom lo xs → (k j : ℕ) → j < 64 → digit (bit_word xs k) j ≡ has xs (64 * k + j)
unfolding RisesFrom bit_word has
bit_digit [] lo h k j l = digit_of_zero j
bit_digit (x ∷ xs) lo h k j l =
    let ih = bit_digit xs (suc x) h.1 k j l in
    elim (ℕ_discrete (x / 64) k) [
      | yes e ↦
          ap (λ (n : ℕ). digit n j) (word_here x xs k e)
          ∙ digit_add (x % 64) (bit_word xs k) j (bit_free x xs k h.1 e (bit_digit xs (suc x) h.1 k (x % 64) (omega arith)))
          ∙ (λ i. eqb_iff j (x % 64) (64 * k + j) x (λ p. omega arith) (λ p. omega arith) i || ih i)
          ∙ or_elim (eqb (64 * k + j) x) (has xs (64 * k + j))
      | no n ↦
          ap (λ (m : ℕ). digit m j) (word_there x xs k n) ∙ ih
          ∙ ap (λ (b : Bool). elim b [ true ↦ true | false ↦ has xs (64 * k + j) ]) (sym (ne_eqb (64 * k + j) x (λ p. n (omega arith))))
    ]
  where
    or_elim : (p q : Bool) → p || q ≡ elim p [ true ↦ true | false ↦ q ]
    or_elim true q = refl
    or_elim false q = refl

bit_high : (xs : List ℕ) (lo : ℕ) → RisesFrom lo xs → (k j : ℕ) → 64 ≤ j → digit (bit_word xs k) j ≡ false
unfolding RisesFrom bit_word
bit_high [] lo h k j l = digit_of_zero j
bit_high (x ∷ xs) lo h k j l =
    let ih = bit_high xs (suc x) h.1 k j l in
    elim (ℕ_discrete (x / 64) k) [
      | yes e ↦
          ap (λ (n : ℕ). digit n j) (word_here x xs k e)
          ∙ digit_add (x % 64) (bit_word xs k) j (bit_free x xs k h.1 e (bit_digit xs (suc x) h.1 k (x % 64) (omega arith)))
          ∙ (λ i. ne_eqb j (x % 64) (λ p. omega arith) i || ih i)
      | no n ↦ ap (λ (m : ℕ). digit m j) (word_there x xs k n) ∙ ih
    ]

pub bit_small : (xs : List ℕ) → Rises xs → (k : ℕ) → bit_word xs k < 2 ^ 64
bit_small xs h k = digits_small 64 (bit_word xs k) (λ j l. bit_high xs 0 h k j l)

-- a word of a set, from the members written out
pub word_bits : (w : List ℕ) (n k : ℕ) → ((v : ℕ) → holds w v ≡ true → v < n) → get_or w k 0 < 2 ^ 64 → get_or w k 0 ≡ bit_word (rising n (holds w)) k
word_bits w n k h l =
    digits_one 64 (get_or w k 0) (bit_word (rising n (holds w)) k) l (bit_small (rising n (holds w)) (rising_rises n (holds w)) k)
    (λ j p. sym (word_digit w k j p) ∙ ap (λ (a : Set). a (64 * k + j)) (sym (has_rising_all n (holds w) h)) ∙ sym (bit_digit (rising n (holds w)) 0 (rising_rises n (holds w)) k j p))

-- Four words: a footing ----------------------------------------------------------------------------------------------------------------------

-- as the layout has them
abbrev pub footing_words : List ℕ → List ℕ
footing_words xs = bit_word xs 0 ∷ bit_word xs 1 ∷ bit_word xs 2 ∷ bit_word xs 3 ∷ []

four : (w : List ℕ) → length w ≡ RULEWORDS → w ≡ get_or w 0 0 ∷ get_or w 1 0 ∷ get_or w 2 0 ∷ get_or w 3 0 ∷ []
four [] e = absurd (omega arith)
four (a ∷ []) e = absurd (omega arith)
four (a ∷ b ∷ []) e = absurd (omega arith)
four (a ∷ b ∷ c ∷ []) e = absurd (omega arith)
four (a ∷ b ∷ c ∷ d ∷ []) e = refl
four (a ∷ b ∷ c ∷ d ∷ f ∷ fs) e = absurd (omega arith)

-- the words of a set of rules, from the set
pub footing_words_lem : (w : List ℕ) (n : ℕ) → length w ≡ RULEWORDS → ((i : ℕ) → get_or w i 0 < 2 ^ 64) → ((v : ℕ) → holds w v ≡ true → v < n) → w ≡ footing_words (rising n (holds w))
footing_words_lem w n l b h =
    four w l
    ∙ (λ i. word_bits w n 0 h (b 0) i ∷ word_bits w n 1 h (b 1) i ∷ word_bits w n 2 h (b 2) i ∷ word_bits w n 3 h (b 3) i ∷ [])

footing_at_lem : (xs : List ℕ) (i : ℕ) → i < RULEWORDS → get_or (footing_words xs) i 0 ≡ bit_word xs i
footing_at_lem xs zero l = refl
footing_at_lem xs (suc zero) l = refl
footing_at_lem xs (suc (suc zero)) l = refl
footing_at_lem xs (suc (suc (suc zero))) l = refl
footing_at_lem xs (suc (suc (suc (suc i)))) l = absurd (omega arith)

-- and the set, from the words
pub footing_holds : (xs : List ℕ) → Rises xs → ((v : ℕ) → has xs v ≡ true → v < RULES) → holds (footing_words xs) ≡ has xs
unfolding holds
footing_holds xs r h = λ i v. at v i
  where
    not-true : (b : Bool) → (b ≡ true → ⊥) → false ≡ b
    not-true true n = absurd (n refl)
    not-true false n = refl

    at : (v : ℕ) → holds (footing_words xs) v ≡ has xs v
    at v = elim (dec_lt v RULES) [
      | yes l ↦
          let z : 64 * (v / 64) + v % 64 ≡ v = omega arith in
          ap (λ (n : ℕ). digit n (v % 64)) (footing_at_lem xs (v / 64) (omega arith)) ∙ bit_digit xs 0 r (v / 64) (v % 64) (omega arith) ∙ ap (has xs) z
      | no q ↦
          ap (λ (n : ℕ). digit n (v % 64)) (get_or-eq_default (footing_words xs) 0 {n = v / 64} (omega arith)) ∙ digit_of_zero (v % 64)
          ∙ not-true (has xs v) (λ e. q (h v e))
    ]
