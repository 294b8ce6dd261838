-- The binary digits of a number, and what the bit operations do to them. Assumes nothing.
use Rattle.std.specs.Prelude.{◌≡◌, refl, true, false, ◌&&◌, not, ◌||◌, Bool, ◌⊎◌, ℕ, zero, suc, ◌+◌, ◌-◌, ◌/◌, ◌%◌, ◌^◌, ◌≤◌, ◌<◌, min, max, ◌*◌, eqb}
use Rattle.std.proofs.Common.{sym, ap, ◌∙◌, subst, true≢false, inl, inr, ⊎_elim, arith, mod-lt, pow-suc, div-one, not-suc-le-zero, zero-lt-suc, div-add-mod', zero-mul, one-add, shr-shr, shr_lt}
use Rattle.std.proofs.Math.Dec.{eqb-zero-suc, eqb-suc-zero, eqb-suc-suc}
use Rattle.std.proofs.Math.Arith.{digits_mod, lt-one}
use Rattle.std.specs.Int.Bits.{bit_and, bit_or, or_step, and_step}
use Rattle.std.proofs.lemmas.Nat.{or_shr, and_shr}
use Rattle.std.specs.Int.Count.{count_trailing_zeros}
use Rattle.terms.specs.Sets.{digit}

two : (n : ℕ) → (n % 2 ≡ 0) ⊎ (n % 2 ≡ 1)
two n = go (n % 2) (mod-lt n (zero-lt-suc 1))
  where
    go : (m : ℕ) → m < 2 → (m ≡ 0) ⊎ (m ≡ 1)
    go zero h = inl refl
    go (suc zero) h = inr refl
    go (suc (suc m)) h = absurd (omega arith)

max_two : (a b : ℕ) → a < 2 → b < 2 → (max a b < 2) × (eqb (max a b) 1 ≡ eqb a 1 || eqb b 1)
max_two zero zero h k = (omega arith, refl)
max_two zero (suc zero) h k = (omega arith, refl)
max_two zero (suc (suc b)) h k = absurd (omega arith)
max_two (suc zero) zero h k = (omega arith, refl)
max_two (suc zero) (suc zero) h k = (omega arith, refl)
max_two (suc zero) (suc (suc b)) h k = absurd (omega arith)
max_two (suc (suc a)) b h k = absurd (omega arith)

min_two : (a b : ℕ) → a < 2 → b < 2 → (min a b < 2) × (eqb (min a b) 1 ≡ eqb a 1 && eqb b 1)
min_two zero zero h k = (omega arith, refl)
min_two zero (suc zero) h k = (omega arith, refl)
min_two zero (suc (suc b)) h k = absurd (omega arith)
min_two (suc zero) zero h k = (omega arith, refl)
min_two (suc zero) (suc zero) h k = (omega arith, refl)
min_two (suc zero) (suc (suc b)) h k = absurd (omega arith)
min_two (suc (suc a)) b h k = absurd (omega arith)

pub digit_or : (a b k : ℕ) → digit (bit_or a b) k ≡ digit a k || digit b k
digit_or a b k =
    let x = a / 2 ^ k in
    let y = b / 2 ^ k in
    let m = max_two (x % 2) (y % 2) (mod-lt x (zero-lt-suc 1)) (mod-lt y (zero-lt-suc 1)) in
    ap (λ (n : ℕ). eqb (n % 2) 1) (or_shr a b k)
    ∙ ap (λ (n : ℕ). eqb (n % 2) 1) (or_step x y)
    ∙ ap (λ (n : ℕ). eqb n 1) (digits_mod (bit_or (x / 2) (y / 2)) m.0)
    ∙ m.1

pub digit_and : (a b k : ℕ) → digit (bit_and a b) k ≡ digit a k && digit b k
digit_and a b k =
    let x = a / 2 ^ k in
    let y = b / 2 ^ k in
    let m = min_two (x % 2) (y % 2) (mod-lt x (zero-lt-suc 1)) (mod-lt y (zero-lt-suc 1)) in
    ap (λ (n : ℕ). eqb (n % 2) 1) (and_shr a b k)
    ∙ ap (λ (n : ℕ). eqb (n % 2) 1) (and_step x y)
    ∙ ap (λ (n : ℕ). eqb n 1) (digits_mod (bit_and (x / 2) (y / 2)) m.0)
    ∙ m.1

pub digit_zero : (n : ℕ) → digit n 0 ≡ eqb (n % 2) 1
digit_zero n = ap (λ (m : ℕ). eqb (m % 2) 1) (div-one n)

pub digit_suc : (n k : ℕ) → digit n (suc k) ≡ digit (n / 2) k
digit_suc n k = ap (λ (m : ℕ). eqb (m % 2) 1) (ap (λ (e : ℕ). n / 2 ^ e) (sym (one-add k)) ∙ sym (shr-shr n 1 k))

pub digit_of_zero : (k : ℕ) → digit 0 k ≡ false
digit_of_zero zero = refl
digit_of_zero (suc k) = digit_suc 0 k ∙ digit_of_zero k

-- the digits of the other word, `!b`
flip : (b c : ℕ) → (b % 2 ≡ 0 → c % 2 ≡ 1) → (b % 2 ≡ 1 → c % 2 ≡ 0) → eqb (c % 2) 1 ≡ not (eqb (b % 2) 1)
flip b c f g =
    ⊎_elim (λ e. ap (λ (m : ℕ). eqb m 1) (f e) ∙ ap (λ (m : ℕ). not (eqb m 1)) (sym e)) (λ e. ap (λ (m : ℕ). eqb m 1) (g e) ∙ ap (λ (m : ℕ). not (eqb m 1)) (sym e)) (two b)

pub digit_not : (k j b : ℕ) → k < j → b < 2 ^ j → digit ((2 ^ j - 1) - b) k ≡ not (digit b k)
digit_not k zero b h l = absurd (not-suc-le-zero h)
digit_not zero (suc j) b h l =
    let e = pow-suc 2 j in
    digit_zero ((2 ^ suc j - 1) - b)
    ∙ flip b ((2 ^ suc j - 1) - b) (λ p. omega arith) (λ p. omega arith)
    ∙ ap not (sym (digit_zero b))
digit_not (suc k) (suc j) b h l =
    let e = pow-suc 2 j in
    let q : ((2 ^ suc j - 1) - b) / 2 ≡ (2 ^ j - 1) - b / 2 = omega arith in
    digit_suc ((2 ^ suc j - 1) - b) k
    ∙ ap (λ (n : ℕ). digit n k) q
    ∙ digit_not k j (b / 2) (omega arith) (omega arith)
    ∙ ap not (sym (digit_suc b k))

-- a one, shifted
pub digit_one : (j k : ℕ) → digit (2 ^ k) j ≡ eqb j k
digit_one zero zero = refl
digit_one zero (suc k) =
    let e = pow-suc 2 k in
    let z : 2 ^ suc k % 2 ≡ 0 = omega arith in
    digit_zero (2 ^ suc k) ∙ ap (λ (n : ℕ). eqb n 1) z ∙ sym (eqb-zero-suc k)
digit_one (suc j) zero = digit_suc 1 j ∙ digit_of_zero j ∙ sym (eqb-suc-zero j)
digit_one (suc j) (suc k) =
    let e = pow-suc 2 k in
    let z : 2 ^ suc k / 2 ≡ 2 ^ k = omega arith in
    digit_suc (2 ^ suc k) j ∙ ap (λ (n : ℕ). digit n j) z ∙ digit_one j k ∙ sym (eqb-suc-suc j k)

-- the lowest set digit: where the trailing zeros end
pub record Lowest (k n t : ℕ) : Type 0 where
  pub low : t < k
  pub here : digit n t ≡ true
  pub below : (j : ℕ) → j < t → digit n j ≡ false

skip : (n t : ℕ) → n % 2 ≡ 0 → ((j : ℕ) → j < t → digit (n / 2) j ≡ false) → (j : ℕ) → j < suc t → digit n j ≡ false
skip n t e f zero l = digit_zero n ∙ ap (λ (m : ℕ). eqb m 1) e
skip n t e f (suc j) l = digit_suc n j ∙ f j (omega arith)

lowest_even : (k n t : ℕ) → n % 2 ≡ 0 → Lowest k (n / 2) t → Lowest (suc k) n (suc t)
lowest_even k n t e r = record { low = let l = r.low in omega arith; here = digit_suc n t ∙ r.here; below = skip n t e r.below }

lowest_odd : (k n : ℕ) → n % 2 ≡ 1 → Lowest (suc k) n zero
lowest_odd k n e = record { low = zero-lt-suc k; here = digit_zero n ∙ ap (λ (m : ℕ). eqb m 1) e; below = λ j l. absurd (not-suc-le-zero l) }

pub lowest : (k n : ℕ) → (n ≡ 0 → ⊥) → n < 2 ^ k → Lowest k n (count_trailing_zeros k n)
unfolding count_trailing_zeros
lowest zero n z h = absurd (z (omega arith))
lowest (suc k) n z h =
    let p = pow-suc 2 k in
    ⊎_elim
    (λ e. rw e (lowest_even k n (count_trailing_zeros k (n / 2)) e (lowest k (n / 2) (λ q. z (omega arith)) (omega arith))))
    (λ e. rw e (lowest_odd k n e))
    (two n)

-- digit k behind the first j
pub digit_shift : (n j k : ℕ) → digit (n / 2 ^ j) k ≡ digit n (j + k)
digit_shift n j k = ap (λ (m : ℕ). eqb (m % 2) 1) (shr-shr n j k)

-- a number below 2 ^ j has no digit from j on
pub digit_high : (n j k : ℕ) → n < 2 ^ j → j ≤ k → digit n k ≡ false
digit_high n j k h l =
    let e : j + (k - j) ≡ k = omega arith in
    let o : 0 + j ≡ j = omega arith in
    let z : n / 2 ^ j ≡ 0 = lt-one (shr_lt 0 j (subst (λ (i : ℕ). n < 2 ^ i) (sym o) h)) in
    ap (digit n) (sym e) ∙ sym (digit_shift n j (k - j)) ∙ ap (λ (m : ℕ). digit m (k - j)) z ∙ digit_of_zero (k - j)

-- The digits determine the number ------------------------------------------------------------------------------------------------------

low_one : (a b : ℕ) → digit a 0 ≡ digit b 0 → a % 2 ≡ b % 2
low_one a b e = ⊎_elim (λ p. ⊎_elim (λ q. p ∙ sym q) (λ q. absurd (apart p q)) (two b)) (λ p. ⊎_elim (λ q. absurd (apart' p q)) (λ q. p ∙ sym q) (two b)) (two a)
  where
    same : eqb (a % 2) 1 ≡ eqb (b % 2) 1
    same = sym (digit_zero a) ∙ e ∙ digit_zero b

    apart : a % 2 ≡ 0 → b % 2 ≡ 1 → ⊥
    apart p q = true≢false (sym (ap (λ (m : ℕ). eqb m 1) q) ∙ sym same ∙ ap (λ (m : ℕ). eqb m 1) p)

    apart' : a % 2 ≡ 1 → b % 2 ≡ 0 → ⊥
    apart' p q = true≢false (sym (ap (λ (m : ℕ). eqb m 1) p) ∙ same ∙ ap (λ (m : ℕ). eqb m 1) q)

pub digits_one : (k a b : ℕ) → a < 2 ^ k → b < 2 ^ k → ((j : ℕ) → j < k → digit a j ≡ digit b j) → a ≡ b
digits_one zero a b h l e = omega arith
digits_one (suc k) a b h l e =
    let p = pow-suc 2 k in
    let q = low_one a b (e 0 (zero-lt-suc k)) in
    let ih = digits_one k (a / 2) (b / 2) (omega arith) (omega arith) (λ j m. sym (digit_suc a j) ∙ e (suc j) (omega arith) ∙ digit_suc b j) in
    omega arith

-- a number is below its power of two
pub lt_pow : (n : ℕ) → n < 2 ^ n
lt_pow zero = omega arith
lt_pow (suc n) = let p = pow-suc 2 n in let ih = lt_pow n in omega arith

-- a number without a digit from k on is below 2 ^ k
pub digits_small : (k n : ℕ) → ((j : ℕ) → k ≤ j → digit n j ≡ false) → n < 2 ^ k
digits_small k n h =
    let z = lt_pow k in
    let m : ℕ = 2 ^ k in
    let o : n / 2 ^ k ≡ 0 =
    digits_one (n / 2 ^ k) (n / 2 ^ k) 0 (lt_pow (n / 2 ^ k)) (let y = lt_pow (n / 2 ^ k) in omega arith)
    (λ j l. digit_shift n k j ∙ h (k + j) (omega arith) ∙ sym (digit_of_zero j)) in
    let r : n % 2 ^ k < 2 ^ k = mod-lt n (omega arith) in
    let s : n / 2 ^ k * 2 ^ k + n % 2 ^ k ≡ n = div-add-mod' n (2 ^ k) in
    let t : n / 2 ^ k * 2 ^ k ≡ 0 = ap (λ (x : ℕ). x * 2 ^ k) o ∙ zero-mul (2 ^ k) in
    omega arith

-- one digit more
pub digit_add : (a b j : ℕ) → digit b a ≡ false → digit (2 ^ a + b) j ≡ eqb j a || digit b j
digit_add zero b zero h =
    let o : b % 2 ≡ 0 = ⊎_elim (λ p. p) (λ p. absurd (true≢false (sym (digit_zero b ∙ ap (λ (m : ℕ). eqb m 1) p) ∙ h))) (two b) in
    let z : (1 + b) % 2 ≡ 1 = omega arith in
    digit_zero (1 + b) ∙ ap (λ (m : ℕ). eqb m 1) z
digit_add zero b (suc j) h =
    let o : b % 2 ≡ 0 = ⊎_elim (λ p. p) (λ p. absurd (true≢false (sym (digit_zero b ∙ ap (λ (m : ℕ). eqb m 1) p) ∙ h))) (two b) in
    let z : (1 + b) / 2 ≡ b / 2 = omega arith in
    digit_suc (1 + b) j ∙ ap (λ (m : ℕ). digit m j) z ∙ sym (digit_suc b j) ∙ ap (λ (x : Bool). x || digit b (suc j)) (sym (eqb-suc-zero j))
digit_add (suc a) b zero h =
    let p = pow-suc 2 a in
    let z : (2 ^ suc a + b) % 2 ≡ b % 2 = omega arith in
    digit_zero (2 ^ suc a + b) ∙ ap (λ (m : ℕ). eqb m 1) z ∙ sym (digit_zero b) ∙ ap (λ (x : Bool). x || digit b 0) (sym (eqb-zero-suc a))
digit_add (suc a) b (suc j) h =
    let p = pow-suc 2 a in
    let z : (2 ^ suc a + b) / 2 ≡ 2 ^ a + b / 2 = omega arith in
    digit_suc (2 ^ suc a + b) j ∙ ap (λ (m : ℕ). digit m j) z ∙ digit_add a (b / 2) j (sym (digit_suc b a) ∙ h)
    ∙ (λ i. sym (eqb-suc-suc j a) i || sym (digit_suc b j) i)
