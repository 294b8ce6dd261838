-- Sets of numbers as functions and as lists: their members up to a count, and what joining and taking away do. Assumes nothing.
use Rattle.std.specs.Prelude.{ℕ, zero, suc, ◌+◌, ◌-◌, ◌≤◌, ◌<◌, ◌≡◌, refl, Bool, true, false, ◌&&◌, ◌||◌, not, List, [], ◌∷◌, ◌++◌, eqb}
use Rattle.std.proofs.Common.{sym, ap, ◌∙◌, append-nil, arith, eq-eqb, ne_eqb}
use Rattle.std.proofs.Math.Decide.{dec_lt}
use Rattle.rules.specs.Find.{Set, empty, has, union, minus, rising_from, rising, least_from, least}
use Rattle.rules.specs.Laws.Set.{rising_from_none, rising_split}

-- Up to a count ------------------------------------------------------------------------------------------------------------------------

-- where no member is as high, it does not matter how far one looks
false_or : (b : Bool) → (b ≡ true → ⊥) → b ≡ false
false_or true n = absurd (n refl)
false_or false n = refl

none_from : (n v : ℕ) (a : Set) → ((w : ℕ) → a w ≡ true → w < n) → n ≤ v → a v ≡ false
none_from n v a h l = false_or (a v) (λ e. let z = h v e in omega arith)

pub rising_count : (m n : ℕ) (a : Set) → n ≤ m → ((v : ℕ) → a v ≡ true → v < n) → rising m a ≡ rising n a
rising_count m n a l h =
    let e : n + (m - n) ≡ m = omega arith in
    ap (λ (k : ℕ). rising k a) (sym e) ∙ rising_split n (m - n) a
    ∙ ap (λ (r : List ℕ). rising n a ++ r) (rising_from_none n (m - n) a (λ v p q. none_from n v a h p))
    ∙ append-nil (rising n a)

least_from_none : (k n : ℕ) (a : Set) → ((v : ℕ) → k ≤ v → a v ≡ false) → least_from k n a ≡ 0
unfolding least_from
least_from_none k zero a h = refl
least_from_none k (suc n) a h =
    ap (λ (b : Bool). elim b [ true ↦ suc k | false ↦ least_from (suc k) n a ]) (h k (omega arith)) ∙ least_from_none (suc k) n a (λ v l. h v (omega arith))

least_from_count : (k d n : ℕ) (a : Set) → ((v : ℕ) → k + n ≤ v → a v ≡ false) → least_from k (n + d) a ≡ least_from k n a
unfolding least_from
least_from_count k d zero a h = let e : 0 + d ≡ d = omega arith in ap (λ (j : ℕ). least_from k j a) e ∙ least_from_none k d a (λ v l. h v (omega arith))
least_from_count k d (suc n) a h =
    let e : suc n + d ≡ suc (n + d) = omega arith in
    ap (λ (j : ℕ). least_from k j a) e ∙ ap (λ (r : ℕ). elim (a k) [ true ↦ suc k | false ↦ r ]) (least_from_count (suc k) d n a (λ v l. h v (omega arith)))

pub least_count : (m n : ℕ) (a : Set) → n ≤ m → ((v : ℕ) → a v ≡ true → v < n) → least m a ≡ least n a
unfolding least
least_count m n a l h =
    let e : n + (m - n) ≡ m = omega arith in
    ap (λ (k : ℕ). least_from 0 k a) (sym e) ∙ least_from_count 0 (m - n) n a (λ v p. none_from n v a h (omega arith))

-- the same for sets that agree below
pub least_agree : (n : ℕ) (a b : Set) → ((v : ℕ) → v < n → a v ≡ b v) → least n a ≡ least n b
unfolding least least_from
least_agree n a b h = go 0 n (λ v p q. h v (omega arith))
  where
    go : (k n : ℕ) → ((v : ℕ) → k ≤ v → v < k + n → a v ≡ b v) → least_from k n a ≡ least_from k n b
    go k zero h = refl
    go k (suc n) h =
        ap (λ (x : Bool). elim x [ true ↦ suc k | false ↦ least_from (suc k) n a ]) (h k (omega arith) (omega arith))
        ∙ ap (λ (r : ℕ). elim (b k) [ true ↦ suc k | false ↦ r ]) (go (suc k) n (λ v p q. h v (omega arith) (omega arith)))

-- Lists --------------------------------------------------------------------------------------------------------------------------------

has_here : (x v : ℕ) (xs : List ℕ) → v ≡ x → has (x ∷ xs) v ≡ true
unfolding has
has_here x v xs e = ap (λ (b : Bool). elim b [ true ↦ true | false ↦ has xs v ]) (eq-eqb v x e)

has_there : (x v : ℕ) (xs : List ℕ) → (v ≡ x → ⊥) → has (x ∷ xs) v ≡ has xs v
unfolding has
has_there x v xs n = ap (λ (b : Bool). elim b [ true ↦ true | false ↦ has xs v ]) (ne_eqb v x n)

has_from : (k n : ℕ) (a : Set) (v : ℕ) → ((k ≤ v) × (v < k + n) → has (rising_from k n a) v ≡ a v) × (v < k → has (rising_from k n a) v ≡ false) × (k + n ≤ v → has (rising_from k n a) v ≡ false)
unfolding rising_from has
has_from k zero a v = (λ p. absurd (omega (arith, p.0, p.1)), λ p. refl, λ p. refl)
has_from k (suc n) a v = go (a k) refl (has_from (suc k) n a v)
  where
    go : (b : Bool) → a k ≡ b
        → ((suc k ≤ v) × (v < suc k + n) → has (rising_from (suc k) n a) v ≡ a v) × (v < suc k → has (rising_from (suc k) n a) v ≡ false) × (suc k + n ≤ v → has (rising_from (suc k) n a) v ≡ false)
        → ((k ≤ v) × (v < k + suc n) → has (elim b [ true ↦ k ∷ rising_from (suc k) n a | false ↦ rising_from (suc k) n a ]) v ≡ a v)
        × (v < k → has (elim b [ true ↦ k ∷ rising_from (suc k) n a | false ↦ rising_from (suc k) n a ]) v ≡ false)
        × (k + suc n ≤ v → has (elim b [ true ↦ k ∷ rising_from (suc k) n a | false ↦ rising_from (suc k) n a ]) v ≡ false)
    go true e ih = (
      λ p. elim (dec_lt k v) [
        | yes l ↦ has_there k v (rising_from (suc k) n a) (λ q. omega arith) ∙ ih.0 (omega arith, omega (arith, p.1))
        | no q ↦ let z : v ≡ k = omega (arith, p.0) in has_here k v (rising_from (suc k) n a) z ∙ sym (ap a z ∙ e)
      ],
      λ p. has_there k v (rising_from (suc k) n a) (λ q. omega arith) ∙ ih.1 (omega arith),
      λ p. has_there k v (rising_from (suc k) n a) (λ q. omega arith) ∙ ih.2 (omega arith),
    )
    go false e ih = (
      λ p. elim (dec_lt k v) [
        | yes l ↦ ih.0 (omega arith, omega (arith, p.1))
        | no q ↦ let z : v ≡ k = omega (arith, p.0) in ih.1 (omega arith) ∙ sym (ap a z ∙ e)
      ],
      λ p. ih.1 (omega arith),
      λ p. ih.2 (omega arith),
    )

-- a set written out is the set, below the count
pub has_rising : (n : ℕ) (a : Set) (v : ℕ) → v < n → has (rising n a) v ≡ a v
unfolding rising
has_rising n a v l = (has_from 0 n a v).0 (omega arith, omega arith)

pub has_rising_above : (n : ℕ) (a : Set) (v : ℕ) → n ≤ v → has (rising n a) v ≡ false
unfolding rising
has_rising_above n a v l = (has_from 0 n a v).2 (omega arith)

-- all of it, where no member is as high
pub has_rising_all : (n : ℕ) (a : Set) → ((v : ℕ) → a v ≡ true → v < n) → has (rising n a) ≡ a
has_rising_all n a h = λ i v. at v i
  where
    at : (v : ℕ) → has (rising n a) v ≡ a v
    at v = elim (dec_lt v n) [ yes l ↦ has_rising n a v l | no q ↦ has_rising_above n a v (omega arith) ∙ sym (none_from n v a h (omega arith)) ]

has_either : (ys xs : List ℕ) (v : ℕ) → has (xs ++ ys) v ≡ has xs v || has ys v
unfolding has
has_either ys [] v = refl
has_either ys (x ∷ xs) v = go (eqb v x) (has_either ys xs v)
  where
    go : (b : Bool) → has (xs ++ ys) v ≡ has xs v || has ys v → elim b [ true ↦ true | false ↦ has (xs ++ ys) v ] ≡ elim b [ true ↦ true | false ↦ has xs v ] || has ys v
    go true e = refl
    go false e = e

pub has_append : (xs ys : List ℕ) → has (xs ++ ys) ≡ union (has xs) (has ys)
has_append xs ys = λ i v. has_either ys xs v i

-- Joining and taking away ----------------------------------------------------------------------------------------------------------------

or_swap : (p q : Bool) → p || q ≡ q || p
or_swap true true = refl
or_swap true false = refl
or_swap false true = refl
or_swap false false = refl

or_twice : (p : Bool) → p || p ≡ p
or_twice true = refl
or_twice false = refl

and_or : (p q r : Bool) → (p || q) && r ≡ (p && r) || (q && r)
and_or true true true = refl
and_or true true false = refl
and_or true false true = refl
and_or true false false = refl
and_or false q r = refl

and_true : (p : Bool) → p && true ≡ p
and_true true = refl
and_true false = refl

and_nots : (p q r : Bool) → (p && not q) && not r ≡ p && not (q || r)
and_nots true true r = refl
and_nots true false r = refl
and_nots false q r = refl

pub union_comm : (a b : Set) → union a b ≡ union b a
union_comm a b = λ i v. or_swap (a v) (b v) i

pub union_twice : (a : Set) → union a a ≡ a
union_twice a = λ i v. or_twice (a v) i

pub minus_empty : (a : Set) → minus a empty ≡ a
minus_empty a = λ i v. and_true (a v) i

pub minus_union : (a b c : Set) → minus (union a b) c ≡ union (minus a c) (minus b c)
minus_union a b c = λ i v. and_or (a v) (b v) (not (c v)) i

pub minus_minus : (a b c : Set) → minus (minus a b) c ≡ minus a (union b c)
minus_minus a b c = λ i v. and_nots (a v) (b v) (c v) i
