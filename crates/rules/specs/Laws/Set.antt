-- Laws of sets of numbers, of their least members and of their members written out. Callers of the code cite these and never a bit.
-- Assumes nothing.
use Rattle.std.specs.Prelude.{◌≡◌, refl, Bool, true, false, ◌||◌, List, [], ◌∷◌, ◌++◌, ℕ, zero, suc, ◌+◌, ◌-◌, ◌≤◌, ◌<◌, length}
use Rattle.std.proofs.Common.{sym, ap, ◌∙◌, true≢false, arith}
use Rattle.std.proofs.lemmas.Bool.{false≢true}
use Rattle.std.proofs.Math.Decide.{dec_lt}
use Rattle.rules.specs.Find.{Set, empty, union, rising_from, rising, least_from, least}

-- Unions ---------------------------------------------------------------------------------------------------------------------

or_assoc : (p q r : Bool) → (p || q) || r ≡ p || (q || r)
or_assoc true q r = refl
or_assoc false q r = refl

or_false : (p : Bool) → p || false ≡ p
or_false true = refl
or_false false = refl

absorbs : (p q : Bool) → (q ≡ true → p ≡ true) → p ≡ p || q
absorbs true q f = refl
absorbs false true f = f refl
absorbs false false f = refl

pub or_left : (p q : Bool) → p ≡ true → p || q ≡ true
or_left p q e = ap (λ (x : Bool). x || q) e

pub or_right : (p q : Bool) → q ≡ true → p || q ≡ true
or_right true q e = refl
or_right false q e = e

pub union_assoc : (a b c : Set) → union (union a b) c ≡ union a (union b c)
union_assoc a b c = λ i v. or_assoc (a v) (b v) (c v) i

pub union_empty : (a : Set) → union a empty ≡ a
union_empty a = λ i v. or_false (a v) i

-- a set that is inside the other adds nothing
pub union_inside : (a b : Set) → ((v : ℕ) → b v ≡ true → a v ≡ true) → a ≡ union a b
union_inside a b f = λ i v. absorbs (a v) (b v) (f v) i

-- The least member -----------------------------------------------------------------------------------------------------------

least_from_none : (k n : ℕ) (a : Set) → ((v : ℕ) → k ≤ v → v < k + n → a v ≡ false) → least_from k n a ≡ 0
unfolding least_from
least_from_none k zero a f = refl
least_from_none k (suc n) a f = rw (least_from, f k (omega arith) (omega arith)) (least_from_none (suc k) n a (λ v l m. f v (omega arith) (omega arith)))

least_from_here : (k n : ℕ) (a : Set) (v : ℕ) → k ≤ v → v < k + n → a v ≡ true → ((w : ℕ) → k ≤ w → w < v → a w ≡ false) → least_from k n a ≡ suc v
unfolding least_from
least_from_here k zero a v l m t f = absurd (omega arith)
least_from_here k (suc n) a v l m t f = elim (dec_lt k v) [
  | yes p ↦ rw (least_from, f k (omega arith) p) (least_from_here (suc k) n a v p (omega arith) t (λ w x y. f w (omega arith) y))
  | no q ↦ let e : k ≡ v = omega arith in rw (least_from, ap a e ∙ t) (ap suc e)
]

pub least_none : (n : ℕ) (a : Set) → ((v : ℕ) → v < n → a v ≡ false) → least n a ≡ 0
unfolding least
least_none n a f = least_from_none 0 n a (λ v l m. f v (omega arith))

pub least_here : (n : ℕ) (a : Set) (v : ℕ) → v < n → a v ≡ true → ((w : ℕ) → w < v → a w ≡ false) → least n a ≡ suc v
unfolding least
least_here n a v m t f = least_from_here 0 n a v (omega arith) (omega arith) t (λ w x y. f w y)

-- The members written out ----------------------------------------------------------------------------------------------------

pub rising_from_agree : (k n : ℕ) (a b : Set) → ((v : ℕ) → k ≤ v → v < k + n → a v ≡ b v) → rising_from k n a ≡ rising_from k n b
unfolding rising_from
rising_from_agree k zero a b f = refl
rising_from_agree k (suc n) a b f =
    let ih = rising_from_agree (suc k) n a b (λ v l m. f v (omega arith) (omega arith)) in
    ap (λ (c : Bool). elim c [ true ↦ k ∷ rising_from (suc k) n a | false ↦ rising_from (suc k) n a ]) (f k (omega arith) (omega arith))
    ∙ ap (λ (l : List ℕ). elim (b k) [ true ↦ k ∷ l | false ↦ l ]) ih

pub rising_from_none : (k n : ℕ) (a : Set) → ((v : ℕ) → k ≤ v → v < k + n → a v ≡ false) → rising_from k n a ≡ []
unfolding rising_from
rising_from_none k zero a f = refl
rising_from_none k (suc n) a f = rw (rising_from, f k (omega arith) (omega arith)) (rising_from_none (suc k) n a (λ v l m. f v (omega arith) (omega arith)))

-- the lowest stands first
pub rising_from_here : (k n : ℕ) (a : Set) (v : ℕ) → k ≤ v → v < k + n → a v ≡ true → ((w : ℕ) → k ≤ w → w < v → a w ≡ false)
    → rising_from k n a ≡ v ∷ rising_from (suc v) (k + n - suc v) a
unfolding rising_from
rising_from_here k zero a v l m t f = absurd (omega arith)
rising_from_here k (suc n) a v l m t f = elim (dec_lt k v) [
  | yes p ↦
      let z : suc k + n - suc v ≡ k + suc n - suc v = omega arith in
      rw (rising_from, f k (omega arith) p) (rising_from_here (suc k) n a v p (omega arith) t (λ w x y. f w (omega arith) y) ∙ rw z)
  | no q ↦
      let e : k ≡ v = omega arith in
      let z : k + suc n - suc v ≡ n = omega arith in
      rw (rising_from, z, ap a e ∙ t) (ap (λ (j : ℕ). j ∷ rising_from (suc j) n a) e)
]

pub rising_from_split : (k m n : ℕ) (a : Set) → rising_from k (m + n) a ≡ rising_from k m a ++ rising_from (k + m) n a
unfolding rising_from
rising_from_split k zero n a = let e : 0 + n ≡ n = omega arith in let z : k + 0 ≡ k = omega arith in rw (e, z)
rising_from_split k (suc m) n a =
    let e : suc m + n ≡ suc (m + n) = omega arith in
    ap (λ (j : ℕ). rising_from k j a) e ∙ go (rising_from_split (suc k) m n a) (a k)
  where
    z : suc k + m ≡ k + suc m
    z = omega arith

    go : rising_from (suc k) (m + n) a ≡ rising_from (suc k) m a ++ rising_from (suc k + m) n a → (b : Bool)
        → elim b [ true ↦ k ∷ rising_from (suc k) (m + n) a | false ↦ rising_from (suc k) (m + n) a ] ≡ elim b [ true ↦ k ∷ rising_from (suc k) m a | false ↦ rising_from (suc k) m a ] ++ rising_from (k + suc m) n a
    go ih true = ap (λ (l : List ℕ). k ∷ l) (ih ∙ ap (λ (j : ℕ). rising_from (suc k) m a ++ rising_from j n a) z)
    go ih false = ih ∙ ap (λ (j : ℕ). rising_from (suc k) m a ++ rising_from j n a) z

-- how many there are does not go by where they stand
pub rising_from_length : (j k n : ℕ) (a b : Set) → ((v : ℕ) → v < n → a (j + v) ≡ b (k + v)) → length (rising_from j n a) ≡ length (rising_from k n b)
unfolding rising_from
rising_from_length j k zero a b f = refl
rising_from_length j k (suc n) a b f =
    go (rising_from_length (suc j) (suc k) n a b (λ v l. next v (omega arith))) (a j) (b k) here
  where
    here : a j ≡ b k
    here = let x : j + 0 ≡ j = omega arith in let y : k + 0 ≡ k = omega arith in ap a (sym x) ∙ f 0 (omega arith) ∙ ap b y

    next : (v : ℕ) → suc v < suc n → a (suc j + v) ≡ b (suc k + v)
    next v l = let x : suc j + v ≡ j + suc v = omega arith in let y : k + suc v ≡ suc k + v = omega arith in ap a x ∙ f (suc v) l ∙ ap b y

    go : length (rising_from (suc j) n a) ≡ length (rising_from (suc k) n b) → (p q : Bool) → p ≡ q
        → length {A = ℕ} (elim p [ true ↦ j ∷ rising_from (suc j) n a | false ↦ rising_from (suc j) n a ]) ≡ length {A = ℕ} (elim q [ true ↦ k ∷ rising_from (suc k) n b | false ↦ rising_from (suc k) n b ])
    go ih true true e = ap suc ih
    go ih true false e = absurd (true≢false e)
    go ih false true e = absurd (false≢true e)
    go ih false false e = ih

pub rising_all : (n : ℕ) (a : Set) → rising n a ≡ rising_from 0 n a
unfolding rising
rising_all n a = refl

pub rising_none : (a : Set) → rising 0 a ≡ []
unfolding rising rising_from
rising_none a = refl

pub rising_agree : (n : ℕ) (a b : Set) → ((v : ℕ) → v < n → a v ≡ b v) → rising n a ≡ rising n b
unfolding rising
rising_agree n a b f = rising_from_agree 0 n a b (λ v l m. f v (omega arith))

-- the first m, and then n more
pub rising_split : (m n : ℕ) (a : Set) → rising (m + n) a ≡ rising m a ++ rising_from m n a
unfolding rising
rising_split m n a = let e : 0 + m ≡ m = omega arith in rising_from_split 0 m n a ∙ ap (λ (j : ℕ). rising_from 0 m a ++ rising_from j n a) e
