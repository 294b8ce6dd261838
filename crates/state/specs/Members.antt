-- Lists that rise, and sets of which the members are below a number: each is the other's writing. Assumes nothing.
use Rattle.std.specs.Prelude.{◌≡◌, refl, ℕ, zero, suc, ◌+◌, ◌-◌, ◌<◌, ◌≤◌, Bool, true, false, List, [], ◌∷◌, ◌++◌, eqb, length}
use Rattle.std.proofs.Common.{sym, ap, ◌∙◌, subst, append-nil, arith, eq-eqb, ne_eqb}
use Rattle.std.proofs.lemmas.Bool.{false≢true}
use Rattle.std.proofs.Math.Decide.{dec_lt, ℕ_discrete}
use Rattle.rules.specs.Find.{Set, has, rising, rising_from}
use Rattle.rules.specs.Laws.Theory.{All, both, all_map}
use Rattle.rules.specs.Laws.Set.{rising_split, rising_from_none, rising_from_agree}
use Rattle.rules.specs.Laws.Rising.{Rises, RisesFrom}
use Rattle.terms.specs.Laws.Sets.{has_below}

-- every member is below n
abbrev pub Under : ℕ → Set → Type 0
Under n a = (v : ℕ) → a v ≡ true → v < n

-- A set that is written out --------------------------------------------------------------------------------------------------------

from_in : (k n : ℕ) (a : Set) → a k ≡ true → rising_from k (suc n) a ≡ k ∷ rising_from (suc k) n a
unfolding rising_from
from_in k n a e = rw (rising_from, e)

from_out : (k n : ℕ) (a : Set) → a k ≡ false → rising_from k (suc n) a ≡ rising_from (suc k) n a
unfolding rising_from
from_out k n a e = rw (rising_from, e)

outside : (a : Set) (n v : ℕ) → Under n a → n ≤ v → a v ≡ false
outside a n v u l = go (a v) refl
  where
    go : (b : Bool) → a v ≡ b → b ≡ false
    go true e = absurd (let w = u v e in omega arith)
    go false e = refl

-- where it is written out to does not matter
pub rising_under : (n m : ℕ) (a : Set) → n ≤ m → Under n a → rising m a ≡ rising n a
rising_under n m a l u =
    let e : m ≡ n + (m - n) = omega arith in
    ap (λ k. rising k a) e ∙ rising_split n (m - n) a ∙ ap (λ l. rising n a ++ l) (rising_from_none n (m - n) a (λ v h k. outside a n v u h))
    ∙ append-nil (rising n a)

from_low : (k n : ℕ) (a : Set) (v : ℕ) → v < k → has (rising_from k n a) v ≡ false
unfolding rising_from has
from_low k zero a v l = refl
from_low k (suc n) a v l = go (a k) (from_low (suc k) n a v (omega arith))
  where
    go : (b : Bool) → has (rising_from (suc k) n a) v ≡ false → has (elim b [ true ↦ k ∷ rising_from (suc k) n a | false ↦ rising_from (suc k) n a ]) v ≡ false
    go true h = rw (has, ne_eqb v k (λ e. omega arith)) h
    go false h = h

from_has : (k n : ℕ) (a : Set) (v : ℕ) → k ≤ v → Under (k + n) a → has (rising_from k n a) v ≡ a v
unfolding has rising_from
from_has k zero a v l u = sym (outside a (k + 0) v u (omega arith))
from_has k (suc n) a v l u =
    elim (ℕ_discrete v k) [
      | yes e ↦ here (a k) refl e
      | no q ↦ there (a k) refl (from_has (suc k) n a v (omega arith) (λ w p. let z = u w p in omega arith)) (ne_eqb v k q)
    ]
  where
    here : (b : Bool) → a k ≡ b → v ≡ k → has (rising_from k (suc n) a) v ≡ a v
    here true p e = ap (λ l. has l v) (from_in k n a p) ∙ rw (has, eq-eqb v k e) (sym (ap a e ∙ p))
    here false p e = ap (λ l. has l v) (from_out k n a p) ∙ from_low (suc k) n a v (omega arith) ∙ sym (ap a e ∙ p)

    there : (b : Bool) → a k ≡ b → has (rising_from (suc k) n a) v ≡ a v → eqb v k ≡ false → has (rising_from k (suc n) a) v ≡ a v
    there true p h q = ap (λ l. has l v) (from_in k n a p) ∙ rw (has, q) h
    there false p h q = ap (λ l. has l v) (from_out k n a p) ∙ h

-- its members are those that were written
pub has_rising : (n : ℕ) (a : Set) → Under n a → has (rising n a) ≡ a
unfolding rising
has_rising n a u = λ i v. from_has 0 n a v (omega arith) (λ w p. let z = u w p in omega arith) i

rising_from_few : (k n : ℕ) (a : Set) → length (rising_from k n a) ≤ n
unfolding rising_from
rising_from_few k zero a = omega arith
rising_from_few k (suc n) a = go (a k) (rising_from_few (suc k) n a)
  where
    go : (b : Bool) → length (rising_from (suc k) n a) ≤ n →
        length {A = ℕ} (elim b [ true ↦ k ∷ rising_from (suc k) n a | false ↦ rising_from (suc k) n a ]) ≤ suc n
    go true h = omega arith
    go false h = omega arith

-- a set has no more members than there are numbers
pub rising_few : (n : ℕ) (a : Set) → length (rising n a) ≤ n
unfolding rising
rising_few n a = rising_from_few 0 n a

pub rising_empty : (n : ℕ) (a : Set) → ((v : ℕ) → a v ≡ false) → rising n a ≡ []
unfolding rising
rising_empty n a f = rising_from_none 0 n a (λ v l m. f v)

-- A list that rises ----------------------------------------------------------------------------------------------------------------

pub has_above : (xs : List ℕ) (n v : ℕ) → All (λ x. x < n) xs → n ≤ v → has xs v ≡ false
unfolding has
has_above [] n v a l = refl
has_above (x ∷ xs) n v (both p a) l = rw (has, ne_eqb v x (λ e. omega arith)) (has_above xs n v a l)

pub has_under : (xs : List ℕ) (n : ℕ) → All (λ x. x < n) xs → Under n (has xs)
has_under xs n a v e = elim (dec_lt v n) [ yes p ↦ p | no q ↦ absurd (false≢true (sym (has_above xs n v a (omega arith)) ∙ e)) ]

from_list : (n k : ℕ) (xs : List ℕ) → RisesFrom k xs → All (λ v. v < k + n) xs → rising_from k n (has xs) ≡ xs
unfolding has RisesFrom rising_from
from_list zero k [] h a = refl
from_list zero k (x ∷ xs) h (both p a) = absurd (omega (arith, h.0))
from_list (suc n) k [] h a = rising_from_none (suc k) n (has []) (λ v l m. refl)
from_list (suc n) k (x ∷ xs) h (both p a) =
    elim (ℕ_discrete k x) [
      | yes e ↦
          from_in k n (has (x ∷ xs)) (rw (has, eq-eqb k x e))
          ∙ (λ i. e i ∷ (rising_from_agree (suc k) n (has (x ∷ xs)) (has xs) (λ v l m. rw (has, ne_eqb v x (λ q. omega arith)))
          ∙ from_list n (suc k) xs (subst (λ j. RisesFrom (suc j) xs) (sym e) h.1) (all_map (λ v l. omega arith) a)) i)
      | no q ↦
          let l : suc k ≤ x = omega (arith, h.0) in
          from_out k n (has (x ∷ xs)) (has_below (x ∷ xs) (suc k) k (l, h.1) (omega arith))
          ∙ from_list n (suc k) (x ∷ xs) (l, h.1) (both (omega arith) (all_map (λ v l. omega arith) a))
    ]

-- it is what its members written out are
pub rises_rising : (n : ℕ) (xs : List ℕ) → Rises xs → All (λ v. v < n) xs → rising n (has xs) ≡ xs
unfolding rising
rises_rising n xs h a = from_list n 0 xs h (all_map (λ v l. omega arith) a)
