-- Lists of numbers that rise without repetition, and the members of a set written out, which do. Assumes nothing.
use Rattle.std.specs.Prelude.{ℕ, zero, suc, ◌+◌, ◌≤◌, ◌<◌, ◌≡◌, refl, Bool, true, false, ◌||◌, ◌⊎◌, List, [], ◌∷◌, eqb}
use Rattle.std.proofs.Common.{subst, sym, ◌∙◌, inl, inr, arith, eqb-true}
use Rattle.std.proofs.lemmas.Bool.{false≢true, eqb-false}
use Rattle.rules.specs.Find.{Set, has, rising_from, rising}
use Rattle.rules.specs.Laws.Theory.{All, empty, both}

-- each from k on, and above the one before
unfoldable pub RisesFrom : ℕ → List ℕ → Type 0
RisesFrom k [] = Unit {0}
RisesFrom k (x ∷ xs) = (k ≤ x) × RisesFrom (suc x) xs

abbrev pub Rises : List ℕ → Type 0
Rises xs = RisesFrom 0 xs

rises_lower : (j k : ℕ) (xs : List ℕ) → j ≤ k → RisesFrom k xs → RisesFrom j xs
unfolding RisesFrom
rises_lower j k [] l h = tt
rises_lower j k (x ∷ xs) l h = (omega (arith, h.0), h.1)

rising_from_rises : (k n : ℕ) (a : Set) → RisesFrom k (rising_from k n a)
unfolding rising_from RisesFrom
rising_from_rises k zero a = tt
rising_from_rises k (suc n) a = go (a k) (rising_from_rises (suc k) n a)
  where
    go : (b : Bool) → RisesFrom (suc k) (rising_from (suc k) n a) → RisesFrom k (elim b [ true ↦ k ∷ rising_from (suc k) n a | false ↦ rising_from (suc k) n a ])
    go true h = (omega arith, h)
    go false h = rises_lower k (suc k) (rising_from (suc k) n a) (omega arith) h

pub rising_rises : (n : ℕ) (a : Set) → Rises (rising n a)
unfolding rising
rising_rises n a = rising_from_rises 0 n a

-- what holds of every member below n
rising_from_all : {P : ℕ → Type 0} (k n : ℕ) (a : Set) → ((v : ℕ) → v < k + n → a v ≡ true → P v) → All P (rising_from k n a)
unfolding rising_from
rising_from_all k zero a h = empty
rising_from_all {P} k (suc n) a h = go (a k) refl (rising_from_all (suc k) n a (λ v l e. h v (omega arith) e))
  where
    go : (b : Bool) → a k ≡ b → All P (rising_from (suc k) n a) → All P (elim b [ true ↦ k ∷ rising_from (suc k) n a | false ↦ rising_from (suc k) n a ])
    go true e r = both (h k (omega arith) e) r
    go false e r = r

pub rising_all_of : {P : ℕ → Type 0} (n : ℕ) (a : Set) → ((v : ℕ) → v < n → a v ≡ true → P v) → All P (rising n a)
unfolding rising
rising_all_of n a h = rising_from_all 0 n a (λ v l e. h v (omega arith) e)

-- a member of a list has what all of the list have
pub has_all : {P : ℕ → Type 0} (xs : List ℕ) (v : ℕ) → All P xs → has xs v ≡ true → P v
unfolding has
has_all [] v h e = absurd (false≢true e)
has_all {P} (x ∷ xs) v (both p h) e = go (eqb v x) refl e (has_all xs v h)
  where
    go : (b : Bool) → eqb v x ≡ b → elim b [ true ↦ true | false ↦ has xs v ] ≡ true → (has xs v ≡ true → P v) → P v
    go true q e k = subst P (sym (eqb-true v x q)) p
    go false q e k = k e

pub or_cases : (a b : Bool) → a || b ≡ true → (a ≡ true) ⊎ (b ≡ true)
or_cases true b e = inl refl
or_cases false b e = inr e

-- the members of a set whose members are all below n, written out, are its members
rising_from_has : (k n : ℕ) (a : Set) (v : ℕ) → k ≤ v → v < k + n → a v ≡ true → has (rising_from k n a) v ≡ true
unfolding rising_from has
rising_from_has k zero a v l m e = absurd (omega (arith, l, m))
rising_from_has k (suc n) a v l m e =
    go (a k) refl (eqb v k) refl (λ q. rising_from_has (suc k) n a v (let d = eqb-false v k q in omega (arith, l)) (omega arith) e)
  where
    go : (b : Bool) → a k ≡ b → (c : Bool) → eqb v k ≡ c → (eqb v k ≡ false → has (rising_from (suc k) n a) v ≡ true) →
        has (elim b [ true ↦ k ∷ rising_from (suc k) n a | false ↦ rising_from (suc k) n a ]) v ≡ true
    go true f true q h = rw (q, has) refl
    go true f false q h = rw (q, has) (h q)
    go false f true q h = absurd (false≢true (sym f ∙ subst (λ z. a z ≡ true) (eqb-true v k q) e))
    go false f false q h = h q

both_true : (p q : Bool) → (p ≡ true → q ≡ true) → (q ≡ true → p ≡ true) → p ≡ q
both_true true q f g = sym (f refl)
both_true false true f g = g refl
both_true false false f g = refl

pub rising_has : (n : ℕ) (a : Set) → ((v : ℕ) → a v ≡ true → v < n) → (v : ℕ) → has (rising n a) v ≡ a v
unfolding rising
rising_has n a h v =
    both_true (has (rising n a) v) (a v) (λ e. has_all (rising n a) v (rising_all_of n a (λ w l f. f)) e)
    (λ e. rising_from_has 0 n a v (omega arith) (let l = h v e in omega arith) e)
