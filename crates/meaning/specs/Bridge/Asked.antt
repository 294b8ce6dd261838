-- What an answer of the definition's small parts says: questions that were passed, names and items that were read, look-ups in lists, and
-- sets of numbers. Assumes nothing.
use Rattle.std.specs.Prelude.{ℕ, zero, suc, ◌+◌, ◌<◌, ◌≤◌, ◌≡◌, refl, ◌⊎◌, Bool, true, false, ◌&&◌, ◌||◌, not, List, [], ◌∷◌, eqb, length, get_or, Option, Some as some, None as nothing}
use Rattle.std.proofs.Common.{arith, sym, ◌∙◌, ap, subst, inl, inr, eqb-true}
use Rattle.std.proofs.lemmas.Bool.{eqb-false}
use Rattle.rules.specs.Out.{Out, ok, refuse, then, Act, ask, room, found}
use Rattle.rules.specs.Sexp.{Sexp, atom, list, name, items}
use Rattle.rules.specs.Index.{index_of}
use Rattle.rules.specs.Find.{Set, first, entry, every, all, has, rising_from, rising, least_from, least}
use Rattle.rules.specs.State.{Fact}
use Rattle.rules.specs.Read.{index}
use Rattle.meaning.specs.Trees.Tree.{In}
use Rattle.meaning.specs.Trees.Tests.{true_false}
use Rattle.meaning.specs.Unification.Acts.{Ok, done, stopped}
use Rattle.meaning.specs.Truth.{At}
use Rattle.meaning.specs.Named.{Points}

-- Tests ---------------------------------------------------------------------------------------------------------------------------

pub no_some : {A : Type 0} {a : A} → nothing ≡ some a → ⊥
no_some e = let z : ◌≡◌ {A = ℕ} 0 1 = cc in omega arith

pub some_same : {A : Type 0} {a b : A} → some a ≡ some b → a ≡ b
some_same e = cc

pub both_true : (b c : Bool) → (b && c) ≡ true → (b ≡ true) × (c ≡ true)
both_true true c e = (refl, e)
both_true false c e = absurd (true_false false e refl)

pub either_true : (b c : Bool) → (b || c) ≡ true → (b ≡ true) ⊎ (c ≡ true)
either_true true c e = inl refl
either_true false c e = inr e

pub true_left : (b c : Bool) → b ≡ true → (b || c) ≡ true
true_left true c e = refl
true_left false c e = absurd (true_false false e refl)

pub true_right : (b c : Bool) → c ≡ true → (b || c) ≡ true
true_right true c e = refl
true_right false c e = e

pub not-true : (b : Bool) → not b ≡ true → b ≡ false
not-true true e = absurd (true_false false e refl)
not-true false e = refl

-- Questions -----------------------------------------------------------------------------------------------------------------------

pub ok_ask : {S : Type 0} (n : ℕ) (b : Bool) (s : S) → Ok (λ _. b ≡ true) (ask n b s)
ok_ask n true s = done refl
ok_ask n false s = stopped

pub ok_space : {S : Type 0} (n : ℕ) (b : Bool) (s : S) → Ok (λ _. b ≡ true) (room n b s)
ok_space n true s = done refl
ok_space n false s = stopped

pub ok_found : {S A : Type 0} (n : ℕ) (o : Option A) (s : S) → Ok (λ a. o ≡ some a) (found n o s)
ok_found n (some a) s = done refl
ok_found n nothing s = stopped

-- the answer is the one that was given
pub ok_self : {S A : Type 0} (o : Out S A) → Ok (λ a. (s : S) × (o ≡ ok a s)) o
ok_self (ok a s) = done (s, refl)
ok_self (refuse n d s) = stopped

-- more is said of an answer than is used
pub ok_map : {S A : Type 0} {P Q : A → Type 0} {o : Out S A} → ((a : A) → P a → Q a) → Ok P o → Ok Q o
ok_map f (done {a} p) = done (f a p)
ok_map f stopped = stopped

-- one of two actions, by a test
pub ok_if : {S A : Type 0} {Q : A → Type 0} (b : Bool) (x y : Act S A) (s : S) → (b ≡ true → Ok Q (x s)) → (b ≡ false → Ok Q (y s))
    → Ok Q ((elim b as (λ _. Act S A) [ true ↦ x | false ↦ y ]) s)
ok_if true x y s h k = h refl
ok_if false x y s h k = k refl

-- one of two actions, by what a look-up gives
pub ok_case : {S A B : Type 0} {Q : B → Type 0} (o : Option A) (x : A → Act S B) (y : Act S B) (s : S)
    → ((a : A) → o ≡ some a → Ok Q (x a s)) → (o ≡ nothing → Ok Q (y s))
    → Ok Q ((elim o as (λ _. Act S B) [ some a ↦ x a | nothing ↦ y ]) s)
ok_case (some a) x y s h k = h a refl
ok_case nothing x y s h k = k refl

-- the item is a list, whose items these are
pub ok_items : {S : Type 0} (n : ℕ) (x : Sexp) (s : S) → Ok (λ xs. x ≡ list xs) (items n x s)
unfolding items
ok_items n (atom p bs) s = stopped
ok_items n (list xs) s = done refl

-- the item is an atom, whose name this is
pub ok_atom : {S : Type 0} (n : ℕ) (x : Sexp) (s : S) → Ok (λ a. (p : ℕ) × (x ≡ atom p a.bytes)) (name n x s)
unfolding name
ok_atom n (atom p bs) s = done (p, refl)
ok_atom n (list xs) s = stopped

-- an index that was read stands there
pub ok_index : {S : Type 0} (n : ℕ) (x : Sexp) (s : S) → Ok (λ i. Points x i) (index n x s)
unfolding index name Points then
ok_index n (atom p bs) s = ok_found n (index_of bs) s
ok_index n (list xs) s = stopped

-- Lists ---------------------------------------------------------------------------------------------------------------------------

-- the first entry that passes the test passes it
pub first_found : {A : Type 0} (p : A → Bool) (d : A) (xs : List A) (k i : ℕ) → first p xs k ≡ some i
    → (j : ℕ) × (i ≡ k + j) × (j < length xs) × (p (get_or xs j d) ≡ true)
unfolding first
first_found p d [] k i e = absurd (no_some e)
first_found p d (x ∷ xs) k i e = go (p x) refl e (λ q. first_found p d xs (suc k) i q)
  where
    go : (b : Bool) → p x ≡ b → elim b as (λ _. Option ℕ) [ true ↦ some k | false ↦ first p xs (suc k) ] ≡ some i
        → (first p xs (suc k) ≡ some i → (j : ℕ) × (i ≡ suc k + j) × (j < length xs) × (p (get_or xs j d) ≡ true))
        → (j : ℕ) × (i ≡ k + j) × (j < length (x ∷ xs)) × (p (get_or (x ∷ xs) j d) ≡ true)
    go true q f h = (0, (let z : k ≡ i = some_same f in omega arith), omega arith, q)
    go false q f h = let r = h f in (suc r.0, (let z = r.1 in omega arith), (let z = r.2 in omega arith), r.3)

-- the same, numbered from 0
pub first_zero : {A : Type 0} (p : A → Bool) (d : A) (xs : List A) (i : ℕ) → first p xs 0 ≡ some i → (i < length xs) × (p (get_or xs i d) ≡ true)
first_zero p d xs i e =
    let r = first_found p d xs 0 i e in
    let y = r.1 in
    let z : i ≡ r.0 = omega arith in
    (subst (λ k. k < length xs) (sym z) r.2, subst (λ k. p (get_or xs k d) ≡ true) (sym z) r.3)

pub entry_at : (fs : List Fact) (i : ℕ) (f : Fact) → entry fs i ≡ some f → At fs i f
unfolding entry At
entry_at [] i f e = absurd (no_some e)
entry_at (g ∷ fs) zero f e = some_same e
entry_at (g ∷ fs) (suc i) f e = entry_at fs i f e

pub at_entry : (fs : List Fact) (i : ℕ) (f : Fact) → At fs i f → entry fs i ≡ some f
unfolding entry At
at_entry [] i f a = absurd a
at_entry (g ∷ fs) zero f a = ap some a
at_entry (g ∷ fs) (suc i) f a = at_entry fs i f a

-- a place has one fact
pub at_unique : (fs : List Fact) (i : ℕ) (f g : Fact) → At fs i f → At fs i g → f ≡ g
unfolding At
at_unique [] i f g a b = absurd a
at_unique (e ∷ fs) zero f g a b = sym a ∙ b
at_unique (e ∷ fs) (suc i) f g a b = at_unique fs i f g a b

pub at_below : (fs : List Fact) (i : ℕ) (f : Fact) → At fs i f → i < length fs
unfolding At
at_below [] i f a = absurd a
at_below (g ∷ fs) zero f a = omega arith
at_below (g ∷ fs) (suc i) f a = let h = at_below fs i f a in omega arith

pub below_at : (fs : List Fact) (i : ℕ) → i < length fs → (f : Fact) × At fs i f
unfolding At
below_at [] i l = absurd (let z : ⊥ = omega arith in z)
below_at (g ∷ fs) zero l = (g, refl)
below_at (g ∷ fs) (suc i) l = below_at fs i (omega arith)

-- every number that passes the test is listed
pub every_in : {A : Type 0} (p : A → Bool) (d : A) (xs : List A) (k i : ℕ) → i < length xs → p (get_or xs i d) ≡ true → In (k + i) (every p xs k)
unfolding every In
every_in p d [] k i l e = absurd (let z : ⊥ = omega arith in z)
every_in p d (x ∷ xs) k zero l e = go (p x) e
  where
    go : (b : Bool) → b ≡ true → In (k + 0) (elim b as (λ _. List ℕ) [ true ↦ k ∷ every p xs (suc k) | false ↦ every p xs (suc k) ])
    go true q = inl (omega arith)
    go false q = absurd (true_false false q refl)
every_in p d (x ∷ xs) k (suc i) l e = go (p x) (every_in p d xs (suc k) i (omega arith) e)
  where
    go : (b : Bool) → In (suc k + i) (every p xs (suc k))
        → In (k + suc i) (elim b as (λ _. List ℕ) [ true ↦ k ∷ every p xs (suc k) | false ↦ every p xs (suc k) ])
    go true h = inr (subst (λ z. In z (every p xs (suc k))) (let z : suc k + i ≡ k + suc i = omega arith in z) h)
    go false h = subst (λ z. In z (every p xs (suc k))) (let z : suc k + i ≡ k + suc i = omega arith in z) h

-- and what is listed passes it
pub in_every : {A : Type 0} (p : A → Bool) (d : A) (xs : List A) (k i : ℕ) → In i (every p xs k) → (j : ℕ) × (i ≡ k + j) × (j < length xs) × (p (get_or xs j d) ≡ true)
unfolding every In
in_every p d [] k i h = absurd h
in_every p d (x ∷ xs) k i h = go (p x) refl h (λ q. in_every p d xs (suc k) i q)
  where
    go : (b : Bool) → p x ≡ b → In i (elim b as (λ _. List ℕ) [ true ↦ k ∷ every p xs (suc k) | false ↦ every p xs (suc k) ])
        → (In i (every p xs (suc k)) → (j : ℕ) × (i ≡ suc k + j) × (j < length xs) × (p (get_or xs j d) ≡ true))
        → (j : ℕ) × (i ≡ k + j) × (j < length (x ∷ xs)) × (p (get_or (x ∷ xs) j d) ≡ true)
    go true q (inl e) r = (0, omega arith, omega arith, q)
    go true q (inr j) r = let s = r j in (suc s.0, (let z = s.1 in omega arith), (let z = s.2 in omega arith), s.3)
    go false q j r = let s = r j in (suc s.0, (let z = s.1 in omega arith), (let z = s.2 in omega arith), s.3)

-- a member of a list that passes a test throughout
pub all_in : (p : ℕ → Bool) (xs : List ℕ) (x : ℕ) → all p xs ≡ true → In x xs → p x ≡ true
unfolding all In
all_in p [] x e i = absurd i
all_in p (y ∷ ys) x e i = go (p y) refl e i (λ q j. all_in p ys x q j)
  where
    go : (b : Bool) → p y ≡ b → elim b as (λ _. Bool) [ true ↦ all p ys | false ↦ false ] ≡ true → (x ≡ y) ⊎ In x ys
        → (all p ys ≡ true → In x ys → p x ≡ true) → p x ≡ true
    go true q f (inl z) h = ap p z ∙ q
    go true q f (inr j) h = h f j
    go false q f j h = absurd (true_false false f refl)

-- Sets ----------------------------------------------------------------------------------------------------------------------------

pub has_in : (xs : List ℕ) (v : ℕ) → has xs v ≡ true → In v xs
unfolding has In
has_in [] v e = absurd (true_false false e refl)
has_in (x ∷ xs) v e = go (eqb v x) refl e (λ q. has_in xs v q)
  where
    go : (b : Bool) → eqb v x ≡ b → elim b as (λ _. Bool) [ true ↦ true | false ↦ has xs v ] ≡ true → (has xs v ≡ true → In v xs) → (v ≡ x) ⊎ In v xs
    go true q f h = inl (eqb-true v x q)
    go false q f h = inr (h f)

pub in_has : (xs : List ℕ) (v : ℕ) → In v xs → has xs v ≡ true
unfolding has In
in_has [] v i = absurd i
in_has (x ∷ xs) v i = go (eqb v x) refl i (λ j. in_has xs v j)
  where
    go : (b : Bool) → eqb v x ≡ b → (v ≡ x) ⊎ In v xs → (In v xs → has xs v ≡ true) → elim b as (λ _. Bool) [ true ↦ true | false ↦ has xs v ] ≡ true
    go true q j h = refl
    go false q (inl z) h = absurd (eqb-false v x q z)
    go false q (inr j) h = h j

rising_from_in : (k n : ℕ) (a : Set) (v : ℕ) → k ≤ v → v < k + n → a v ≡ true → In v (rising_from k n a)
unfolding rising_from In
rising_from_in k zero a v l m e = absurd (let z : ⊥ = omega arith in z)
rising_from_in k (suc n) a v l m e = go (a k) refl (λ q. rising_from_in (suc k) n a v q (omega arith) e)
  where
    go : (b : Bool) → a k ≡ b → (suc k ≤ v → In v (rising_from (suc k) n a))
        → In v (elim b as (λ _. List ℕ) [ true ↦ k ∷ rising_from (suc k) n a | false ↦ rising_from (suc k) n a ])
    go true q h = elim (split k v l) [ inl z ↦ inl z | inr z ↦ inr (h z) ]
      where
        split : (k v : ℕ) → k ≤ v → (v ≡ k) ⊎ (suc k ≤ v)
        split zero zero l = inl refl
        split zero (suc v) l = inr (omega arith)
        split (suc k) zero l = absurd (let z : ⊥ = omega arith in z)
        split (suc k) (suc v) l = elim (split k v (omega arith)) [ inl z ↦ inl (ap suc z) | inr z ↦ inr (omega arith) ]
    go false q h = h (differs k v l (λ z. true_false (a v) e (ap a z ∙ q)))
      where
        differs : (k v : ℕ) → k ≤ v → ¬ (v ≡ k) → suc k ≤ v
        differs k v l n = omega arith

in_rising_from : (k n : ℕ) (a : Set) (v : ℕ) → In v (rising_from k n a) → (v < k + n) × (a v ≡ true)
unfolding rising_from In
in_rising_from k zero a v i = absurd i
in_rising_from k (suc n) a v i = go (a k) refl i (λ j. in_rising_from (suc k) n a v j)
  where
    go : (b : Bool) → a k ≡ b → In v (elim b as (λ _. List ℕ) [ true ↦ k ∷ rising_from (suc k) n a | false ↦ rising_from (suc k) n a ])
        → (In v (rising_from (suc k) n a) → (v < suc k + n) × (a v ≡ true)) → (v < k + suc n) × (a v ≡ true)
    go true q (inl z) h = (omega arith, ap a z ∙ q)
    go true q (inr j) h = let r = h j in ((let y = r.0 in omega arith), r.1)
    go false q j h = let r = h j in ((let y = r.0 in omega arith), r.1)

pub rising_in : (n : ℕ) (a : Set) (v : ℕ) → v < n → a v ≡ true → In v (rising n a)
unfolding rising
rising_in n a v l e = rising_from_in 0 n a v (omega arith) (omega arith) e

pub in_rising : (n : ℕ) (a : Set) (v : ℕ) → In v (rising n a) → (v < n) × (a v ≡ true)
unfolding rising
in_rising n a v i = let r = in_rising_from 0 n a v i in ((let y = r.0 in omega arith), r.1)

least_from_zero : (k n : ℕ) (a : Set) (v : ℕ) → least_from k n a ≡ 0 → k ≤ v → v < k + n → a v ≡ false
unfolding least_from
least_from_zero k zero a v e l m = absurd (let z : ⊥ = omega arith in z)
least_from_zero k (suc n) a v e l m = go (a k) refl e (λ q p. least_from_zero (suc k) n a v q p (omega arith))
  where
    go : (b : Bool) → a k ≡ b → ◌≡◌ {A = ℕ} (elim b as (λ _. ℕ) [ true ↦ suc k | false ↦ least_from (suc k) n a ]) 0
        → (least_from (suc k) n a ≡ 0 → suc k ≤ v → a v ≡ false) → a v ≡ false
    go true q f h = absurd (let z : ⊥ = omega arith in z)
    go false q f h = at (a v) refl
      where
        at : (c : Bool) → a v ≡ c → c ≡ false
        at false p = refl
        at true p = sym p ∙ h f (later (λ z. true_false (a v) p (ap a z ∙ q)))
          where
            later : ¬ (v ≡ k) → suc k ≤ v
            later z = omega arith

-- where no member is the lowest, there is none
pub least_zero : (n : ℕ) (a : Set) (v : ℕ) → least n a ≡ 0 → v < n → a v ≡ false
unfolding least
least_zero n a v e l = least_from_zero 0 n a v e (omega arith) (omega arith)
