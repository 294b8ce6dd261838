-- Looking things up in lists, and sets of numbers. Assumes nothing.
use Rattle.std.specs.Prelude.{ℕ, zero, suc, Bool, true, false, ◌&&◌, ◌||◌, not, List, [], ◌∷◌, eqb, Option, Some as some, None as nothing}

-- the number of the first entry that passes the test, where the list's first entry has number k
unfoldable pub first : {A : Type 0} → (A → Bool) → List A → ℕ → Option ℕ
first p [] k = nothing
first p (x ∷ xs) k = elim (p x) [ true ↦ some k | false ↦ first p xs (suc k) ]

-- the entry at a number
unfoldable pub entry : {A : Type 0} → List A → ℕ → Option A
entry [] k = nothing
entry (x ∷ xs) zero = some x
entry (x ∷ xs) (suc k) = entry xs k

-- the numbers, from k on, of all entries that pass the test
unfoldable pub every : {A : Type 0} → (A → Bool) → List A → ℕ → List ℕ
every p [] k = []
every p (x ∷ xs) k = elim (p x) [ true ↦ k ∷ every p xs (suc k) | false ↦ every p xs (suc k) ]

-- whether some entry passes the test
unfoldable pub any : {A : Type 0} → (A → Bool) → List A → Bool
any p [] = false
any p (x ∷ xs) = elim (p x) [ true ↦ true | false ↦ any p xs ]

unfoldable pub all : {A : Type 0} → (A → Bool) → List A → Bool
all p [] = true
all p (x ∷ xs) = elim (p x) [ true ↦ all p xs | false ↦ false ]

-- the entry at a number is replaced
unfoldable pub change : {A : Type 0} → List A → ℕ → (A → A) → List A
change [] k f = []
change (x ∷ xs) zero f = f x ∷ xs
change (x ∷ xs) (suc k) f = x ∷ change xs k f

-- Sets ---------------------------------------------------------------------------------------------------------------------

abbrev pub Set : Type 0
Set = ℕ → Bool

abbrev pub empty : Set
empty v = false

unfoldable pub has : List ℕ → Set
has [] v = false
has (x ∷ xs) v = elim (eqb v x) [ true ↦ true | false ↦ has xs v ]

abbrev pub union : Set → Set → Set
union a b v = a v || b v

abbrev pub minus : Set → Set → Set
minus a b v = a v && not (b v)

-- its members from k on, n numbers further, rising
unfoldable pub rising_from : ℕ → ℕ → Set → List ℕ
rising_from k zero a = []
rising_from k (suc n) a = elim (a k) [ true ↦ k ∷ rising_from (suc k) n a | false ↦ rising_from (suc k) n a ]

-- its members below n, rising
unfoldable pub rising : ℕ → Set → List ℕ
rising n a = rising_from 0 n a

-- the lowest member from k on, n numbers further, counted from 1; 0 where there is none
unfoldable pub least_from : ℕ → ℕ → Set → ℕ
least_from k zero a = 0
least_from k (suc n) a = elim (a k) [ true ↦ suc k | false ↦ least_from (suc k) n a ]

-- the lowest member below n, counted from 1; 0 where there is none
unfoldable pub least : ℕ → Set → ℕ
least n a = least_from 0 n a

-- `unfolding finding` opens all of the above, for a computation
unfoldable pub finding : Unit {0}
unfolding first entry every any all change has rising_from rising least_from least
finding = tt
