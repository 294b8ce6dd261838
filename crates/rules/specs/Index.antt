-- An index as Rust's `usize` reads one: a `+` or none, then digits, at least one, of a value below 2 ^ 64. Assumes nothing.
use Rattle.std.specs.Prelude.{ℕ, ◌+◌, ◌-◌, ◌*◌, ◌^◌, ◌≡◌, refl, Bool, true, false, ◌&&◌, List, [], ◌∷◌, leb, ltb, eqb, Option, Some as some, None as nothing}
use Rattle.rules.specs.Text.{bytes}

unfoldable pub digit : ℕ → Bool
digit b = leb 48 b && leb b 57

-- nothing but digits
unfoldable pub digits : List ℕ → Bool
digits [] = true
digits (b ∷ bs) = elim (digit b) [ true ↦ digits bs | false ↦ false ]

-- the value of the digits, behind others of value n
unfoldable pub value : ℕ → List ℕ → ℕ
value n [] = n
value n (b ∷ bs) = value (n * 10 + (b - 48)) bs

-- the value of an unsigned index
unfoldable pub unsigned : List ℕ → Option ℕ
unsigned [] = nothing
unsigned (b ∷ bs) = elim (digits (b ∷ bs) && ltb (value 0 (b ∷ bs)) (2 ^ 64)) [ true ↦ some (value 0 (b ∷ bs)) | false ↦ nothing ]

unfoldable pub index_of : List ℕ → Option ℕ
index_of [] = nothing
index_of (b ∷ bs) = elim (eqb b 43) [ true ↦ unsigned bs | false ↦ unsigned (b ∷ bs) ]

-- `unfolding indexing` opens all of the above, for a computation
unfoldable pub indexing : Unit {0}
unfolding digit digits value unsigned index_of
indexing = tt

-- Checks -----------------------------------------------------------------------------------------------------------------------

zeros_free : index_of (bytes "0007") ≡ some 7
unfolding indexing
zeros_free = refl

one_plus : index_of (bytes "+12") ≡ some 12
unfolding indexing
one_plus = refl

two_pluses : index_of (bytes "++1") ≡ nothing
unfolding indexing
two_pluses = refl

no_digits : index_of (bytes "+") ≡ nothing
unfolding indexing
no_digits = refl

no_minus : index_of (bytes "-0") ≡ nothing
unfolding indexing
no_minus = refl

letter_inside : index_of (bytes "1a") ≡ nothing
unfolding indexing
letter_inside = refl

largest : index_of (bytes "18446744073709551615") ≡ some 18446744073709551615
unfolding indexing
largest = refl

too_large : index_of (bytes "18446744073709551616") ≡ nothing
unfolding indexing
too_large = refl
