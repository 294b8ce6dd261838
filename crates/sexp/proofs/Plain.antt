-- Whether a text is plain, as the library's `is_ascii` says it. Assumes nothing.
use Rattle.std.proofs.Common.{◌≡◌, refl, ℕ, zero, suc, ◌<◌, ◌≤◌, List, [], ◌∷◌, Bool, true, false, leb, get_or, arith}
use Rattle.std.specs.Bool.{MatchBool}
use Rattle.std.specs.Str.{IsAscii, IsNotAscii}
use borrow.Author.Tests.{le-leb, leb-true}
use Rattle.rules.specs.Text.{plain}

all_plain : (xs : List ℕ) → IsAscii xs → true ≡ plain xs
unfolding plain
all_plain [] h = refl
all_plain (b ∷ bs) h = let l : b < 128 = h 0 in rw (plain, le-leb b 127 (omega (arith, l))) (all_plain bs (λ k. h (suc k)))

not_plain : (xs : List ℕ) (k : ℕ) → 128 ≤ get_or xs k 0 → false ≡ plain xs
unfolding plain
not_plain [] k h = absurd (omega arith)
not_plain (b ∷ bs) k h = go (leb b 127) refl k h (not_plain bs)
  where
    go : (t : Bool) → leb b 127 ≡ t → (k : ℕ) → 128 ≤ get_or (b ∷ bs) k 0 → ((j : ℕ) → 128 ≤ get_or bs j 0 → false ≡ plain bs) → false ≡ elim t [ true ↦ plain bs | false ↦ false ]
    go true f zero l ih = let s = leb-true b 127 f in absurd (omega (arith, s))
    go true f (suc k) l ih = ih k l
    go false f k l ih = refl

pub plain_cases : (b : Bool) (xs : List ℕ) → MatchBool b (IsAscii xs) (IsNotAscii xs) → b ≡ plain xs
plain_cases true xs h = all_plain xs h
plain_cases false xs h = not_plain xs h.0 h.1
