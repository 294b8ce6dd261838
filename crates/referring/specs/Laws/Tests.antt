-- A test that is put to each number of a list. Assumes nothing.
use Rattle.std.specs.Prelude.{◌≡◌, refl, Bool, true, false, List, [], ◌∷◌, ℕ, suc, ◌<◌, length, get_or}
use Rattle.std.proofs.Common.{arith}
use Rattle.rules.specs.Find.{all}

-- two tests that agree on each of them
pub all_same : (p q : ℕ → Bool) (xs : List ℕ) → ((k : ℕ) → k < length xs → p (get_or xs k 0) ≡ q (get_or xs k 0)) → all p xs ≡ all q xs
unfolding all
all_same p q [] h = refl
all_same p q (x ∷ xs) h =
    λ i. elim (h 0 (omega arith) i) [ true ↦ all_same p q xs (λ k l. h (suc k) (omega (arith, l))) i | false ↦ false ]
