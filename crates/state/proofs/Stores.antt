-- Rows that are written cell by cell or as a whole. Assumes nothing.
use mathlib.Core.Path.{◌≡◌, sym, ap, ◌∙◌}
use Prim.Native.Nat.{ℕ, suc, ◌+◌, ◌-◌, ◌≤◌}
use mathlib.Core.List.{List, [], ◌∷◌, ◌++◌, append-nil, append_assoc}
use native.Mathlib.Omega.{arith}
use native.Mathlib.Numerals.{add-one, add-two}
use lib.ListN.{length, get_or, take, drop, set, length-drop, drop_of_length-le}
use lib.Seq.{sets, sets-eq, take_all, drop-drop}

-- the first cell of a row
pub first_cell : (l : List ℕ) (i : ℕ) → get_or l i 0 ≡ get_or l (i + 0) 0
first_cell l i = ap (λ k. get_or l k 0) (let e : i ≡ i + 0 = omega arith in e)

three : (i : ℕ) → i + 3 ≡ suc (suc (suc i))
three i = omega arith

pub stores3 : (l : List ℕ) (i a b c : ℕ) → set (sets l i (a ∷ b ∷ [])) (i + 2) c ≡ sets l i (a ∷ b ∷ c ∷ [])
stores3 l i a b c = rw (add-two i)

pub stores4 : (l : List ℕ) (i a b c d : ℕ) → sets (set (set l i a) (i + 1) b) (i + 2) (c ∷ d ∷ []) ≡ sets l i (a ∷ b ∷ c ∷ d ∷ [])
stores4 l i a b c d = rw (add-one i, add-two i)

pub stores6 : (l : List ℕ) (i a b c d e f : ℕ) →
    set (set (set (set (sets l i (a ∷ b ∷ [])) (i + 2) c) (i + 3) d) (i + 4) e) (i + 5) f ≡ sets l i (a ∷ b ∷ c ∷ d ∷ e ∷ f ∷ [])
stores6 l i a b c d e f =
    let four : i + 4 ≡ suc (suc (suc (suc i))) = omega arith in
    let five : i + 5 ≡ suc (suc (suc (suc (suc i)))) = omega arith in
    rw (add-two i, three i, four, five)

-- a tail that is written from its first cell on
pub tail_sets : (l : List ℕ) (at : ℕ) (tail vs : List ℕ) → at + length vs ≤ length l → tail ≡ sets (take (length l - at) (drop at l)) 0 vs →
    take at l ++ (tail ++ drop (length l - at) (drop at l)) ≡ sets l at vs
tail_sets l at tail vs h e =
    let n = length-drop at l in
    let all : take (length l - at) (drop at l) ≡ drop at l = take_all (length l - at) (drop at l) (omega arith) in
    let z : 0 + length vs ≡ length vs = omega arith in
    ap (λ t. take at l ++ (t ++ drop (length l - at) (drop at l))) (e ∙ ap (λ t. sets t 0 vs) all ∙ sets-eq vs (drop at l) 0 (omega arith)
    ∙ ap (λ k. vs ++ drop k (drop at l)) z ∙ ap (λ t. vs ++ t) (drop-drop (length vs) at l))
    ∙ ap (λ t. take at l ++ ((vs ++ drop (at + length vs) l) ++ t)) (drop_of_length-le (drop at l) {i = length l - at} (omega arith))
    ∙ ap (λ t. take at l ++ t) (append-nil (vs ++ drop (at + length vs) l))
    ∙ sym (append_assoc (take at l) vs (drop (at + length vs) l)) ∙ sym (sets-eq vs l at h)
