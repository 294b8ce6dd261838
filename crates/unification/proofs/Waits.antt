-- Cells of pairs against the definition of unification: pairs put onto those that wait, and that trees made later do not change them. Assumes
-- nothing.
use mathlib.Core.Path.{◌≡◌, refl, sym, ap, ◌∙◌}
use mathlib.Core.List.{List, [], ◌∷◌, ◌++◌}
use Prim.Native.Nat.{ℕ, zero, suc, ◌+◌, ◌*◌, ◌≤◌, ◌<◌}
use native.Mathlib.Omega.{arith}
use lib.ListN.{length, get_or, take, set, length-set}
use lib.Seq.{take-suc, length-take-le, get_or-set_same, get_or-set_other}
use Rattle.rules.specs.Tree.{var}
use Rattle.rules.specs.Store.{Made}
use Rattle.rules.specs.Unify.{Pair, push}
use Rattle.terms.specs.Table.{args_of}
use Rattle.unification.specs.Pairs.{waits, piled}

-- Pairs that wait ------------------------------------------------------------------------------------------------------------------

-- the trees of the cells are all that counts
waits_by : (M N : Made) (P Q : List ℕ) (n : ℕ) → ((i : ℕ) → i < 2 * n → get_or N (get_or Q i 0) (var 0) ≡ get_or M (get_or P i 0) (var 0)) → waits N Q n ≡ waits M P n
unfolding waits
waits_by M N P Q zero h = refl
waits_by M N P Q (suc n) h =
    let l = h (2 * n) (omega arith) in
    let r = h (2 * n + 1) (omega arith) in
    let ih = waits_by M N P Q n (λ i p. h i (omega arith)) in
    λ i. record { left = l i; right = r i } ∷ ih i

pub waits_more : (M N : Made) (k : ℕ) (P : List ℕ) (n : ℕ) → ((i : ℕ) → i < k → get_or N i (var 0) ≡ get_or M i (var 0)) → ((i : ℕ) → i < 2 * n → get_or P i 0 < k) → waits N P n ≡ waits M P n
waits_more M N k P n e b = waits_by M N P P n (λ i p. e (get_or P i 0) (b i p))

-- the last of the arguments are on top
push_last : (M : Made) (xs ys : List ℕ) (x y : ℕ) (q : List Pair) → length xs ≡ length ys
    → push (args_of M (xs ++ (x ∷ []))) (args_of M (ys ++ (y ∷ []))) q ≡ record { left = get_or M x (var 0); right = get_or M y (var 0) } ∷ push (args_of M xs) (args_of M ys) q
unfolding push args_of
push_last M [] [] x y q e = refl
push_last M [] (b ∷ ys) x y q e = absurd (omega arith)
push_last M (a ∷ xs) [] x y q e = absurd (omega arith)
push_last M (a ∷ xs) (b ∷ ys) x y q e = push_last M xs ys x y (record { left = get_or M a (var 0); right = get_or M b (var 0) } ∷ q) (omega arith)

pub length_piled : (xs ys P : List ℕ) (w n : ℕ) → length (piled xs ys P w n) ≡ length P
unfolding piled
length_piled xs ys P w zero = refl
length_piled xs ys P w (suc k) =
    length-set (set (piled xs ys P w k) (2 * (w + k)) (get_or xs k 0)) (2 * (w + k) + 1) (get_or ys k 0)
    ∙ length-set (piled xs ys P w k) (2 * (w + k)) (get_or xs k 0)
    ∙ length_piled xs ys P w k

-- two cells are written, and those below are as they were
module _ (P : List ℕ) (j x y : ℕ) (h : j + 1 < length P) where
  two_below : (i : ℕ) → i < j → get_or (set (set P j x) (j + 1) y) i 0 ≡ get_or P i 0
  two_below i l = get_or-set_other (set P j x) (j + 1) i y 0 (λ q. omega arith) ∙ get_or-set_other P j i x 0 (λ q. omega arith)

  two_first : get_or (set (set P j x) (j + 1) y) j 0 ≡ x
  two_first = get_or-set_other (set P j x) (j + 1) j y 0 (λ q. omega arith) ∙ get_or-set_same P j x 0 (omega arith)

  two_second : get_or (set (set P j x) (j + 1) y) (j + 1) 0 ≡ y
  two_second = let z = length-set P j x in get_or-set_same (set P j x) (j + 1) y 0 (omega arith)

pub waits_piled : (M : Made) (xs ys P : List ℕ) (w n : ℕ) → n ≤ length xs → n ≤ length ys → 2 * (w + n) ≤ length P
    → waits M (piled xs ys P w n) (w + n) ≡ push (args_of M (take n xs)) (args_of M (take n ys)) (waits M P w)
unfolding waits piled push args_of
waits_piled M xs ys P w zero f g h = let z : w + 0 ≡ w = omega arith in ap (waits M P) z
waits_piled M xs ys P w (suc n) f g h =
    let Q = piled xs ys P w n in
    let x = get_or xs n 0 in
    let y = get_or ys n 0 in
    let R = set (set Q (2 * (w + n)) x) (2 * (w + n) + 1) y in
    let l = length_piled xs ys P w n in
    let z : w + suc n ≡ suc (w + n) = omega arith in
    let ih = waits_piled M xs ys P w n (omega arith) (omega arith) (omega arith) in
    let c = two_first Q (2 * (w + n)) x y (omega arith) in
    let d = two_second Q (2 * (w + n)) x y (omega arith) in
    let u = waits_by M M Q R (w + n) (λ i p. ap (λ (k : ℕ). get_or M k (var 0)) (two_below Q (2 * (w + n)) x y (omega arith) i p)) in
    let ra = length-take-le n xs (omega arith) in
    let rb = length-take-le n ys (omega arith) in
    ap (waits M R) z
    ∙ (λ i. record { left = get_or M (c i) (var 0); right = get_or M (d i) (var 0) } ∷ (u ∙ ih) i)
    ∙ sym ((λ i. push (args_of M (take-suc xs n 0 f i)) (args_of M (take-suc ys n 0 g i)) (waits M P w)) ∙ push_last M (take n xs) (take n ys) x y (waits M P w) (omega arith))
