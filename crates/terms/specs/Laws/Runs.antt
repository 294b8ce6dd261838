-- Runs of words in a table. Assumes nothing.
use Rattle.std.specs.Prelude.{◌≡◌, List, [], ◌∷◌, ℕ, suc, ◌+◌, ◌-◌, ◌≤◌, ◌<◌, length, get_or, drop}
use Rattle.std.proofs.Common.{sym, ◌∙◌, arith, add-one, length-drop, length-take-le, get_or-take, get_or-drop, drop-cons, ext_get_or}
use Rattle.terms.specs.Table.{run}

pub run_length : (W : List ℕ) (a len : ℕ) → a + len ≤ length W → length (run W a len) ≡ len
run_length W a len h = length-take-le len (drop a W) (simp length-drop (omega arith))

pub run_at : (W : List ℕ) (a n j : ℕ) → j < n → get_or (run W a n) j 0 ≡ get_or W (a + j) 0
run_at W a n j h = get_or-take n (drop a W) j 0 h ∙ get_or-drop a W j 0

pub run_more : (W : List ℕ) (a b : ℕ) → a < b → b ≤ length W → run W a (b - a) ≡ get_or W a 0 ∷ run W (a + 1) (b - (a + 1))
run_more W a b h k =
    let e : b - a ≡ suc (b - (a + 1)) = omega arith in
    let l : a < length W = omega arith in
    rw (e, drop-cons W a 0 l, add-one a)

pub run_none : (W : List ℕ) (a b : ℕ) → b ≤ a → run W a (b - a) ≡ []
run_none W a b h = let e : b - a ≡ 0 = omega arith in rw e

pub run_same : (W X : List ℕ) (u s l : ℕ) → ((i : ℕ) → i < u → get_or X i 0 ≡ get_or W i 0) → length X ≡ length W → s + l ≤ u → u ≤ length W → run X s l ≡ run W s l
run_same W X u s l e n h k =
    let a = run_length W s l (omega arith) in
    let b = run_length X s l (omega arith) in
    ext_get_or 0 (run X s l) (run W s l) (omega arith) (λ i p. run_at X s l i (omega arith) ∙ e (s + i) (omega arith) ∙ sym (run_at W s l i (omega arith)))
