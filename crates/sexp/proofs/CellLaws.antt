-- Cells that are stored one behind the other, and cells that are zero. Assumes nothing.
use mathlib.Core.Path.{◌≡◌, sym, ap, ◌∙◌}
use Prim.Native.Nat.{ℕ, suc, ◌+◌, ◌-◌, ◌≤◌, ◌<◌}
use mathlib.Core.List.{List, [], ◌∷◌, ◌++◌, append_assoc}
use native.Mathlib.Numerals.{add-one}
use native.Mathlib.Omega.{arith}
use lib.ListN.{length, drop, set, get_or, replicate, length-append, length-drop, length-replicate, replicate-append-replicate}
use lib.Seq.{drop-cons, set_at, drop_at}
use Rattle.sexp.specs.Reads.{Clear}

-- a cell stored behind the cells that are laid
pub stored : (L w₀ w : List ℕ) (u v : ℕ) → w ≡ L ++ drop u w₀ → length L ≡ u → u < length w₀ → set w u v ≡ (L ++ (v ∷ [])) ++ drop (u + 1) w₀
stored L w₀ w u v e f h = rw (e, drop-cons w₀ u 0 h, add-one) (set_at L (get_or w₀ u 0) (drop (suc u) w₀) v u f ∙ sym (append_assoc L (v ∷ []) (drop (suc u) w₀)))

pub laid_length : (L w₀ w : List ℕ) (u : ℕ) → w ≡ L ++ drop u w₀ → length L ≡ u → u ≤ length w₀ → length w ≡ length w₀
laid_length L w₀ w u e f h = ap length e ∙ omega (arith, length-append L (drop u w₀), length-drop u w₀)

zeros_apart : (n m : ℕ) → drop {A = ℕ} n (replicate (n + m) 0) ≡ replicate m 0
zeros_apart n m = ap (drop n) (sym (replicate-append-replicate n m 0)) ∙ drop_at (replicate n 0) (replicate m 0) n (length-replicate n 0)

-- the cells behind some are zero, where all are
pub zeros_behind : (w : List ℕ) (n : ℕ) → Clear w → n ≤ length w → drop n w ≡ replicate (length w - n) 0
zeros_behind w n z h =
    let e : length w ≡ n + (length w - n) = omega arith in
    ap (drop n) (z ∙ ap (λ (k : ℕ). replicate k 0) e) ∙ zeros_apart n (length w - n)

-- the laid cells are set back
pub cleared : (L w₀ w : List ℕ) (u : ℕ) → Clear w₀ → w ≡ L ++ drop u w₀ → length L ≡ u → u ≤ length w₀ → replicate u 0 ++ drop u w ≡ replicate (length w₀) 0
cleared L w₀ w u z e f h =
    let k : u + (length w₀ - u) ≡ length w₀ = omega arith in
    rw (e, drop_at L (drop u w₀) u f, zeros_behind w₀ u z h) (replicate-append-replicate u (length w₀ - u) 0 ∙ ap (λ (n : ℕ). replicate n 0) k)
