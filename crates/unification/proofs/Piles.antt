-- Pairs that come onto those that wait. Assumes nothing.
use mathlib.Core.Path.{◌≡◌, refl, sym, ap, ◌∙◌}
use mathlib.Core.List.{List, ◌∷◌}
use Prim.Native.Nat.{ℕ, suc, ◌+◌, ◌-◌, ◌*◌, ◌≤◌, ◌<◌}
use native.Mathlib.Omega.{arith}
use lib.ListN.{length, get_or, set, drop, length-set, length-drop}
use lib.Seq.{drop-cons}
use Rattle.unification.specs.Pairs.{piled}

-- k pairs have come, so that v wait, and ls and rs are still to come
pub record Piling (xs ys P : List ℕ) (w : ℕ) (now : List ℕ) (v : ℕ) (ls rs : List ℕ) : Type 0 where
  pub k : ℕ
  pub upto : k ≤ length xs
  pub waits : v ≡ w + k
  pub left : ls ≡ drop k xs
  pub right : rs ≡ drop k ys
  pub even : length ys ≡ length xs
  pub room : 2 * (w + length xs) ≤ length P
  pub long : length now ≡ length P
  pub so_far : now ≡ piled xs ys P w k

pub piling_begins : (xs ys P : List ℕ) (w : ℕ) {ls rs : List ℕ} → (length ys ≡ length xs) × (2 * (w + length xs) ≤ length P) → ls ≡ xs → rs ≡ ys → Piling xs ys P w P w ls rs
unfolding piled
piling_begins xs ys P w q a b = record { k = 0; upto = omega arith; waits = omega arith; left = a; right = b; even = q.0; room = q.1; long = refl; so_far = refl }

module _ (xs ys P : List ℕ) (w : ℕ) (now : List ℕ) (v : ℕ) {ls rs : List ℕ} (q : Piling xs ys P w now v ls rs) where
  module _ {x y : ℕ} {ls' rs' : List ℕ} (a : ls ≡ x ∷ ls') (b : rs ≡ y ∷ rs') where
    more : suc (length ls') ≡ length xs - q.k
    more = ap (λ (l : List ℕ). length l) (sym a ∙ q.left) ∙ length-drop q.k xs

    taken : (zs cs : List ℕ) (z : ℕ) → z ∷ cs ≡ drop q.k zs → q.k < length zs → (z ≡ get_or zs q.k 0) × (cs ≡ drop (q.k + 1) zs)
    taken zs cs z e l =
        let c : q.k + 1 ≡ suc q.k = omega arith in
        let f : z ∷ cs ≡ get_or zs q.k 0 ∷ drop (suc q.k) zs = e ∙ drop-cons zs q.k 0 l in
        (ap (λ (l : List ℕ). get_or l 0 0) f, ap (λ (l : List ℕ). drop 1 l) f ∙ ap (λ (j : ℕ). drop j zs) (sym c))

    pub piling_on : Piling xs ys P w (set (set now (2 * v) x) (2 * v + 1) y) (v + 1) ls' rs'
    unfolding piled
    piling_on =
        let i : q.k < length xs = omega (arith, more) in
        let c = taken xs ls' x (sym a ∙ q.left) i in
        let d = taken ys rs' y (sym b ∙ q.right) (omega (arith, q.even)) in
        let e : suc q.k ≡ q.k + 1 = omega arith in
        record {
          k = q.k + 1;
          upto = omega arith;
          waits = omega (arith, q.waits);
          left = c.1;
          right = d.1;
          even = q.even;
          room = q.room;
          long = length-set (set now (2 * v) x) (2 * v + 1) y ∙ length-set now (2 * v) x ∙ q.long;
          so_far =
              (λ j. set (set (q.so_far j) (2 * q.waits j) (c.0 j)) (2 * q.waits j + 1) (d.0 j))
              ∙ ap (λ (j : ℕ). piled xs ys P w j) e;
        }

  -- as many are to come of either
  pub piling_level : (length ls ≡ length xs - q.k) × (length rs ≡ length xs - q.k)
  piling_level = (ap (λ (l : List ℕ). length l) q.left ∙ length-drop q.k xs, ap (λ (l : List ℕ). length l) q.right ∙ length-drop q.k ys ∙ ap (λ (n : ℕ). n - q.k) q.even)

  pub piling_ends : length ls ≡ 0 → (now ≡ piled xs ys P w (length xs)) × (v ≡ w + length xs)
  piling_ends z =
      let e : q.k ≡ length xs = omega (arith, q.upto, piling_level, z) in
      (q.so_far ∙ ap (λ (j : ℕ). piled xs ys P w j) e, q.waits ∙ ap (λ (j : ℕ). w + j) e)
