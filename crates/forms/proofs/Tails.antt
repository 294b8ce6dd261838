-- The tail of a table, lent and written: zero before, filled, cleared again. Assumes nothing.
use mathlib.Core.Path.{◌≡◌, sym, ap, ◌∙◌}
use mathlib.Core.List.{List, ◌++◌, append-nil, append_assoc}
use Prim.Native.Nat.{ℕ, ◌+◌, ◌-◌, ◌<◌, ◌≤◌}
use native.Mathlib.Omega.{arith}
use Rattle.std.specs.Prelude.{min}
use Rattle.std.proofs.Math.Nat.{min-le_left, min-eq_right, le-min}
use lib.ListN.{length, take, drop, replicate, length-append, length-drop, drop_of_length-le, take-append-drop}
use lib.Seq.{sets, sets-eq, take_all, take_at, drop-drop, drop-append-add, length-take-le}
use Rattle.rules.specs.TheoryTables.{filled}
use Rattle.rules.specs.Laws.Row.{filled_fits}
use Rattle.state.specs.Filled.{drop_zeros}

-- A tail that was lent -----------------------------------------------------------------------------------------------------------------

-- what the table is when the tail from `at` on came back
abbrev pub tailed : List ℕ → ℕ → List ℕ → List ℕ
tailed L at last = take at L ++ (last ++ drop (length L - at) (drop at L))

module _ (L : List ℕ) (at : ℕ) where
  tail_whole : take (length L - at) (drop at L) ≡ drop at L
  tail_whole = take_all (length L - at) (drop at L) (omega (arith, length-drop at L))

  pub tailed_is : (last : List ℕ) → tailed L at last ≡ take at L ++ last
  tailed_is last =
      ap (λ t. take at L ++ (last ++ t)) (drop_of_length-le (drop at L) {i = length L - at} (omega (arith, length-drop at L)))
      ∙ ap (λ t. take at L ++ t) (append-nil last)

  -- as it was
  pub tailed_same : {last : List ℕ} → last ≡ take (length L - at) (drop at L) → tailed L at last ≡ L
  tailed_same {last} e = tailed_is last ∙ ap (λ t. take at L ++ t) (e ∙ tail_whole) ∙ take-append-drop at L

  -- with cells in front
  pub tailed_written : (vs : List ℕ) {last : List ℕ} → at + length vs ≤ length L → last ≡ vs ++ drop (length vs) (take (length L - at) (drop at L)) →
      tailed L at last ≡ sets L at vs
  tailed_written vs {last} h e =
      tailed_is last
      ∙ ap (λ t. take at L ++ t) (e ∙ ap (λ t. vs ++ t) (ap (drop (length vs)) tail_whole ∙ drop-drop (length vs) at L))
      ∙ sym (append_assoc (take at L) vs (drop (at + length vs) L)) ∙ sym (sets-eq vs L at h)

-- A tail that is zero ------------------------------------------------------------------------------------------------------------------

-- what stands in front fills no cell from `at` on
pub zero_behind : (N : ℕ) (xs : List ℕ) {L : List ℕ} → L ≡ filled N xs → length xs ≤ N → (at : ℕ) → length xs ≤ at → drop at L ≡ replicate (N - at) 0
zero_behind N xs e h at l =
    let k : at ≡ length xs + (at - length xs) = omega arith in
    ap (drop at) (e ∙ filled_fits N xs h) ∙ ap (λ j. drop j (xs ++ replicate (N - length xs) 0)) k
    ∙ drop-append-add xs (replicate (N - length xs) 0) (at - length xs) ∙ drop_zeros (at - length xs) (N - length xs)
    ∙ ap (λ j. replicate j 0) (let z : N - length xs - (at - length xs) ≡ N - at = omega arith in z)

module _ (L : List ℕ) (N : ℕ) (long : length L ≡ N) (at : ℕ) (m : at ≤ N) (zero : drop at L ≡ replicate (N - at) 0) where
  pub tail_long : length (take (length L - at) (drop at L)) ≡ N - at
  tail_long = ap length (tail_whole L at) ∙ length-drop at L ∙ ap (λ j. j - at) long

  -- what a reader of judgments is lent
  pub tail_zero : take (length L - at) (drop at L) ≡ replicate (length (take (length L - at) (drop at L))) 0
  tail_zero = tail_whole L at ∙ zero ∙ ap (λ j. replicate j 0) (sym tail_long)

  front_long : length (take at L) ≡ at
  front_long = length-take-le at L (omega (arith, long))

  -- however it came back
  pub tailed_long : (out : List ℕ) → length out ≡ length (take (length L - at) (drop at L)) → length (tailed L at out) ≡ N
  tailed_long out k =
      ap length (tailed_is L at out) ∙ length-append (take at L) out
      ∙ (let z = front_long in let q = tail_long in let y : length (take at L) + length out ≡ N = omega arith in y)

  -- it came back with numbers that fit
  pub tail_filled : (ps : List ℕ) {out : List ℕ} → out ≡ filled (length out) ps → length out ≡ length (take (length L - at) (drop at L)) → at + length ps ≤ N →
      tailed L at out ≡ sets L at ps
  tail_filled ps {out} o k f =
      let fits : length ps ≤ N - at = omega arith in
      let rest : drop (at + length ps) L ≡ replicate (N - at - length ps) 0 =
      sym (drop-drop (length ps) at L) ∙ ap (drop (length ps)) zero ∙ drop_zeros (length ps) (N - at) in
      tailed_is L at out
      ∙ ap (λ t. take at L ++ t) (o ∙ ap (λ j. filled j ps) (k ∙ tail_long) ∙ filled_fits (N - at) ps fits)
      ∙ sym (append_assoc (take at L) ps (replicate (N - at - length ps) 0))
      ∙ ap (λ t. (take at L ++ ps) ++ t) (sym rest)
      ∙ sym (sets-eq ps L at (omega (arith, long)))

  -- however it came back, cleared it is as it was
  pub tail_again : (out : List ℕ) {L' last : List ℕ} → length out ≡ length (take (length L - at) (drop at L)) → L' ≡ tailed L at out →
      last ≡ replicate (length (take (length L' - at) (drop at L'))) 0 → tailed L' at last ≡ L
  tail_again out {L'} {last} k t c =
      let w : L' ≡ take at L ++ out = t ∙ tailed_is L at out in
      let n : length L' ≡ N = ap length t ∙ tailed_long out k in
      let i : length (take (length L' - at) (drop at L')) ≡ N - at = ap length (tail_whole L' at) ∙ length-drop at L' ∙ ap (λ j. j - at) n in
      let front : take at L' ≡ take at L = ap (take at) w ∙ take_at (take at L) out at front_long in
      let zeros : last ≡ drop at L = c ∙ ap (λ j. replicate j 0) i ∙ sym zero in
      tailed_is L' at last ∙ (λ j. front j ++ zeros j) ∙ take-append-drop at L

-- Behind one entry more, as far as there is room ---------------------------------------------------------------------------------------

module _ (used all : ℕ) {from : ℕ} (e : from ≡ min all (used + 1)) where
  pub behind_is : used < all → from ≡ used + 1
  behind_is l = e ∙ min-eq_right (let z : used + 1 ≤ all = omega (arith, l) in z)

  pub behind_high : from ≤ all
  behind_high = omega (arith, e, min-le_left all (used + 1))

  pub behind_low : used ≤ all → used ≤ from
  behind_low h = omega (arith, e, le-min {k = used} {a = all} {b = used + 1} h (omega arith))
