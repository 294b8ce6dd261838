-- Tables of rows, count of them in use: a cell, a row more, rows less, and what stands in a span of the lists. Assumes nothing.
use Rattle.std.specs.Prelude.{◌≡◌, length, get_or, take, set, replicate, Some as some}
use Rattle.std.proofs.Math.Path.{refl}
use Rattle.std.proofs.Common.{sym, ap, ◌∙◌, arith, mul-le-mul_left, mul-suc, length-append}
use Prim.Native.Nat.{ℕ, zero, suc, ◌+◌, ◌-◌, ◌*◌, ◌<◌, ◌≤◌}
use mathlib.Core.List.{List, [], ◌∷◌, ◌++◌}
use Rattle.std.proofs.Math.ListN.{get_or-eq_default}
use Rattle.std.proofs.lemmas.List.Edits.{sets}
use Rattle.rules.specs.Find.{entry}
use Rattle.rules.specs.TheoryTables.{filled}
use Rattle.rules.specs.Laws.Theory.{All, empty, both}
use Rattle.rules.specs.Laws.Row.{length_filled}
use Rattle.state.specs.Filled.{filled_at, filled_more, filled_set, filled_back}

-- Lists --------------------------------------------------------------------------------------------------------------------------

module _ {A : Type 0} where
  pub all_front : {P : A → Type 0} (xs ys : List A) → All P (xs ++ ys) → All P xs
  all_front [] ys h = empty
  all_front (x ∷ xs) ys (both p h) = both p (all_front xs ys h)

  pub all_append : {P : A → Type 0} (xs ys : List A) → All P xs → All P ys → All P (xs ++ ys)
  all_append [] ys g h = h
  all_append (x ∷ xs) ys (both p g) h = both p (all_append xs ys g h)

  pub entry_at : (xs : List A) (k : ℕ) (d : A) → k < length xs → entry xs k ≡ some (get_or xs k d)
  unfolding entry
  entry_at [] k d l = absurd (omega arith)
  entry_at (x ∷ xs) zero d l = refl
  entry_at (x ∷ xs) (suc k) d l = entry_at xs k d (omega arith)

  pub length_one_more : (xs : List A) (y : A) → length (xs ++ (y ∷ [])) ≡ length xs + 1
  length_one_more xs y = omega (arith, length-append xs (y ∷ []))

-- Tables of rows -----------------------------------------------------------------------------------------------------------------

-- count rows of w cells, of at most N: the cells are these, and zero behind
pub record Tabled (w N : ℕ) (table : List ℕ) (count : ℕ) (cells : List ℕ) : Type 0 where
  pub is : table ≡ filled (w * N) cells
  pub many : length cells ≡ w * count
  pub few : count ≤ N

module _ {w N : ℕ} {table : List ℕ} {count : ℕ} {cells : List ℕ} (t : Tabled w N table count cells) where
  pub tabled_fits : length cells ≤ w * N
  tabled_fits = let l = mul-le-mul_left w t.few in omega (arith, t.many)

  pub tabled_long : length table ≡ w * N
  tabled_long = ap length t.is ∙ length_filled (w * N) cells

  pub tabled_at : (i : ℕ) → get_or table i 0 ≡ get_or cells i 0
  tabled_at i = ap (λ l. get_or l i 0) t.is ∙ filled_at (w * N) cells tabled_fits i

  pub tabled_behind : (k j : ℕ) → count ≤ k → get_or table (w * k + j) 0 ≡ 0
  tabled_behind k j l =
      tabled_at (w * k + j) ∙ get_or-eq_default cells 0 {n = w * k + j} (let m = mul-le-mul_left w l in omega (arith, t.many))

  pub tabled_set : (i v : ℕ) (now : List ℕ) → i < length cells → now ≡ set cells i v → set table i v ≡ filled (w * N) now
  tabled_set i v now l e = ap (λ l. set l i v) t.is ∙ filled_set (w * N) cells tabled_fits i v l ∙ ap (filled (w * N)) (sym e)

  -- one row more
  pub tabled_more : (row : List ℕ) → length row ≡ w → count < N → Tabled w N (sets table (w * count) row) (count + 1) (cells ++ row)
  tabled_more row e l =
      let m = mul-le-mul_left w (let z : suc count ≤ N = omega arith in z) in
      let n = mul-suc w count in
      let c : count + 1 ≡ suc count = omega arith in
      record {
        is = ap (λ l. sets l (w * count) row) t.is
            ∙ filled_more (w * N) cells tabled_fits (w * count) row (sym t.many) (omega (arith, t.many));
        many = length-append cells row ∙ (let z : length cells + length row ≡ w * suc count = omega (arith, t.many) in z) ∙ ap (λ k. w * k) (sym c);
        few = omega arith;
      }

-- rows less: zero from row `few` on
pub tabled_back : {w N : ℕ} {table : List ℕ} {count : ℕ} {cells : List ℕ} (few : ℕ) (front back : List ℕ) → Tabled w N table count cells →
    cells ≡ front ++ back → length front ≡ w * few → few ≤ N → Tabled w N (take (w * few) table ++ replicate (w * N - w * few) 0) few front
tabled_back {w} {N} {table} {count} {cells} few front back t q e l =
    record {
      is = ap (λ l. take (w * few) l ++ replicate (w * N - w * few) 0) (t.is ∙ ap (filled (w * N)) q)
          ∙ filled_back (w * N) front back (omega (arith, length-append front back, ap length q, tabled_fits t)) (w * few) (sym e);
      many = e;
      few = l;
    }
