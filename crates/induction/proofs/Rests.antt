-- What a case may rest on, by numbers: cells compared, variables generalised, rows of induction hypotheses. Assumes nothing.
use mathlib.Core.Path.{◌≡◌, refl, sym, ap, ◌∙◌, subst}
use mathlib.Core.Bool.{Bool, true, false, ◌&&◌, ◌||◌, not}
use mathlib.Core.List.{List, [], ◌∷◌, ◌++◌}
use Prim.Native.Nat.{ℕ, zero, suc, ◌+◌, ◌-◌, ◌*◌, ◌<◌, ◌≤◌}
use native.Mathlib.Omega.{arith}
use native.Mathlib.Decide.{dec_lt}
use native.Mathlib.Nat.{suc-mul}
use lib.Dec.{eqb}
use lib.ListN.{length, get_or, take, drop, length-drop, length-append, get_or-append}
use lib.Pointwise.{pointwise}
use lib.Seq.{drop_at, get_or-drop, get_or-take, take-nil, length-take-le}
use Rattle.rules.specs.Find.{Set, any}
use Rattle.rules.specs.Tree.{same_tree, same_trees}
use Rattle.terms.specs.declared.store.Mark.{Mark}
use Rattle.terms.specs.Table.{Below, made, tree, args_of, Good}
use Rattle.terms.specs.Node.{same_words}
use Rattle.terms.specs.Laws.Numbers.{same_number, same_numbers}
use Rattle.induction.specs.Inducing.{hyps_in, row_among}
use denote.Ref.{Bor}
use denote.Param.Members.{Mut}
use Rattle.std.specs.Fn.{Called}
use Rattle.std.specs.Prelude.{Option, Some, None}
use Rattle.std.specs.Option.{MatchOption}
use Rattle.std.specs.Iterator.{Yields, YieldsThen}
use Rattle.std.specs.List.{FoldsTo}

-- Cells compared ------------------------------------------------------------------------------------------------------------------------

pub slices_same : (a b : List ℕ) → pointwise eqb a b ≡ same_words a b
unfolding same_words
slices_same [] [] = refl
slices_same [] (y ∷ ys) = refl
slices_same (x ∷ xs) [] = refl
slices_same (x ∷ xs) (y ∷ ys) = go (eqb x y) (slices_same xs ys)
  where
    go : (b : Bool) → pointwise eqb xs ys ≡ same_words xs ys → (b && pointwise eqb xs ys) ≡ elim b [ true ↦ same_words xs ys | false ↦ false ]
    go true e = e
    go false e = refl

-- Variables generalised --------------------------------------------------------------------------------------------------------------------

abbrev pub other : Set → ℕ → ℕ → Bool
other used x g = used g && not (eqb g x)

-- Rows of induction hypotheses --------------------------------------------------------------------------------------------------------------

-- a row has these premises and this judgment
abbrev pub is_row : ℕ → List ℕ → ℕ → List ℕ → Bool
is_row w own j row = eqb (get_or row w 0) j && pointwise eqb (take w row) own

-- what is left, and so many rows it is
pub record Rowing (own : List ℕ) (j w : ℕ) (ids : List ℕ) (many : ℕ) (rest : List ℕ) : Type 0 where
  pub left : ℕ
  pub on : row_among w many ids own j ≡ row_among w left rest own j
  pub filled : length rest ≡ left * suc w

pub rowing_start : {own : List ℕ} {j w : ℕ} {ids : List ℕ} {many : ℕ} {rest : List ℕ} → rest ≡ ids → length ids ≡ many * suc w → Rowing own j w ids many rest
rowing_start {own} {j} {w} {many = many} e f = record { left = many; on = ap (λ (l : List ℕ). row_among w many l own j) (sym e); filled = ap length e ∙ f }

module _ {own : List ℕ} {j w : ℕ} {ids : List ℕ} {many : ℕ} {rest : List ℕ} (h : Rowing own j w ids many rest) where
  pub rowing_done : length rest < suc w → false ≡ row_among w many ids own j
  unfolding row_among
  rowing_done short = sym (h.on ∙ ap (λ (n : ℕ). row_among w n rest own j) none)
    where
      none : h.left ≡ 0
      none = elim (dec_lt 0 h.left) [
        | yes p ↦
            let e : h.left ≡ suc (h.left - 1) = omega arith in
            absurd (omega (arith, short, h.filled, ap (λ (n : ℕ). n * suc w) e, suc-mul (h.left - 1) (suc w)))
        | no q ↦ omega arith
      ]

  -- a row more
  module _ (row rest' : List ℕ) (e : rest ≡ row ++ rest') (l : length row ≡ suc w) where
    fewer : h.left ≡ suc (h.left - 1)
    fewer = elim (dec_lt 0 h.left) [
      | yes p ↦ omega arith
      | no q ↦ let z : h.left ≡ 0 = omega arith in absurd (omega (arith, h.filled, ap (λ (n : ℕ). n * suc w) z, ap length e, length-append row rest', l))
    ]

    step : row_among w many ids own j ≡ (same_words (take w row) own && eqb (get_or row w 0) j) || row_among w (h.left - 1) rest' own j
    unfolding row_among
    step =
        h.on
        ∙ (λ i. row_among w (fewer i) (e i) own j)
        ∙ (λ i. (same_words (take_front row rest' w (omega (arith, l)) i) own && eqb (get_or-append row rest' 0 w (omega (arith, l)) i) j)
        || row_among w (h.left - 1) (drop_at row rest' (suc w) l i) own j)
      where
        take_front : (xs ys : List ℕ) (k : ℕ) → k ≤ length xs → take k (xs ++ ys) ≡ take k xs
        take_front [] ys k q = let z : k ≡ 0 = omega (arith, q) in ap (λ (n : ℕ). take n ys) z ∙ sym (take-nil k)
        take_front (x ∷ xs) ys zero q = refl
        take_front (x ∷ xs) ys (suc k) q = ap (λ (l : List ℕ). x ∷ l) (take_front xs ys k (omega arith))

    swap : (p q : Bool) → (p && q) ≡ (q && p)
    swap true true = refl
    swap true false = refl
    swap false true = refl
    swap false false = refl

    tested : (same_words (take w row) own && eqb (get_or row w 0) j) ≡ is_row w own j row
    tested = ap (λ (b : Bool). b && eqb (get_or row w 0) j) (sym (slices_same (take w row) own)) ∙ swap (pointwise eqb (take w row) own) (eqb (get_or row w 0) j)

    -- it is not that one
    pub rowing_on : is_row w own j row ≡ false → Rowing own j w ids many rest'
    rowing_on d =
        record {
          left = h.left - 1;
          on = step ∙ ap (λ (b : Bool). b || row_among w (h.left - 1) rest' own j) (tested ∙ d);
          filled = omega (arith, h.filled, ap (λ (n : ℕ). n * suc w) fewer, suc-mul (h.left - 1) (suc w), ap length e, length-append row rest', l);
        }

    pub rowing_found : is_row w own j row ≡ true → true ≡ row_among w many ids own j
    rowing_found d = sym (step ∙ ap (λ (b : Bool). b || row_among w (h.left - 1) rest' own j) (tested ∙ d))

-- what `any` answers over an iterator of rows, of a closure that tests a row
module _ {S F : Type 0} (rest : S → List ℕ) (size : S → ℕ) (steps : S → Option (Bor (List ℕ)) → S → Type 0) (g : Mut F (Bor (List ℕ) × Unit {0}) Bool) {own : List ℕ} {j w : ℕ}
    (one : (s t : S) (x : Bor (List ℕ)) → steps s (Some x) t → (size t ≡ size s) × (rest s ≡ x.now ++ rest t) × (length x.now ≡ size s))
    (over : (s t : S) → steps s None t → length (rest s) < size s) {f : F}
    (tells : (x : Bor (List ℕ)) (b : Bool) (q : F) → Called g f (x, tt) b q → length x.now ≡ suc w → (q ≡ f) × (b ≡ is_row w own j x.now)) {ids : List ℕ} {many : ℕ} where
  passes : (xs : List (Bor (List ℕ))) (s t : S) (p q : F) → p ≡ f → size s ≡ suc w → Rowing own j w ids many (rest s) → Yields steps s xs t → FoldsTo (λ p x q. Called g p (x, tt) false q) p xs q →
      (q ≡ f) × (size t ≡ suc w) × Rowing own j w ids many (rest t)
  passes [] s t p q e z h y c = (sym c ∙ e, ap size (sym y) ∙ z, subst (λ (k : S). Rowing own j w ids many (rest k)) y h)
  passes (x ∷ xs) s t p q e z h (i, st, y) (k, c, d) =
      let (n, r, l) = one s i x st in
      let (e', b) = tells x false k (subst (λ (v : F). Called g v (x, tt) false k) e c) (l ∙ z) in
      passes xs i t k q e' (n ∙ z) (rowing_on h x.now (rest i) r (l ∙ z) (sym b)) y d

  pub any_rows : {s u : S} (r : Bool) (xs : List (Bor (List ℕ))) (o : Option (Bor (List ℕ))) (q : F) → size s ≡ suc w → Rowing own j w ids many (rest s) →
      YieldsThen steps s xs o u → FoldsTo (λ p x q. Called g p (x, tt) false q) f xs q → MatchOption o (r ≡ false) (λ x. (r ≡ true) × ((h : F) × Called g q (x, tt) true h)) → r ≡ row_among w many ids own j
  any_rows {s} {u} r xs None q z h (t, y, st) d m =
      let (e, n, k) = passes xs s t f q refl z h y d in
      m ∙ rowing_done k (omega (arith, over t u st, n))
  any_rows {s} {u} r xs (Some x) q z h (t, y, st) d (m, (v, c)) =
      let (e, n, k) = passes xs s t f q refl z h y d in
      let (n', i, l) = one t u x st in
      let b = tells x true v (subst (λ (a : F). Called g a (x, tt) true v) e c) (l ∙ n) in
      m ∙ rowing_found k x.now (rest u) i (l ∙ n) (sym b.1)

-- rows of numbers are the hypotheses of those terms
module _ {I W : List ℕ} {m : Mark} (g : Good I W m) (w : ℕ) (ps : List ℕ) (j : ℕ) (b : Below m.terms ps) (there : j < m.terms) where
  pub rows_are : (many : ℕ) (ids : List ℕ) → length ids ≡ many * suc w → Below m.terms ids →
      any (λ i. same_trees i.premises (args_of (made I W m) ps) && same_tree i.judgment (tree I W m j)) (hyps_in (made I W m) w many ids) ≡ row_among w many ids ps j
  unfolding any hyps_in row_among
  rows_are zero ids r k = refl
  rows_are (suc many) ids r k =
      let e : length ids ≡ suc w + many * suc w = omega (arith, r, suc-mul many (suc w)) in
      let judged : get_or ids w 0 < m.terms = k w (omega (arith, e)) in
      let firsts : Below m.terms (take w ids) =
      λ i l.
      let z = length-take-le w ids (omega (arith, e)) in
      subst (λ (v : ℕ). v < m.terms) (sym (get_or-take w ids i 0 (omega (arith, z)))) (k i (omega (arith, z, e))) in
      let rests : Below m.terms (drop (suc w) ids) =
      λ i l. subst (λ (v : ℕ). v < m.terms) (sym (get_or-drop (suc w) ids i 0)) (k (suc w + i) (omega (arith, length-drop (suc w) ids))) in
      let ih = rows_are many (drop (suc w) ids) (omega (arith, length-drop (suc w) ids, e)) rests in
      (λ i. elim (same_numbers g (take w ids) ps firsts b i && same_number g (get_or ids w 0) j judged there i) [
        | true ↦ true
        | false ↦ ih i
      ]) ∙ or_elim (same_words (take w ids) ps && eqb (get_or ids w 0) j) (row_among w many (drop (suc w) ids) ps j)
    where
      or_elim : (a c : Bool) → elim a [ true ↦ true | false ↦ c ] ≡ (a || c)
      or_elim true c = refl
      or_elim false c = refl
