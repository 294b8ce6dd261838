-- Records of facts as rows of cells: six numbers each, and their footings, four words each. The forms' relations speak of these rows. Laws of rows of any
-- kind: behind others, the first ones, those behind, one set anew, zeros. Assumes nothing.
use Rattle.std.specs.Prelude.{◌≡◌, length, get_or}
use Rattle.std.proofs.Math.Path.{refl, sym, ap}
use Rattle.std.proofs.Common.{◌∙◌, arith, mul-zero, mul-le-mul_left, length-set, take_at}
use Prim.Native.Nat.{ℕ, zero, suc, ◌+◌, ◌*◌, ◌<◌, ◌≤◌}
use mathlib.Core.List.{List, [], ◌∷◌, ◌++◌, append_assoc as std_assoc}
use Rattle.std.proofs.Math.Nat.{mul-suc}
use Rattle.std.proofs.Math.ListN.{take, drop, set, replicate, replicate-append-replicate}
use Rattle.std.proofs.Math.Seq.{take-nil, drop-nil, take-append-add, drop-append-add}
use Rattle.std.proofs.lemmas.List.{get_or-set_same, take-set-le, drop-set-lt}
use Rattle.std.proofs.lemmas.List.Edits.{sets, sets-eq}
use Rattle.rules.specs.TheoryTables.{rows}
use Rattle.rules.specs.Laws.Row.{append_assoc, append-nil, length_rows, row_cell}
use Rattle.facts.specs.declared.Fact.{Fact}
use Rattle.facts.specs.Table.{blank}
use Rattle.kernel.specs.RuleRows.{rows_split}

-- Rows of any kind -----------------------------------------------------------------------------------------------------------------

module _ {A : Type 0} (f : A → List ℕ) where
  pub rows_append : (xs ys : List A) → rows f (xs ++ ys) ≡ rows f xs ++ rows f ys
  unfolding rows
  rows_append [] ys = refl
  rows_append (x ∷ xs) ys = ap (λ l. f x ++ l) (rows_append xs ys) ∙ sym (append_assoc (f x) (rows f xs) (rows f ys))

  -- w cells each
  module _ (w : ℕ) (h : (x : A) → length (f x) ≡ w) where
    one_more_lem : (x : A) (k : ℕ) → length (f x) + w * k ≡ w * suc k
    one_more_lem x k = omega (arith, h x, mul-suc w k)

    pub rows_take : (k : ℕ) (xs : List A) → rows f (take k xs) ≡ take (w * k) (rows f xs)
    unfolding rows
    rows_take zero xs = ap (λ n. take n (rows f xs)) (sym (mul-zero w))
    rows_take (suc k) [] = sym (take-nil (w * suc k))
    rows_take (suc k) (x ∷ xs) =
        ap (λ l. f x ++ l) (rows_take k xs) ∙ sym (take-append-add (f x) (rows f xs) (w * k)) ∙ ap (λ n. take n (f x ++ rows f xs)) (one_more_lem x k)

    pub rows_drop : (k : ℕ) (xs : List A) → rows f (drop k xs) ≡ drop (w * k) (rows f xs)
    unfolding rows
    rows_drop zero xs = ap (λ n. drop n (rows f xs)) (sym (mul-zero w))
    rows_drop (suc k) [] = sym (drop-nil (w * suc k))
    rows_drop (suc k) (x ∷ xs) =
        rows_drop k xs ∙ sym (drop-append-add (f x) (rows f xs) (w * k)) ∙ ap (λ n. drop n (f x ++ rows f xs)) (one_more_lem x k)

    -- entry i set anew: its cells are
    pub rows_set : (xs : List A) (i : ℕ) (x : A) → i < length xs → rows f (set xs i x) ≡ sets (rows f xs) (w * i) (f x)
    rows_set xs i x l =
        let n = length_rows f w h xs in
        let k = one_more_lem x i in
        let m = length-set xs i x in
        let m = length-set xs i x in
        let a = mul-le-mul_left w (let z : suc i ≤ length xs = omega arith in z) in
        let next : w * suc i ≡ w * i + length (f x) = omega (arith, k) in
        rows_split f (set xs i x) i x (omega (arith, m, l))
        ∙ (λ j. (ap (rows f) (take-set-le i xs i x (omega arith)) ∙ rows_take i xs) j
        ++ (f (get_or-set_same xs i x x l j) ++ (ap (rows f) (drop-set-lt (suc i) xs i x (omega arith)) ∙ rows_drop (suc i) xs) j))
        ∙ ap (λ p. take (w * i) (rows f xs) ++ (f x ++ drop p (rows f xs))) next
        ∙ sym (std_assoc (take (w * i) (rows f xs)) (f x) (drop (w * i + length (f x)) (rows f xs)))
        ∙ sym (sets-eq (f x) (rows f xs) (w * i) (omega (arith, n, a, next)))

    -- entry i: its cells
    pub rows_part : (xs : List A) (i : ℕ) (d : A) → i < length xs → take w (drop (w * i) (rows f xs)) ≡ f (get_or xs i d)
    unfolding rows
    rows_part xs i d l = ap (take w) (sym (rows_drop i xs) ∙ ap (rows f) (drop_next xs i l)) ∙ take_at (f (get_or xs i d)) (rows f (drop (suc i) xs)) w (h (get_or xs i d))
      where
        drop_next : (xs : List A) (i : ℕ) → i < length xs → drop i xs ≡ get_or xs i d ∷ drop (suc i) xs
        drop_next [] i l = absurd (omega arith)
        drop_next (x ∷ xs) zero l = refl
        drop_next (x ∷ xs) (suc i) l = drop_next xs i (omega arith)

    -- entries of zeros
    module _ (b : A) (e : f b ≡ replicate w 0) where
      pub rows_blank : (k : ℕ) → rows f (replicate k b) ≡ replicate (w * k) 0
      unfolding rows
      rows_blank zero = ap (λ n. replicate n 0) (sym (mul-zero w))
      rows_blank (suc k) =
          (λ i. e i ++ rows_blank k i) ∙ replicate-append-replicate w (w * k) 0
          ∙ ap (λ n. replicate n 0) (let z : w + w * k ≡ w * suc k = omega (arith, mul-suc w k) in z)

-- Records of facts -----------------------------------------------------------------------------------------------------------------

-- a record as a row of six numbers, and its footing as four words
abbrev pub fact_row : Fact → List ℕ
fact_row f = f.judgment ∷ f.assumed ∷ f.first ∷ f.hyps ∷ f.premises ∷ f.general ∷ []

abbrev pub fact_foot : Fact → List ℕ
fact_foot f = get_or f.footing 0 0 ∷ get_or f.footing 1 0 ∷ get_or f.footing 2 0 ∷ get_or f.footing 3 0 ∷ []

-- all of them, one behind the other
abbrev pub fact_rows : List Fact → List ℕ
fact_rows fs = rows fact_row fs

abbrev pub fact_feet : List Fact → List ℕ
fact_feet fs = rows fact_foot fs

-- four words, one by one
pub four_words : (l : List ℕ) → length l ≡ 4 → l ≡ get_or l 0 0 ∷ get_or l 1 0 ∷ get_or l 2 0 ∷ get_or l 3 0 ∷ []
four_words [] e = absurd (omega (arith, e))
four_words (a ∷ []) e = absurd (omega (arith, e))
four_words (a ∷ b ∷ []) e = absurd (omega (arith, e))
four_words (a ∷ b ∷ c ∷ []) e = absurd (omega (arith, e))
four_words (a ∷ b ∷ c ∷ d ∷ []) e = refl
four_words (a ∷ b ∷ c ∷ d ∷ f ∷ l) e = absurd (omega (arith, e))

module _ (fs : List Fact) where
  pub length_fact_rows : length (fact_rows fs) ≡ 6 * length fs
  length_fact_rows = length_rows fact_row 6 (λ f. refl) fs

  pub length_fact_feet : length (fact_feet fs) ≡ 4 * length fs
  length_fact_feet = length_rows fact_foot 4 (λ f. refl) fs

  module _ (i : ℕ) (l : i < length fs) where
    -- number j of record i
    pub fact_cell : (j : ℕ) → j < 6 → get_or (fact_rows fs) (6 * i + j) 0 ≡ get_or (fact_row (get_or fs i blank)) j 0
    fact_cell j k = ap (λ r. get_or r (6 * i + j) 0) (sym (append-nil (fact_rows fs))) ∙ row_cell fact_row 6 (λ f. refl) fs [] i j (6 * i + j) blank l k refl

    -- the words of its footing
    pub fact_words : length (get_or fs i blank).footing ≡ 4 → take 4 (drop (4 * i) (fact_feet fs)) ≡ (get_or fs i blank).footing
    fact_words e = rows_part fact_foot 4 (λ f. refl) fs i blank l ∙ sym (four_words (get_or fs i blank).footing e)

    pub fact_rows_set : (f : Fact) → fact_rows (set fs i f) ≡ sets (fact_rows fs) (6 * i) (fact_row f)
    fact_rows_set f = rows_set fact_row 6 (λ f. refl) fs i f l

    pub fact_feet_set : (f : Fact) → fact_feet (set fs i f) ≡ sets (fact_feet fs) (4 * i) (fact_foot f)
    fact_feet_set f = rows_set fact_foot 4 (λ f. refl) fs i f l
