-- Laws of tables of records as rows of cells: records behind others, the first ones, those behind, blank ones; and the records beside the rows of the
-- forms when a fact is stored. Assumes nothing.
use Rattle.std.specs.Prelude.{◌≡◌, length, Option, Some as some, None as nothing}
use Rattle.std.proofs.Math.Path.{refl, sym, ap}
use Rattle.std.proofs.Common.{◌∙◌, subst, arith, take-add}
use Prim.Native.Nat.{ℕ, suc, ◌+◌, ◌-◌, ◌*◌, ◌<◌}
use mathlib.Core.List.{List, [], ◌∷◌, ◌++◌, append-nil}
use Rattle.std.proofs.Math.Nat.{mul-suc}
use Rattle.std.proofs.Math.ListN.{take, drop, set, replicate}
use Rattle.rules.specs.TheoryTables.{filled, rows}
use Rattle.rules.specs.StateTables.{laid}
use Rattle.rules.specs.Laws.Row.{append_assoc, filled_fits}
use Rattle.state.specs.Stands.{leaves_laid}
use Rattle.facts.specs.declared.Fact.{Fact}
use Rattle.facts.specs.Table.{blank, appended, zeroed}
use Rattle.facts.specs.Laws.{take_appended, zeroed_is}
use Rattle.state.specs.Records.{rows_append, rows_drop, rows_blank, fact_row, fact_foot, fact_rows, fact_feet}
use Rattle.running.specs.Lent.{Mirrored}
use Rattle.running.specs.Between.{StoredAs}

-- Rows of any kind -----------------------------------------------------------------------------------------------------------------

-- w cells each; entries of zeros
module _ {A : Type 0} (f : A → List ℕ) (w : ℕ) (h : (x : A) → length (f x) ≡ w) (b : A) (e : f b ≡ replicate w 0) where
  -- the first n entries of ys, zero up to N, and what lies behind: ys then, zs before
  pub rows_laid : (ys zs : List A) (n N : ℕ) (cells : List ℕ) → rows f (take n ys) ≡ cells → length cells + w * (N - n) ≡ w * N →
      drop N ys ≡ drop N zs → rows f (take n ys ++ (replicate (N - n) b ++ drop N ys)) ≡ laid (filled (w * N) cells) (rows f zs)
  rows_laid ys zs n N cells q l d =
      let z : w * (N - n) ≡ w * N - length cells = omega (arith, l) in
      let full : cells ++ replicate (w * (N - n)) 0 ≡ filled (w * N) cells =
      ap (λ k. cells ++ replicate k 0) z ∙ sym (filled_fits (w * N) cells (omega (arith, l))) in
      rows_append f (take n ys) (replicate (N - n) b ++ drop N ys)
      ∙ (λ i. q i ++ rows_append f (replicate (N - n) b) (drop N ys) i)
      ∙ (λ i. cells ++ (rows_blank f w h b e (N - n) i ++ (ap (rows f) d ∙ rows_drop f w h N zs) i))
      ∙ sym (append_assoc cells (replicate (w * (N - n)) 0) (drop (w * N) (rows f zs)))
      ∙ leaves_laid (w * N) cells (rows f zs) full

-- Records of facts -----------------------------------------------------------------------------------------------------------------

-- blank ones from n to N: the cells of the first n, and zero up to N
module _ (fs ys gs : List Fact) (n N : ℕ) (z : gs ≡ zeroed ys n N) (d : drop N ys ≡ drop N fs) where
  pub zeroed_rows : (cells : List ℕ) → fact_rows (take n ys) ≡ cells → length cells + 6 * (N - n) ≡ 6 * N →
      fact_rows gs ≡ laid (filled (6 * N) cells) (fact_rows fs)
  zeroed_rows cells q l = ap fact_rows (z ∙ zeroed_is ys n N) ∙ rows_laid fact_row 6 (λ f. refl) blank refl ys fs n N cells q l d

  pub zeroed_feet : (cells : List ℕ) → fact_feet (take n ys) ≡ cells → length cells + 4 * (N - n) ≡ 4 * N →
      fact_feet gs ≡ laid (filled (4 * N) cells) (fact_feet fs)
  zeroed_feet cells q l = ap fact_feet (z ∙ zeroed_is ys n N) ∙ rows_laid fact_foot 4 (λ f. refl) blank refl ys fs n N cells q l d

-- One fact more --------------------------------------------------------------------------------------------------------------------

-- entry n comes behind the first n
one_behind : {A : Type 0} (f : A → List ℕ) (w n : ℕ) (x : A) (xs : List A) (table after : List ℕ) → rows f xs ≡ take (w * n) table →
    take (w * n) after ≡ take (w * n) table → f x ≡ take w (drop (w * n) after) → rows f (xs ++ (x ∷ [])) ≡ take (w * suc n) after
unfolding rows
one_behind f w n x xs table after e k o =
    rows_append f xs (x ∷ [])
    ∙ (λ i. (e ∙ sym k) i ++ (append-nil (f x) ∙ o) i)
    ∙ sym (take-add (w * n) w after)
    ∙ ap (λ m. take m after) (let z : w * n + w ≡ w * suc n = omega (arith, mul-suc w n) in z)

-- what a form leaves of rows and feet, and the record that is put in where a fact is stored
pub mirrored_next : {n k : ℕ} {fs : List Fact} {table feet table' feet' : List ℕ} (o : Option Fact) → Mirrored n fs table feet →
    take (6 * n) table' ≡ take (6 * n) table → take (4 * n) feet' ≡ take (4 * n) feet → StoredAs o n k table' feet' → ((f : Fact) → o ≡ some f → n < length fs) →
    Mirrored k (appended o fs n) table' feet'
mirrored_next {n} {k} {fs} {table} {feet} {table'} {feet'} (some f) m r t s l =
    subst (λ j. Mirrored j (set fs n f) table' feet') (sym s.0) (record {
      same_rows = ap fact_rows (take_appended fs n f (l f refl)) ∙ one_behind fact_row 6 n f (take n fs) table table' m.same_rows r s.1.0
          ∙ ap (λ j. take j table') (let z : 6 * suc n ≡ 6 * (n + 1) = omega arith in z);
      same_feet = ap fact_feet (take_appended fs n f (l f refl)) ∙ one_behind fact_foot 4 n f (take n fs) feet feet' m.same_feet t s.1.1
          ∙ ap (λ j. take j feet') (let z : 4 * suc n ≡ 4 * (n + 1) = omega arith in z);
    })
mirrored_next {n} {k} {fs} {table} {feet} {table'} {feet'} nothing m r t s l =
    subst (λ j. Mirrored j fs table' feet') (sym s) (record { same_rows = m.same_rows ∙ sym r; same_feet = m.same_feet ∙ sym t })
