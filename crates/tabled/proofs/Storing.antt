-- The loop that writes records as rows and words: the first i of them stand in front, and behind them is what was there. Assumes nothing.
use mathlib.Core.Path.{◌≡◌, refl, ap, ◌∙◌, subst}
use Prim.Native.Nat.{ℕ, ◌+◌, ◌*◌, ◌<◌, ◌≤◌}
use native.Mathlib.Omega.{arith}
use mathlib.Core.List.{List, ◌++◌}
use lib.ListN.{length, get_or, take, drop, replicate}
use lib.Seq.{sets, take_all}
use Rattle.std.specs.Prelude.{Result}
use Rattle.std.proofs.lemmas.List.{get_or_default}
use Rattle.rules.specs.Limits.{FACTS}
use Rattle.kernel.specs.Parsed.{TheoryLists}
use Rattle.facts.specs.declared.Fact.{Fact}
use Rattle.facts.specs.Table.{blank}
use Rattle.running.specs.declared.finish.Report.{Report}
use Rattle.running.specs.declared.refusal.Refusal.{Refusal}
use Rattle.state.specs.Records.{fact_row, fact_foot, fact_rows, fact_feet}
use Rattle.running.specs.Lent.{Working}
use Rattle.running.specs.Finished.{answer_of}
use Rattle.running.specs.ReadBack.{Call}
use Rattle.running.specs.Checking.{tables_of}
use Rattle.tabled.specs.Tabled.{Tabled}
use Rattle.tabled.proofs.Rowing.{none_yet, row_more}

-- The loop -----------------------------------------------------------------------------------------------------------------------

pub record Storing (fs : List Fact) (rows feet : List ℕ) (i : ℕ) (rows_now feet_now : List ℕ) : Type 0 where
  pub rows_are : rows_now ≡ fact_rows (take i fs) ++ drop (6 * i) rows
  pub feet_are : feet_now ≡ fact_feet (take i fs) ++ drop (4 * i) feet

module _ {fs : List Fact} {rows feet : List ℕ} where
  pub begin : Storing fs rows feet 0 rows feet
  begin = record { rows_are = none_yet fact_row 6 fs rows 0 refl; feet_are = none_yet fact_foot 4 fs feet 0 refl }

  -- d: whatever stands for a record that is not there
  pub next : {i : ℕ} {rows_now feet_now now after : List ℕ} (d : Fact) → (6 * length fs ≤ length rows) × (4 * length fs ≤ length feet) →
      Storing fs rows feet i rows_now feet_now → i < length fs → now ≡ sets rows_now (6 * i) (fact_row (get_or fs i d)) →
      after ≡ sets feet_now (4 * i) (fact_foot (get_or fs i d)) → Storing fs rows feet (i + 1) now after
  next {i} {rows_now} {feet_now} d g x l r s = record {
    rows_are =
        r ∙ ap (λ y. sets rows_now (6 * i) (fact_row y)) (get_or_default fs i d blank l)
        ∙ row_more fact_row 6 (λ y. refl) fs i rows l (omega (arith, g.0, l)) rows_now x.rows_are;
    feet_are =
        s ∙ ap (λ y. sets feet_now (4 * i) (fact_foot y)) (get_or_default fs i d blank l)
        ∙ row_more fact_foot 4 (λ y. refl) fs i feet l (omega (arith, g.1, l)) feet_now x.feet_are;
  }

  -- all are stored
  pub rows_done : {i : ℕ} {rows_now feet_now : List ℕ} → Storing fs rows feet i rows_now feet_now → i ≡ length fs →
      rows_now ≡ fact_rows fs ++ drop (6 * length fs) rows
  rows_done {i} x e = x.rows_are ∙ (λ j. fact_rows (take_all i fs (omega (arith, e)) j) ++ drop (6 * e j) rows)

  pub feet_done : {i : ℕ} {rows_now feet_now : List ℕ} → Storing fs rows feet i rows_now feet_now → i ≡ length fs →
      feet_now ≡ fact_feet fs ++ drop (4 * length fs) feet
  feet_done {i} x e = x.feet_are ∙ (λ j. fact_feet (take_all i fs (omega (arith, e)) j) ++ drop (4 * e j) feet)

-- The whole ----------------------------------------------------------------------------------------------------------------------

-- the table that is lent is made of blank records
pub tabled : {theory goals proof : List ℕ} {T U : TheoryLists} {W Z : Working} {M N : List ℕ} (f : Fact) (fs : List Fact) (rows rows' feet feet' : List ℕ)
    {r : Result Report Refusal} → f ≡ blank → length fs ≡ FACTS →
    Call theory goals proof (tables_of T W M (replicate FACTS f)) (tables_of U Z N fs) (answer_of r) →
    rows' ≡ fact_rows fs ++ drop (6 * length fs) rows → feet' ≡ fact_feet fs ++ drop (4 * length fs) feet →
    Tabled theory goals proof T U W Z M N rows rows' feet feet' r
tabled {theory} {goals} {proof} {T} {U} {W} {Z} {M} {N} f fs rows rows' feet feet' {r} b l c e g =
    record {
      records = fs;
      called = subst (λ (y : Fact). Call theory goals proof (tables_of T W M (replicate FACTS y)) (tables_of U Z N fs) (answer_of r)) b c;
      rows = e ∙ ap (λ (k : ℕ). fact_rows fs ++ drop (6 * k) rows) l;
      words = g ∙ ap (λ (k : ℕ). fact_feet fs ++ drop (4 * k) feet) l;
    }
