-- A record that is read: its numbers are the cells of its row, its footing is its four words; and a record that is put in. Assumes nothing.
use mathlib.Core.Path.{◌≡◌, sym, ap, ◌∙◌}
use Prim.Native.Nat.{ℕ, ◌*◌, ◌<◌}
use mathlib.Core.List.{List, [], ◌∷◌}
use native.Mathlib.Omega.{arith}
use lib.ListN.{length, get_or, take, drop, set}
use lib.Seq.{sets}
use Rattle.std.proofs.Common.{ne_eqb}
use Rattle.std.proofs.lemmas.List.{get_or_default, set-get_or}
use Rattle.std.specs.Prelude.{Bool, true, false, not, ◌&&◌, eqb}
use Rattle.facts.specs.declared.Fact.{Fact}
use Rattle.facts.specs.Table.{blank}
use Rattle.rules.specs.Limits.{FACTS}
use Rattle.state.specs.Records.{fact_row, fact_rows, fact_feet, four_words, length_fact_rows, fact_cell, fact_words, fact_rows_set, fact_feet_set}
use Rattle.state.specs.Rows.{cell, FactAt, plain_row}

module _ (fs : List Fact) (i : ℕ) (a : FactAt (fact_rows fs) i) where
  pub below : i < length fs
  below = omega (arith, length_fact_rows fs, a.0, a.1)

  -- d: whatever stands for a record that is not there
  pub number_is : (d : Fact) (j : ℕ) → j < 6 → get_or (fact_row (get_or fs i d)) j 0 ≡ cell 6 (fact_rows fs) i j
  number_is d j l = ap (λ f. get_or (fact_row f) j 0) (get_or_default fs i d blank below) ∙ sym (fact_cell fs i below j l)

  pub words_are : {f : Fact} → f ≡ get_or fs i blank → length f.footing ≡ 4 → f.footing ≡ take 4 (drop (4 * i) (fact_feet fs))
  words_are e w = ap (λ f. f.footing) e ∙ sym (fact_words fs i below (sym (ap (λ f. length f.footing) e) ∙ w))

-- Whether it is plain: v is what its first two tests make, a and b these
module _ (fs : List Fact) (i : ℕ) (a : FactAt (fact_rows fs) i) (d : Fact) where
  plain_is : not (eqb (get_or fs i d).assumed 0) && (eqb (get_or fs i d).premises 0 && eqb (get_or fs i d).general 0) ≡ plain_row (fact_rows fs) i
  plain_is =
      let assumed = number_is fs i a d 1 (omega arith) in
      let premises = number_is fs i a d 4 (omega arith) in
      let general = number_is fs i a d 5 (omega arith) in
      λ j. not (eqb (assumed j) 0) && (eqb (premises j) 0 && eqb (general j) 0)

  module _ {v : Bool} where
    pub both_hold : ((get_or fs i d).assumed ≡ 0 → ⊥) → v ≡ eqb (get_or fs i d).premises 0 → v ≡ true →
        eqb (get_or fs i d).general 0 ≡ plain_row (fact_rows fs) i
    both_hold t e q = (λ j. not (sym (ne_eqb (get_or fs i d).assumed 0 t) j) && ((sym q ∙ e) j && eqb (get_or fs i d).general 0)) ∙ plain_is

    pub second_fails : ((get_or fs i d).assumed ≡ 0 → ⊥) → v ≡ eqb (get_or fs i d).premises 0 → v ≡ false → v ≡ plain_row (fact_rows fs) i
    second_fails t e q = q ∙ (λ j. not (sym (ne_eqb (get_or fs i d).assumed 0 t) j) && ((sym q ∙ e) j && eqb (get_or fs i d).general 0)) ∙ plain_is

    pub first_fails : (get_or fs i d).assumed ≡ 0 → v ≡ false → v ≡ plain_row (fact_rows fs) i
    first_fails t q = q ∙ (λ j. not (eqb (sym t j) 0) && (eqb (get_or fs i d).premises 0 && eqb (get_or fs i d).general 0)) ∙ plain_is

    pub not_both : (get_or fs i d).assumed ≡ 0 → v ≡ not (eqb (get_or fs i d).assumed 0) → v ≡ true → ⊥
    not_both t e q = differ (sym q ∙ e ∙ ap (λ k. not (eqb k 0)) t)
      where
        differ : true ≡ false → ⊥
        differ p = cc

-- One more -------------------------------------------------------------------------------------------------------------------------

pub room_at : (fs : List Fact) (i : ℕ) → length (fact_rows fs) ≡ 6 * FACTS → i < FACTS → i < length fs
room_at fs i e l = omega (arith, length_fact_rows fs, e, l)

module _ (fs : List Fact) (i : ℕ) (l : i < length fs) where
  pub row_put : {gs : List Fact} (f : Fact) → gs ≡ set fs i f → fact_rows gs ≡ sets (fact_rows fs) (6 * i) (fact_row f)
  row_put f e = ap fact_rows e ∙ fact_rows_set fs i l f

  pub foot_put : {gs : List Fact} (f : Fact) → length f.footing ≡ 4 → gs ≡ set fs i f → fact_feet gs ≡ sets (fact_feet fs) (4 * i) f.footing
  foot_put f w e = ap fact_feet e ∙ fact_feet_set fs i l f ∙ ap (λ r. sets (fact_feet fs) (4 * i) r) (sym (four_words f.footing w))

  -- its footing is that of the record before: no word changes
  pub foot_kept : {gs : List Fact} (f d : Fact) → f.footing ≡ (get_or fs i d).footing → gs ≡ set fs i f → fact_feet gs ≡ sets (fact_feet fs) (4 * i) []
  foot_kept f d w e =
      ap fact_feet e ∙ fact_feet_set fs i l f
      ∙ ap (λ r. sets (fact_feet fs) (4 * i) (get_or r 0 0 ∷ get_or r 1 0 ∷ get_or r 2 0 ∷ get_or r 3 0 ∷ [])) w
      ∙ sym (fact_feet_set fs i l (get_or fs i d)) ∙ ap fact_feet (set-get_or fs i d)
