-- What a reference brings along: numbers join a set one after the other, and the hypotheses and the footing of a fact are such numbers.
-- Assumes nothing.
use mathlib.Core.Path.{◌≡◌, sym, ap, ◌∙◌}
use mathlib.Core.Bool.{Bool, true, false}
use mathlib.Core.List.{List, ◌∷◌}
use Prim.Native.Nat.{ℕ, ◌+◌, ◌*◌, ◌<◌, ◌≤◌}
use native.Mathlib.Omega.{arith}
use native.Mathlib.Numerals.{add-one}
use lib.Dec.{eqb}
use lib.ListN.{length, get_or, take, drop, drop_of_length-le}
use lib.Seq.{drop-cons}
use Rattle.rules.specs.Limits.{FACTWORDS}
use Rattle.rules.specs.Find.{Set, union, has}
use Rattle.rules.specs.Laws.Theory.{all_at}
use Rattle.rules.specs.Laws.Set.{union_empty}
use Rattle.terms.specs.Sets.{holds, plus}
use Rattle.terms.specs.Laws.Sets.{plus_has, or_last}
use Rattle.state.specs.Held.{records}
use Rattle.state.specs.Rows.{FactAt, hyps_span}
use Rattle.state.specs.Entries.{part}
use Rattle.state.specs.FactLaws.{FactRow, fact_row_lem}
use Rattle.referring.specs.Recall.{fact_of, RecallsFact}
use Rattle.referring.specs.Referral.{rests_on}
use Rattle.referring.specs.Laws.Refers.{fact_asks}

-- Numbers that join a set --------------------------------------------------------------------------------------------------------------------

one_joins : (a : Set) (v : ℕ) (xs : List ℕ) → union (plus v a) (has xs) ≡ union a (has (v ∷ xs))
one_joins a v xs = (λ i w. or_last (a w) (eqb w v) (has xs w) i) ∙ ap (λ (s : Set). union a s) (sym (plus_has v xs))

-- those from k on are left
pub record Joining (ids before set : List ℕ) (k : ℕ) : Type 0 where
  pub inside : k ≤ length ids
  pub long : length set ≡ length before
  pub left : union (holds set) (has (drop k ids)) ≡ union (holds before) (has ids)

pub joining_more : (ids before set after : List ℕ) (k : ℕ) → Joining ids before set k → k < length ids → length after ≡ length set →
    holds after ≡ plus (get_or ids k 0) (holds set) → Joining ids before after (k + 1)
joining_more ids before set after k j l e h =
    record {
      inside = omega arith;
      long = e ∙ j.long;
      left = ap (λ (s : Set). union s (has (drop (k + 1) ids))) h ∙ one_joins (holds set) (get_or ids k 0) (drop (k + 1) ids)
          ∙ ap (λ (xs : List ℕ). union (holds set) (has xs)) (ap (λ (n : ℕ). get_or ids k 0 ∷ drop n ids) (add-one k) ∙ sym (drop-cons ids k 0 l)) ∙ j.left;
    }

pub joining_end : (ids before set : List ℕ) (k : ℕ) → Joining ids before set k → length ids ≤ k → holds set ≡ union (holds before) (has ids)
unfolding has
joining_end ids before set k j l =
    sym (union_empty (holds set)) ∙ ap (λ (xs : List ℕ). union (holds set) (has xs)) (sym (drop_of_length-le ids {i = k} l)) ∙ j.left

-- A fact -------------------------------------------------------------------------------------------------------------------------------------

module _ {facts footings lists : List ℕ} {i : ℕ} (g : RecallsFact facts footings lists i) where
  abbrev row : FactRow (records facts footings lists) g.n g.trees g.S i (fact_of g.S i)
  row = fact_row_lem g.recorded i g.there

  pub join_asks : FactAt facts i
  join_asks = fact_asks g.recorded g.there

  pub footing_joins : (before after : List ℕ) → holds after ≡ union (holds before) (holds (take 4 (drop (4 * i) footings))) →
      holds after ≡ union (holds before) (has (fact_of g.S i).footing)
  footing_joins before after e = e ∙ ap (λ (s : Set). union (holds before) s) row.footing

  module _ {own : List ℕ} (e : own ≡ part lists (hyps_span facts i)) where
    own_hyps : own ≡ (fact_of g.S i).hyps
    own_hyps = e ∙ row.hyps

    pub hyps_below : (hyps : List ℕ) → length hyps ≡ FACTWORDS → (k : ℕ) → k < length own → get_or own k 0 < 64 * length hyps
    hyps_below hyps w k l =
        let h : get_or (fact_of g.S i).hyps k 0 < g.n.facts = all_at (fact_of g.S i).hyps k 0 row.hyps_below (omega (arith, l, ap length own_hyps)) in
        omega (arith, h, w, ap (λ (xs : List ℕ). get_or xs k 0) own_hyps, g.recorded.many, g.recorded.rows.row12)

    pub hyps_join : (before after : List ℕ) → holds after ≡ union (holds before) (has own) → (bare : Bool) → bare ≡ true →
        holds after ≡ union (holds before) (has (rests_on g.S i bare))
    unfolding rests_on
    hyps_join before after h bare b =
        h ∙ ap (λ (xs : List ℕ). union (holds before) (has xs)) own_hyps ∙ ap (λ (z : Bool). union (holds before) (has (rests_on g.S i z))) (sym b)

  pub none_join : (before : List ℕ) (bare : Bool) → bare ≡ false → holds before ≡ union (holds before) (has (rests_on g.S i bare))
  unfolding rests_on has
  none_join before bare b = sym (union_empty (holds before)) ∙ ap (λ (z : Bool). union (holds before) (has (rests_on g.S i z))) (sym b)
