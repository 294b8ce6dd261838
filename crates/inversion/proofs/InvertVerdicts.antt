-- Questions 34, 43 and 44 of a case of `invert`, from the fact's row and the sets. Assumes nothing.
use mathlib.Core.Path.{◌≡◌, sym, ap, ◌∙◌, subst}
use mathlib.Core.Bool.{Bool, true, false}
use Rattle.std.specs.Prelude.{Option, Some as some, None as nothing, Result, Ok, Err}
use Rattle.questions.specs.declared.Question.{Question}
use Rattle.questions.specs.declared.Question.TheVariants.{Earlier, CaseJudgment, CaseHypotheses}
use mathlib.Core.List.{List}
use Rattle.std.specs.Prelude.{◌≢◌, ◌⊎◌}
use Rattle.std.proofs.Common.{inl, inr}
use Prim.Native.Nat.{ℕ, ◌*◌, ◌<◌, ◌≤◌}
use native.Mathlib.Omega.{arith}
use lib.ListN.{length, get_or}
use borrow.Author.Tests.{lt-ltb}
use Rattle.rules.specs.Limits.{FACTS}
use Rattle.rules.specs.Find.{Set, all}
use Rattle.rules.specs.Tree.{Tree, var, same_tree}
use Rattle.rules.specs.Store.{Made}
use Rattle.rules.specs.State.{Fact}
use Rattle.rules.specs.Laws.Theory.{all_at}
use Rattle.rules.specs.Laws.Tree.{same_self, not_same}
use Rattle.rules.specs.Laws.Store.{Apart}
use Rattle.state.specs.declared.sizes.Sizes.{Sizes}
use Rattle.cells.specs.declared.Span.{Span}
use Rattle.state.specs.Held.{records}
use Rattle.state.specs.Rows.{cell, hyps_span}
use Rattle.state.specs.Entries.{part}
use Rattle.state.specs.RowTables.{tabled_long}
use Rattle.state.specs.FactLaws.{FactRow, fact_row_lem, facts_tabled}
use Rattle.referring.specs.Recall.{fact_of}
use Rattle.terms.specs.Table.{Below}
use Rattle.casework.specs.Context.{rests_by}
use Rattle.inversion.specs.InvertRules.{Verdict, verdict_of}
use Rattle.reading.specs.Laws.Lists.{no_entry}

abbrev pub Answer : Type 0
Answer = Result (Unit {0}) Question

module _ {facts : List ℕ} {n : Sizes} {i t : ℕ} {own : List ℕ} (g : Verdict facts n i t own) where
  abbrev trees : Made
  trees = g.given.trees

  abbrev wanted : Tree
  wanted = get_or trees t (var 0)

  -- what `concludes` asks
  pub verdict_long : (length facts ≡ 6 * FACTS) × (n.facts ≤ FACTS)
  verdict_long = (tabled_long (facts_tabled g.given.recorded), (facts_tabled g.given.recorded).few)

  missing : (plain fine : Set) → n.facts ≤ i → Err Earlier ≡ verdict_of g.given.S trees i wanted plain fine
  unfolding verdict_of
  missing plain fine l =
      sym (ap (λ (o : Option Fact). elim o as (λ (o : Option Fact). Answer) [
        | nothing ↦ Err Earlier
        | some f ↦ elim (same_tree f.judgment wanted) as (λ (c : Bool). Answer) [
          | false ↦ Err CaseJudgment
          | true ↦ elim (all (λ h. rests_by trees (fact_of g.given.S h) h plain fine) f.hyps) as (λ (c : Bool). Answer) [ true ↦ Ok tt | false ↦ Err CaseHypotheses ]
        ]
      ]) (no_entry g.given.S.facts i (omega (arith, l, g.given.recorded.many))))

  module _ (l : i < n.facts) where
    abbrev row : FactRow (records facts g.given.footings g.given.lists) n trees g.given.S i (fact_of g.given.S i)
    row = fact_row_lem g.given.recorded i l

    own_hyps : own ≡ (fact_of g.given.S i).hyps
    own_hyps =
        g.owns ∙ ap (λ (c : Bool). part g.given.lists (elim c as (λ (c : Bool). Span) [ true ↦ hyps_span facts i | false ↦ record { from = 0; end = 0 } ])) (lt-ltb i n.facts l)
        ∙ row.hyps

    pub verdict_there : Below n.facts own
    verdict_there k h =
        subst (λ (xs : List ℕ). get_or xs k 0 < n.facts) (sym own_hyps)
        (all_at (fact_of g.given.S i).hyps k 0 row.hyps_below (subst (λ (xs : List ℕ). k < length xs) own_hyps h))

    module _ (plain fine : Set) where
      -- whether the fact rests on what is allowed
      abbrev rests : List ℕ → Bool
      rests hs = all (λ h. rests_by trees (fact_of g.given.S h) h plain fine) hs

      here : (c : Bool) → same_tree (fact_of g.given.S i).judgment wanted ≡ c →
          verdict_of g.given.S trees i wanted plain fine ≡ elim c as (λ (c : Bool). Answer) [ false ↦ Err CaseJudgment | true ↦ elim (rests (fact_of g.given.S i).hyps) as (λ (c : Bool). Answer) [ true ↦ Ok tt | false ↦ Err CaseHypotheses ] ]
      unfolding verdict_of
      here c z =
          ap (λ (o : Option Fact). elim o as (λ (o : Option Fact). Answer) [
            | nothing ↦ Err Earlier
            | some f ↦ elim (same_tree f.judgment wanted) as (λ (c : Bool). Answer) [
              | false ↦ Err CaseJudgment
              | true ↦ elim (rests f.hyps) as (λ (c : Bool). Answer) [ true ↦ Ok tt | false ↦ Err CaseHypotheses ]
            ]
          ]) row.is
          ∙ ap (λ (d : Bool). elim d as (λ (d : Bool). Answer) [ false ↦ Err CaseJudgment | true ↦ elim (rests (fact_of g.given.S i).hyps) as (λ (c : Bool). Answer) [ true ↦ Ok tt | false ↦ Err CaseHypotheses ] ]) z

      other : (cell 6 facts i 0 ≡ t → ⊥) → Err CaseJudgment ≡ verdict_of g.given.S trees i wanted plain fine
      unfolding Apart
      other d =
          sym (here false (not_same (fact_of g.given.S i).judgment wanted
          (λ e. d (g.given.apart (cell 6 facts i 0) t row.judgment.below g.there (row.judgment.tree ∙ e)))))

      module _ (d : cell 6 facts i 0 ≡ t) {r : Bool} (f : r ≡ rests own) where
        same : same_tree (fact_of g.given.S i).judgment wanted ≡ true
        same = ap (λ (u : Tree). same_tree u wanted) (sym row.judgment.tree ∙ ap (λ (k : ℕ). get_or trees k (var 0)) d) ∙ same_self wanted

        decided : (c : Bool) → r ≡ c → verdict_of g.given.S trees i wanted plain fine ≡ elim c as (λ (c : Bool). Answer) [ true ↦ Ok tt | false ↦ Err CaseHypotheses ]
        decided c z =
            here true same ∙ ap (λ (e : Bool). elim e as (λ (c : Bool). Answer) [ true ↦ Ok tt | false ↦ Err CaseHypotheses ]) (ap rests (sym own_hyps) ∙ sym f ∙ z)

        pub verdict_not : r ≡ false → Err CaseHypotheses ≡ verdict_of g.given.S trees i wanted plain fine
        verdict_not z = sym (decided false z)

        pub verdict_fine : r ≡ true → Ok tt ≡ verdict_of g.given.S trees i wanted plain fine
        verdict_fine z = sym (decided true z)

  -- as `concludes` refuses it
  pub verdict_refused : (plain fine : Set) {q : Question} → ((q ≡ Earlier) × (n.facts ≤ i)) ⊎ ((q ≡ CaseJudgment) × (i < n.facts) × (cell 6 facts i 0 ≢ t)) →
      Err q ≡ verdict_of g.given.S trees i wanted plain fine
  verdict_refused plain fine (inl a) = ap (λ (q : Question). Err q) a.0 ∙ missing plain fine a.1
  verdict_refused plain fine (inr b) = ap (λ (q : Question). Err q) b.0 ∙ other b.1 plain fine b.2
