-- One fact, as `mention` reads it: its judgment and its premises. Assumes nothing.
use Rattle.std.specs.Prelude.{◌≡◌, List, ℕ, ◌≤◌, ◌<◌, length, get_or}
use Rattle.std.proofs.Common.{sym, ◌∙◌, subst, arith}
use Rattle.std.proofs.Math.Path.{ap}
use Rattle.rules.specs.Limits.{ENTRIES, TERMWORDS, VARIABLEWORDS}
use Rattle.rules.specs.Find.{Set, union}
use Rattle.rules.specs.Tree.{Tree, variables, variables_of}
use Rattle.rules.specs.State.{mentioned}
use Rattle.rules.specs.StateTables.{numbers}
use Rattle.rules.specs.Laws.Theory.{All, all_at}
use Rattle.rules.specs.Laws.Set.{union_assoc}
use Rattle.terms.specs.declared.store.Mark.{Mark}
use Rattle.terms.specs.Table.{args_of, made, tree}
use Rattle.terms.specs.Collect.{Readable, Visited}
use Rattle.terms.specs.Laws.Growth.{made_length}
use Rattle.cells.specs.declared.Span.{Span}
use Rattle.state.specs.declared.sizes.Sizes.{Sizes}
use Rattle.state.specs.Held.{records}
use Rattle.state.specs.Rows.{cell, FactAt, premises_span}
use Rattle.state.specs.RowTables.{tabled_long}
use Rattle.state.specs.Entries.{part}
use Rattle.state.specs.FactLaws.{FactRow, fact_row_lem, facts_tabled, lists_long}
use Rattle.referring.specs.Recall.{fact_of, Recalls, ReadableAll}
use Rattle.referring.specs.Referral.{Gathered}

module _ {facts lists : List ℕ} {n : Sizes} {I W : List ℕ} {m : Mark} (g : Recalls facts lists n I W m) {i : ℕ} (l : i < n.facts) where
  -- what the readers of `facts` ask
  pub fact_there : FactAt facts i
  fact_there = (tabled_long (facts_tabled g.recorded), omega (arith, (facts_tabled g.recorded).few))

  pub row : FactRow (records facts g.footings lists) n (made I W m) g.S i (fact_of g.S i)
  row = fact_row_lem g.recorded i l

  pub lists_are : length lists ≡ ENTRIES
  lists_are = lists_long g.recorded

  pub judgment_ready : {j : ℕ} {seen set : List ℕ} → j ≡ cell 6 facts i 0 → length seen ≡ TERMWORDS → length set ≡ VARIABLEWORDS → Readable I W m j seen set
  judgment_ready e p q =
      record { good = g.good; there = omega (arith, row.judgment.below, made_length I W m); wide = omega arith; broad = omega arith }

  -- the premises lie in the lists
  module _ {s : Span} (e : s ≡ premises_span facts i) where
    pub premises_order : s.from ≤ s.end
    premises_order = omega (arith, ap (λ (t : Span). t.from) e, ap (λ (t : Span). t.end) e)

    pub premises_end : s.end ≤ length lists
    premises_end = omega (arith, ap (λ (t : Span). t.end) e, row.inside, lists_are)

  module _ {own : List ℕ} (e : own ≡ part lists (premises_span facts i)) where
    are : own ≡ numbers (made I W m) (fact_of g.S i).premises
    are = e ∙ row.premises

    pub premises_ready : ReadableAll I W m own
    premises_ready =
        record {
          good = g.good;
          there = λ k h. subst (λ (b : ℕ). get_or own k 0 < b) (made_length I W m)
              (all_at own k 0 (subst (All (λ x. x < length (made I W m))) (sym are) row.numbered.below) h);
        }

    pub mention_done : {j : ℕ} {a seen b seen₁ seen₂ c : Set} → j ≡ cell 6 facts i 0 → Visited I W m j seen a seen₁ b
        → Gathered I W m (variables_of (args_of (made I W m) own)) b seen₂ c → Gathered I W m (mentioned (fact_of g.S i)) a seen₂ c
    unfolding mentioned
    mention_done {j} {a} f v w =
        let t : tree I W m j ≡ (fact_of g.S i).judgment = ap (tree I W m) f ∙ row.judgment.tree in
        let ts : args_of (made I W m) own ≡ (fact_of g.S i).premises = ap (args_of (made I W m)) are ∙ row.numbered.trees in
        record {
          set = w.set ∙ (λ k. union (v.set k) (variables_of (ts k))) ∙ ap (λ (u : Tree). union (union a (variables u)) (variables_of (fact_of g.S i).premises)) t
              ∙ union_assoc a (variables (fact_of g.S i).judgment) (variables_of (fact_of g.S i).premises);
          visits = w.visits;
        }
