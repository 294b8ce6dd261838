-- What the reader reads is what stands there: terms, goals and facts of the state. Assumes nothing.
use Rattle.std.specs.Prelude.{◌≡◌, length, get_or, take, drop, Some as some}
use Rattle.std.proofs.Math.Path.{refl, sym}
use Rattle.std.proofs.Common.{ap, ◌∙◌, subst, arith, take-suc}
use Prim.Native.Nat.{ℕ, zero, suc, ◌*◌, ◌<◌, ◌≤◌}
use mathlib.Core.List.{List, [], ◌∷◌, ◌++◌}
use Rattle.std.proofs.Math.Seq.{take-length}
use Rattle.rules.specs.Limits.{RULES, TERMS, WORDS, FACTS}
use Rattle.rules.specs.Find.{entry, rising}
use Rattle.rules.specs.Tree.{Tree, Trees, var, more}
use Rattle.rules.specs.Store.{Made}
use Rattle.rules.specs.State.{State, Fact, Goal}
use Rattle.rules.specs.StateTables.{Tables, numbers}
use Rattle.rules.specs.Laws.Theory.{All, empty, both}
use Rattle.rules.specs.Laws.Sound.{sound}
use Rattle.terms.specs.Table.{args_of}
use Rattle.terms.specs.Laws.Tables.{get_d_trees}
use Rattle.terms.specs.Sets.{holds}
use Rattle.state.specs.FactLaws.{FactRow, fact_row_of, goal_row_of}
use Rattle.state.specs.GoalLaws.{GoalRow}
use Rattle.state.specs.Members.{rises_rising}
use Rattle.state.specs.Numbered.{Numbered, AllNumbered}
use Rattle.state.specs.RowCells.{no_goal, no_fact}
use Rattle.state.specs.RowTables.{entry_at}
use Rattle.rules.specs.Laws.Entry.{entry_below}
use Rattle.running.specs.ReadBack.{Read}
use Rattle.demands.specs.Reader.{goal_rows, entries_in, term_in, list_in, goal_in, fact_in, facts_in}

module _ {T : Tables} {S : State} (h : Read T S) where
  abbrev I : List ℕ
  I = take (4 * TERMS) T.index

  abbrev W : List ℕ
  W = take WORDS T.words

  few : length S.made ≤ TERMS
  unfolding sound
  few = h.facts.trees.good.row8

  -- term i of all, where there is one
  pub term_read : (i : ℕ) → i < length S.made → term_in T i ≡ get_or S.made i (var 0)
  term_read i l =
      let f = few in
      get_d_trees I W TERMS i (omega arith) ∙ sym (get_d_trees I W (length S.made) i l) ∙ ap (λ (M : Made). get_or M i (var 0)) h.terms

  pub list_read : (is : List ℕ) → All (λ i. i < length S.made) is → list_in T is ≡ args_of S.made is
  unfolding args_of
  list_read [] empty = refl
  list_read (i ∷ is) (both l a) = λ j. more (term_read i l j) (list_read is a j)

  numbered_read : {t : Tree} (i : ℕ) → Numbered S.made t i → term_in T i ≡ t
  numbered_read i n = term_read i n.below ∙ n.tree

  all_read : {ts : Trees} (is : List ℕ) → is ≡ numbers S.made ts → AllNumbered S.made ts (numbers S.made ts) → list_in T is ≡ ts
  all_read {ts} is e n = ap (list_in T) e ∙ list_read (numbers S.made ts) n.below ∙ n.trees

  -- a recorded fact, every part of it
  pub fact_read : (i : ℕ) (f : Fact) → entry S.facts i ≡ some f → fact_in T i ≡ f
  fact_read i f e =
      let r : FactRow _ _ S.made S i f = fact_row_of i h.facts e in
      let b : rising RULES (holds (take 4 (drop (4 * i) (take (4 * FACTS) T.footings)))) ≡ f.footing =
      ap (rising RULES) r.footing ∙ rises_rising RULES f.footing r.shaped.footing.rises r.footing_below in
      λ j. record {
        judgment = numbered_read _ r.judgment j;
        hyps = r.hyps j;
        assumed = r.assumed j;
        premises = all_read _ r.premises r.numbered j;
        general = r.general j;
        footing = b j;
      }

  same_goal : {a b : Goal} → some a ≡ some b → a ≡ b
  same_goal p = cc

  -- a goal, but for its name
  pub goal_read : (k : ℕ) (g : Goal) → entry S.goals k ≡ some g → goal_in T g.name k ≡ g
  goal_read k g e =
      let l = entry_below S.goals k g e in
      let q : get_or S.goals k no_goal ≡ g = same_goal (sym (entry_at S.goals k no_goal l) ∙ e) in
      let r : GoalRow (goal_rows T) (entries_in T) S.made S.goals k g =
      subst (GoalRow (goal_rows T) (entries_in T) S.made S.goals k) q (goal_row_of k h.facts h.goals l) in
      λ j. record { name = g.name; judgment = numbered_read _ r.judgment j; hyps = all_read _ r.hyps r.numbered j; taken = r.taken j }

  -- all facts
  facts_to : (n : ℕ) → n ≤ length S.facts → facts_in T n ≡ take n S.facts
  unfolding facts_in
  facts_to zero l = refl
  facts_to (suc n) l =
      (λ j. facts_to n (omega arith) j ++ (fact_read n (get_or S.facts n no_fact) (entry_at S.facts n no_fact l) j ∷ []))
      ∙ sym (take-suc S.facts n no_fact l)

  pub facts_read : facts_in T (length S.facts) ≡ S.facts
  facts_read = facts_to (length S.facts) (omega arith) ∙ take-length S.facts
