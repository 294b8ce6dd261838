-- The end of a check: what it is given, and the answer in the definition's words. Assumes nothing.
use Rattle.std.specs.Prelude.{◌≡◌, ◌*◌, ◌<◌, Bool, not, true, false, List, [], ℕ, eqb, length, Result, Ok, Err, ⊤}
use Rattle.rules.specs.Limits.{GOALS}
use Rattle.rules.specs.Find.{every}
use Rattle.rules.specs.Tree.{is_open}
use Rattle.rules.specs.Store.{Made}
use Rattle.rules.specs.State.{State, Goal}
use Rattle.rules.specs.Check.{Answer, accepts, refuses, check}
use Rattle.rules.specs.StateTables.{missing_of}
use Rattle.rules.specs.TheoryTables.{filled}
use Rattle.rules.specs.Laws.Theory.{All}
use Rattle.rules.specs.Laws.Sound.{In}
use Rattle.questions.specs.declared.Question.{Question}
use Rattle.questions.specs.Numbers.{number_of}
use Rattle.kernel.specs.Parsed.{TheoryLists}
use Rattle.terms.specs.declared.store.Mark.{Mark}
use Rattle.terms.specs.declared.store.Terms.{Terms}
use Rattle.terms.specs.declared.store.Store.{Store}
use Rattle.terms.specs.Table.{made, tree, Good}
use Rattle.terms.specs.Lent.{GoodTerms}
use Rattle.state.specs.Rows.{cell}
use Rattle.state.specs.declared.sizes.Sizes.{Sizes}
use Rattle.state.specs.Held.{GoalsHeld}
use Rattle.state.specs.declared.board.Board.{Board as Lent}
use Rattle.state.specs.declared.goals.GoalTable.{GoalTable}
use Rattle.state.specs.Stands.{Board, tables_of}
use Rattle.counts.specs.Counted.{counts_of}
use Rattle.running.specs.declared.finish.Report.{Report}
use Rattle.running.specs.declared.refusal.Refusal.{Refusal}
use Rattle.running.specs.declared.stopped.Proved.{Proved}
use Rattle.running.specs.declared.stopped.Stopped.{Stopped}
use Rattle.running.specs.Refusals.{refusal_of}
use Rattle.running.specs.Course.{Over}

-- the goals without a result, numbered from 1
abbrev pub unproved : List Goal → List ℕ
unproved gs = every (λ g. not g.taken) gs 1

-- the rows of goals, in some text, beside some trees
pub record GoalRows (rows : List ℕ) (count : ℕ) : Type 0 where
  pub gs : List Goal
  pub text : List ℕ
  pub trees : Made
  pub held : GoalsHeld text rows count trees gs

abbrev pub GoalRowsIn : GoalTable → Type 0
GoalRowsIn t = GoalRows t.rows.now t.count

-- and the store that has their judgments
pub record OpenRows (rows index words : List ℕ) (m : Mark) (count : ℕ) : Type 0 where
  pub gs : List Goal
  pub text : List ℕ
  pub good : Good index words m
  pub held : GoalsHeld text rows count (made index words m) gs
  pub there : All (λ g. In g.judgment (made index words m)) gs

abbrev pub OpenRowsIn : GoalTable → Terms → Type 0
OpenRowsIn goals t = OpenRows goals.rows.now t.index.now t.words.now t.mark goals.count

-- row k of them, and whether its judgment has a variable
abbrev pub OpenRowAt : List ℕ → Terms → ℕ → Type 0
OpenRowAt rows t k = GoodTerms t × (length rows ≡ 6 * GOALS) × (k < GOALS) × (cell 6 rows k 2 < t.mark.terms)

abbrev pub row_open : List ℕ → Terms → ℕ → Bool
row_open rows t k = is_open (tree t.index.now t.words.now t.mark (cell 6 rows k 2))

-- the list afterwards: it has entries where the question is 53
abbrev pub ListedFor : Question → List ℕ → List ℕ → Type 0
ListedFor q xs list = list ≡ filled GOALS (elim (eqb (number_of q) 53) [ true ↦ xs | false ↦ [] ])

-- the answer, as the definition has it
abbrev pub answer_of : Result Report Refusal → Answer
answer_of (Ok r) =
    accepts
    (record {
      steps = r.steps;
      goals = r.goals;
      open_goals = r.open_goals;
      hypotheses = r.counts.hypotheses;
      inductions = r.counts.inductions;
      inversions = r.counts.inversions;
      instances = r.counts.instances;
    })
answer_of (Err r) = refuses (refusal_of r)

-- how many forms of the proof there were, where it is gone through
abbrev pub forms_of : Result Proved Stopped → Result ℕ Stopped
forms_of (Ok p) = Ok p.forms
forms_of (Err s) = Err s

-- the state's counts are those that are answered; a check that has stopped answers none
abbrev pub CountedAs : Result Proved Stopped → State → Type 0
CountedAs (Ok p) S = S.counts ≡ counts_of p.counts
CountedAs (Err s) S = ⊤

-- no form is left: the check has gone through the proof, or has stopped
pub record FinishGiven (r : Result Proved Stopped) (B : Board) (n : Sizes) (m : Mark) : Type 0 where
  pub theory : List ℕ
  pub goals : List ℕ
  pub proof : List ℕ
  pub T : TheoryLists
  pub S : State
  pub over : Over theory goals proof T B n m (forms_of r) S
  pub counted : CountedAs r S

abbrev pub FinishGivenIn : Result Proved Stopped → Lent → Store → Type 0
FinishGivenIn r b s = FinishGiven r (tables_of b s) b.n s.mark

-- r is the answer; the list afterwards
pub record Finishes (theory goals proof : List ℕ) (r : Result Report Refusal) (list : List ℕ) : Type 0 where
  pub is : answer_of r ≡ (check theory goals proof).answer
  pub named : list ≡ filled GOALS (missing_of (check theory goals proof).answer (check theory goals proof).state)
