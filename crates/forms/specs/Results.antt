-- What the form of results is given and what it answers, beside what the definition answers: K. Assumes nothing.
use Rattle.std.specs.Prelude.{◌≡◌, List, ℕ, ◌+◌, ◌*◌, ◌<◌, ◌≤◌, get_or, set, Result, Ok, Err}
use Rattle.rules.specs.Out.{Out, ok}
use Rattle.rules.specs.Find.{change}
use Rattle.rules.specs.Sexp.{Sexps, count}
use Rattle.rules.specs.Store.{Made}
use Rattle.rules.specs.State.{State, Goal}
use Rattle.rules.specs.Forms.{with_made, with_goals, taken_goal}
use Rattle.rules.specs.Laws.Theory.{All}
use Rattle.sexp.specs.Items.{Holds}
use Rattle.terms.specs.declared.store.Mark.{Mark}
use Rattle.terms.specs.Table.{made}
use Rattle.state.specs.declared.sizes.Sizes.{Sizes}
use Rattle.state.specs.Held.{Names, GoalsHeld, records, Recorded}
use Rattle.state.specs.RowCells.{no_goal}
use Rattle.questions.specs.declared.Question.{Question}
use Rattle.questions.specs.Numbers.{number_of, detail_of}
use Rattle.terms.specs.declared.store.Store.{Store}
use Rattle.state.specs.declared.board.Board.{Board}
use Rattle.referring.specs.Recall.{Refers}
use Rattle.forms.specs.Halted.{Makes, Halts}

-- goal k
abbrev pub goal_of : State → ℕ → Goal
goal_of S k = get_or S.goals k no_goal

-- Given ----------------------------------------------------------------------------------------------------------------------------

-- facts in the tables
pub record ListsHyps (facts hyps : List ℕ) : Type 0 where
  pub S : State
  pub n : Sizes
  pub trees : Made
  pub footings : List ℕ
  pub lists : List ℕ
  pub recorded : Recorded (records facts footings lists) n trees S
  pub below : All (λ h. h < n.facts) hyps

-- a goal and a fact in the tables
pub record Covers (rows facts lists : List ℕ) (k i : ℕ) : Type 0 where
  pub S : State
  pub n : Sizes
  pub trees : Made
  pub goals : List ℕ
  pub footings : List ℕ
  pub recorded : Recorded (records facts footings lists) n trees S
  pub held : GoalsHeld goals rows n.goals trees S.goals
  pub goal : k < n.goals
  pub fact : i < n.facts

-- terms and references are read, the state's trees are those of the store, the goals are in their table, and the cells hold the items of a result
pub record TakesResult (K : Names) (rows facts lists : List ℕ) (n : Sizes) (I W : List ℕ) (m : Mark) (cells : List ℕ) : Type 0 where
  pub S : State
  pub xs : Sexps
  pub footings : List ℕ
  pub refers : Refers K facts footings lists n I W m S
  pub store : made I W m ≡ S.made
  pub held : GoalsHeld K.goals rows n.goals (made I W m) S.goals
  pub holds : Holds K.text cells xs
  pub many : 3 ≤ count xs

-- Answers --------------------------------------------------------------------------------------------------------------------------

-- K is to take goal k, whose result has come
pub record GoalMet (n : Sizes) (I W J X : List ℕ) (old : Mark) (S : State) (K : Out State (Unit {0})) (k : ℕ) (now : Mark) : Type 0 where
  pub makes : Makes I W J X old now
  pub goal : k < n.goals
  pub is : K ≡ ok tt (with_goals (with_made S (made J X now)) (change S.goals k taken_goal))

abbrev pub MetBy : Sizes → List ℕ → List ℕ → List ℕ → List ℕ → Mark → Mark → State → Out State (Unit {0}) → Result ℕ Question → Type 0
MetBy n I W J X old new S K (Ok k) = GoalMet n I W J X old S K k new
MetBy n I W J X old new S K (Err e) = Halts I W J X old S K (number_of e) (detail_of e) new

abbrev pub MetAs : Board → Store → Store → State → Out State (Unit {0}) → Result ℕ Question → Type 0
MetAs b s t S K r = MetBy b.n s.index.now s.words.now t.index.now t.words.now s.mark t.mark S K r

-- goal k's result has come
pub record ResultTaken (before rows : List ℕ) (n : Sizes) (I W J X : List ℕ) (old : Mark) (S : State) (K : Out State (Unit {0})) (now : Mark) : Type 0 where
  pub makes : Makes I W J X old now
  pub k : ℕ
  pub goal : k < n.goals
  pub is : K ≡ ok tt (with_goals (with_made S (made J X now)) (change S.goals k taken_goal))
  pub rows_are : rows ≡ set before (6 * k + 5) 1

-- before, rows: the table of goals before and afterwards
abbrev pub ResultedBy : List ℕ → List ℕ → Sizes → List ℕ → List ℕ → List ℕ → List ℕ → Mark → Mark → State → Out State (Unit {0}) → Result (Unit {0}) Question → Type 0
ResultedBy before rows n I W J X old new S K (Ok u) = ResultTaken before rows n I W J X old S K new
ResultedBy before rows n I W J X old new S K (Err e) = Halts I W J X old S K (number_of e) (detail_of e) new × (rows ≡ before)

abbrev pub ResultedAs : Board → Board → Store → Store → State → Out State (Unit {0}) → Result (Unit {0}) Question → Type 0
ResultedAs b c s t S K r = ResultedBy b.rows.now c.rows.now b.n s.index.now s.words.now t.index.now t.words.now s.mark t.mark S K r
