-- What the forms of goals are given and what they answer, beside what the definition answers: K. Assumes nothing.
use Rattle.std.specs.Prelude.{◌≡◌, false, List, [], ◌∷◌, ◌++◌, ℕ, ◌+◌, ◌*◌, ◌<◌, ◌≤◌, length, Result, Ok, Err}
use Rattle.std.proofs.lemmas.List.Edits.{sets}
use Rattle.rules.specs.Limits.{LENGTH, GOALS, ENTRIES}
use Rattle.rules.specs.Out.{Out, ok, refuse}
use Rattle.rules.specs.Sexp.{Sexps, Name, count}
use Rattle.rules.specs.Tree.{Tree, Trees, count_trees}
use Rattle.rules.specs.Store.{Made}
use Rattle.rules.specs.State.{State, Goal, entries}
use Rattle.rules.specs.Forms.{with_made, with_goals}
use Rattle.rules.specs.StateTables.{numbers}
use Rattle.rules.specs.Laws.Keeping.{Each}
use Rattle.rules.specs.Laws.Sound.{sound}
use Rattle.sexp.specs.Items.{Holds}
use Rattle.sexp.specs.NameRows.{NameIn}
use Rattle.terms.specs.declared.store.Mark.{Mark}
use Rattle.terms.specs.Table.{made, tree}
use Rattle.state.specs.declared.sizes.Sizes.{Sizes}
use Rattle.state.specs.Held.{Names, GoalsHeld}
use Rattle.state.specs.Used.{goals_now}
use Rattle.reading.specs.Given.{Reads}
use Rattle.terms.specs.declared.store.Store.{Store}
use Rattle.state.specs.declared.board.Given.{Given}
use Rattle.state.specs.declared.board.Board.{Board}
use Rattle.questions.specs.declared.Question.{Question}
use Rattle.questions.specs.Numbers.{number_of, detail_of}
use Rattle.forms.specs.Halted.{Makes, Halts}

-- Given ----------------------------------------------------------------------------------------------------------------------------

-- the goals in their table, and the cells hold the items of a goal
pub record GoalPlace (goals rows : List ℕ) (n : Sizes) (cells : List ℕ) : Type 0 where
  pub S : State
  pub xs : Sexps
  pub trees : Made
  pub held : GoalsHeld goals rows n.goals trees S.goals
  pub used : n.entries ≡ entries S
  pub fits : n.entries ≤ ENTRIES
  pub holds : Holds goals cells xs
  pub many : 2 ≤ count xs
  pub short : length goals ≤ LENGTH

-- terms are read, the state's trees are those of the store, the goals are in their table, and the cells hold the items of a goal, at least so many
pub record AddsGoal (K : Names) (rows : List ℕ) (n : Sizes) (I W : List ℕ) (m : Mark) (cells : List ℕ) (least : ℕ) : Type 0 where
  pub S : State
  pub xs : Sexps
  pub reads : Reads K n I W m S
  pub store : made I W m ≡ S.made
  pub held : GoalsHeld K.text rows n.goals (made I W m) S.goals
  pub used : n.entries ≡ entries S
  pub fits : n.entries ≤ ENTRIES
  pub holds : Holds K.text cells xs
  pub many : least ≤ count xs

-- Answers --------------------------------------------------------------------------------------------------------------------------

-- a goal without a result
abbrev pub new_goal : Name → Tree → Trees → Goal
new_goal n j hs = record { name = n; judgment = j; hyps = hs; taken = false }

-- one goal more: its row; the number of its judgment is given, and the entries up to e are used
pub record GoalPlaced (goals before rows : List ℕ) (n : Sizes) (judgment : ℕ) (S : State) (hs : Trees) (j : Tree) (K : Out State (Unit {0})) (e : ℕ) : Type 0 where
  pub name : Name
  pub end : ℕ
  pub is : K ≡ ok tt (with_goals S (S.goals ++ (new_goal name j hs ∷ [])))
  pub named : NameIn goals name
  pub ends : end ≡ name.start + length name.bytes
  pub room : n.goals < GOALS
  pub used : e ≡ n.entries + count_trees hs
  pub fits : e ≤ ENTRIES
  pub rows_are : rows ≡ sets before (6 * n.goals) (name.start ∷ end ∷ judgment ∷ n.entries ∷ count_trees hs ∷ 0 ∷ [])

-- before, rows: the table of goals before and afterwards; n, k: what is used before and afterwards
abbrev pub PlacedBy : List ℕ → List ℕ → List ℕ → Sizes → Sizes → ℕ → State → Trees → Tree → Out State (Unit {0}) → Result (Unit {0}) Question → Type 0
PlacedBy goals before rows n k judgment S hs j K (Ok u) =
    GoalPlaced goals before rows n judgment S hs j K k.entries × (k ≡ goals_now n (n.goals + 1) k.entries)
PlacedBy goals before rows n k judgment S hs j K (Err e) = (K ≡ refuse (number_of e) (detail_of e) S) × (rows ≡ before) × (k ≡ n)

abbrev pub PlacedAs : Given → Board → Board → ℕ → State → Trees → Tree → Out State (Unit {0}) → Result (Unit {0}) Question → Type 0
PlacedAs g b c judgment S hs j K r = PlacedBy g.text.now b.rows.now c.rows.now b.n c.n judgment S hs j K r

-- one goal more, by its row and its entries; the trees made until then stay
pub record GoalAdded (goals rows' rows lists' lists : List ℕ) (n : Sizes) (I W J X : List ℕ) (old : Mark) (S : State) (K : Out State (Unit {0})) (e : ℕ) (now : Mark) : Type 0 where
  pub makes : Makes I W J X old now
  pub hyps : Trees
  pub judgment : ℕ
  pub there : judgment < now.terms
  pub known : Each (sound.Has (made J X now)) hyps
  pub placed : GoalPlaced goals rows' rows n judgment (with_made S (made J X now)) hyps (tree J X now judgment) K e
  pub lists_are : lists ≡ sets lists' n.entries (numbers (made J X now) hyps)

-- rows', lists' and rows, lists: the tables before and afterwards; n, k: what is used then
abbrev pub AimedBy : List ℕ → List ℕ → List ℕ → List ℕ → List ℕ → Sizes → Sizes → List ℕ → List ℕ → List ℕ → List ℕ → Mark → Mark → State → Out State (Unit {0}) → Result (Unit {0}) Question → Type 0
AimedBy goals rows' rows lists' lists n k I W J X old new S K (Ok u) =
    GoalAdded goals rows' rows lists' lists n I W J X old S K k.entries new × (k ≡ goals_now n (n.goals + 1) k.entries)
AimedBy goals rows' rows lists' lists n k I W J X old new S K (Err e) =
    Halts I W J X old S K (number_of e) (detail_of e) new × (rows ≡ rows') × (lists ≡ lists') × (k ≡ n)

abbrev pub AimedAs : Given → Board → Board → Store → Store → State → Out State (Unit {0}) → Result (Unit {0}) Question → Type 0
AimedAs g b c s t S K r =
    AimedBy g.text.now b.rows.now c.rows.now b.lists.now c.lists.now b.n c.n s.index.now s.words.now t.index.now t.words.now s.mark t.mark S K r
