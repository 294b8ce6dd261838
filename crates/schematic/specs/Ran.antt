-- What stands between two forms of the proof beside the tables, what all forms leave, and what the whole check leaves in tables of their named lengths.
-- Assumes nothing.
use Rattle.state.specs.Records.{fact_rows, fact_feet}
use Rattle.std.specs.Prelude.{◌≡◌, List, ◌++◌, ℕ, ◌*◌, take, drop, Result}
use Rattle.rules.specs.Limits.{TERMS, GOALS, FACTS}
use Rattle.rules.specs.State.{State}
use Rattle.kernel.specs.Parsed.{TheoryLists}
use Rattle.terms.specs.declared.store.Mark.{Mark}
use Rattle.terms.specs.declared.store.Store.{Store}
use Rattle.terms.specs.Table.{settled}
use Rattle.state.specs.declared.sizes.Sizes.{Sizes}
use Rattle.state.specs.declared.board.Given.{Given}
use Rattle.state.specs.declared.board.Board.{Board as Lent}
use Rattle.state.specs.Stands.{Board, board, tables_of as tables_in}
use Rattle.facts.specs.declared.Fact.{Fact}
use Rattle.counts.specs.declared.Counts.{Counts}
use Rattle.counts.specs.Counted.{counts_of}
use Rattle.forms.specs.Boards.{theory_of}
use Rattle.running.specs.declared.stopped.Proved.{Proved}
use Rattle.running.specs.declared.stopped.Stopped.{Stopped}
use Rattle.running.specs.declared.finish.Report.{Report}
use Rattle.running.specs.declared.refusal.Refusal.{Refusal}
use Rattle.running.specs.Course.{Over}
use Rattle.running.specs.Finished.{forms_of, CountedAs, Finishes, answer_of}
use Rattle.running.specs.Lent.{Working, board_front, WorkingBehind}
use Rattle.running.specs.ReadBack.{Call}
use Rattle.running.specs.Checking.{tables_of, with_index}
use Rattle.running.specs.Between.{Few}
use Rattle.advancing.specs.Stepped.{UnderwayIn}

-- a form may be left from place p on, behind k forms; c: the counts
pub record Kept (g : Given) (b : Lent) (s : Store) (p k : ℕ) (c : Counts) : Type 0 where
  pub S : State
  pub underway : UnderwayIn g b s p k S
  pub counted : S.counts ≡ counts_of c
  pub few : Few c k

-- no form is left
pub record Ran (theory goals proof : List ℕ) (T : TheoryLists) (B : Board) (n : Sizes) (m : Mark) (r : Result Proved Stopped) : Type 0 where
  pub S : State
  pub over : Over theory goals proof T B n m (forms_of r) S
  pub counted : CountedAs r S

abbrev pub RanIn : Given → Lent → Store → Result Proved Stopped → Type 0
RanIn g b s r = Ran g.theory.now g.goals.now g.text.now (theory_of g) (tables_in b s) b.n s.mark r

-- the tables when no form was left: the index was not settled yet
abbrev pub unsettled : Board → List ℕ → Board
unsettled B i = board B.vars i B.words B.defs B.goals B.facts B.footings B.lists

-- the check is over: T, B the tables; list: that of 53; r: the answer
pub record Whole (theory goals proof : List ℕ) (T : TheoryLists) (B : Board) (list : List ℕ) (r : Result Report Refusal) : Type 0 where
  pub index : List ℕ
  pub n : Sizes
  pub m : Mark
  pub e : Result ℕ Stopped
  pub S : State
  pub over : Over theory goals proof T (unsettled B index) n m e S
  pub index_is : B.index ≡ settled index
  pub finishes : Finishes theory goals proof r list

-- the same in tables that may be longer, but for those of the theory: W, M, fs before, Z, N, gs afterwards
pub record Filled (theory goals proof : List ℕ) (T : TheoryLists) (W Z : Working) (M N : List ℕ) (fs gs : List Fact) (r : Result Report Refusal) : Type 0 where
  pub index : List ℕ
  pub rows : List ℕ
  pub feet : List ℕ
  pub n : Sizes
  pub m : Mark
  pub e : Result ℕ Stopped
  pub S : State
  pub over : Over theory goals proof T (board_front (with_index Z index) rows feet) n m e S
  pub working_behind : WorkingBehind W (with_index Z index)
  pub index_is : Z.index ≡ settled (take (4 * TERMS) index) ++ drop (4 * TERMS) index
  pub rows_are : fact_rows gs ≡ rows ++ drop (6 * FACTS) (fact_rows fs)
  pub feet_are : fact_feet gs ≡ feet ++ drop (4 * FACTS) (fact_feet fs)
  pub records_behind : drop FACTS gs ≡ drop FACTS fs
  pub finishes : Finishes theory goals proof r (take GOALS N)
  pub list_behind : drop GOALS N ≡ drop GOALS M

-- all of it: T, W, M, fs before, U, Z, N, gs afterwards
abbrev pub Called : (theory goals proof : List ℕ) → TheoryLists → Working → List ℕ → List Fact → TheoryLists → Working → List ℕ → List Fact →
    Result Report Refusal → Type 0
Called theory goals proof T W M fs U Z N gs r =
    Call theory goals proof (tables_of T W M fs) (tables_of U Z N gs) (answer_of r) × (drop FACTS gs ≡ drop FACTS fs)
