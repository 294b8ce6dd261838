-- The beginning over tables of their named lengths: what it is given, and where the check stands then. Assumes nothing.
use Rattle.std.specs.Prelude.{◌≡◌, List, ℕ, ◌*◌, length, replicate, Result, Ok, Err}
use Rattle.rules.specs.Limits.{LENGTH, VARIABLES, TERMS, WORDS, DEFS, GOALS, FACTS, ENTRIES}
use Rattle.rules.specs.State.{State, no_counts}
use Rattle.kernel.specs.Parsed.{TheoryLists, Exact}
use Rattle.terms.specs.declared.store.Mark.{Mark}
use Rattle.state.specs.declared.sizes.Sizes.{Sizes}
use Rattle.state.specs.Stands.{Board, board}
use Rattle.running.specs.declared.stopped.Stopped.{Stopped}
use Rattle.running.specs.Course.{Underway, Over}
use Rattle.beginning.specs.Lengths.{ExactBoard, no_sizes, no_mark}

-- zero everywhere
abbrev pub no_board : Board
no_board =
    board (replicate (4 * VARIABLES) 0) (replicate (4 * TERMS) 0) (replicate WORDS 0) (replicate (3 * DEFS) 0) (replicate (6 * GOALS) 0)
    (replicate (6 * FACTS) 0) (replicate (4 * FACTS) 0) (replicate ENTRIES 0)

-- the tables as they are lent, of their named lengths
pub record Lending (B : Board) : Type 0 where
  pub exact : ExactBoard B
  pub facts : length B.facts ≡ 6 * FACTS

-- with those of the theory, and cells of zeros for the forms
pub record Opening (T : TheoryLists) (B : Board) (cells : List ℕ) : Type 0 where
  pub theory : Exact T
  pub lent : Lending B
  pub cells_zero : cells ≡ replicate LENGTH 0

-- all but the theory's are cleared
pub record Cleared (B : Board) (n : Sizes) (m : Mark) : Type 0 where
  pub none : B ≡ no_board
  pub sizes : n ≡ no_sizes
  pub mark : m ≡ no_mark

-- the proof begins, or a question is left
abbrev pub CourseOf : (theory goals proof : List ℕ) → TheoryLists → Board → Sizes → Mark → State → Result (Unit {0}) Stopped → Type 0
CourseOf theory goals proof T B n m S (Ok u) = Underway theory goals proof T B n m 0 0 S
CourseOf theory goals proof T B n m S (Err s) = Over theory goals proof T B n m (Err s) S

pub record Opened (theory goals proof : List ℕ) (T : TheoryLists) (B : Board) (n : Sizes) (m : Mark) (r : Result (Unit {0}) Stopped) : Type 0 where
  pub S : State
  pub course : CourseOf theory goals proof T B n m S r
  pub counts : S.counts ≡ no_counts
  pub facts : n.facts ≡ 0
