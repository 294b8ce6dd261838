-- What a form does to all tables at once: it is taken, and they stand for the state behind it; or a question is left, trees may have been made behind, and
-- all else is as it was. Assumes nothing.
use Rattle.std.specs.Prelude.{◌≡◌, List, ℕ}
use Rattle.rules.specs.Out.{Out, ok, refuse}
use Rattle.rules.specs.State.{State, Counts}
use Rattle.kernel.specs.Parsed.{TheoryLists}
use Rattle.terms.specs.declared.store.Mark.{Mark}
use Rattle.state.specs.declared.sizes.Sizes.{Sizes}
use Rattle.state.specs.Stands.{Texts, Board, board, tables_of, Stands}
use Rattle.questions.specs.declared.Question.{Question}
use Rattle.questions.specs.Numbers.{number_of, detail_of}
use Rattle.terms.specs.declared.store.Store.{Store}
use Rattle.state.specs.declared.board.Given.{Given}
use Rattle.state.specs.declared.board.Board.{Board as Lent}
use Rattle.forms.specs.Halted.{Makes}
use Rattle.forms.specs.Boards.{texts_of, theory_of}

-- K answers a state for which the tables stand; c: what is counted then
pub record Moves (X : Texts) (T : TheoryLists) (B : Board) (n : Sizes) (m : Mark) (K : Out State (Unit {0})) (c : Counts) : Type 0 where
  pub after : State
  pub is : K ≡ ok tt after
  pub stands : Stands X T B n m after
  pub counted : after.counts ≡ c

-- the tables B, with another store
abbrev pub store_now : Board → List ℕ → List ℕ → Board
store_now B J Y = board B.vars J Y B.defs B.goals B.facts B.footings B.lists

-- K refuses by question q, whatever state that leaves; B, D: the tables before and afterwards
pub record Left (B D : Board) (m : Mark) (K : Out State (Unit {0})) (q d : ℕ) (new : Mark) : Type 0 where
  pub until : State
  pub is : K ≡ refuse q d until
  pub makes : Makes B.index B.words D.index D.words m new
  pub rests : D ≡ store_now B D.index D.words

-- As they are lent -----------------------------------------------------------------------------------------------------------------

-- c, t: the tables and the store afterwards
abbrev pub MovesIn : Given → Lent → Store → Out State (Unit {0}) → Counts → Type 0
MovesIn g c t K counts = Moves (texts_of g) (theory_of g) (tables_of c t) c.n t.mark K counts

-- b, s: those before; as much of each table is used as before
abbrev pub LeftIn : Lent → Lent → Store → Store → Out State (Unit {0}) → Question → Type 0
LeftIn b c s t K q = Left (tables_of b s) (tables_of c t) s.mark K (number_of q) (detail_of q) t.mark × (c.n ≡ b.n)
