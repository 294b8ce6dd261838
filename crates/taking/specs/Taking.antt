-- What one form of the goals or of the proof is given, with all tables at once, and what it answers: it is taken, and the tables stand for the state
-- behind it; or it is refused, and they stand for the state before it. Assumes nothing.
use Rattle.std.specs.Prelude.{◌≡◌, List, [], ℕ, Result, Ok, Err}
use Rattle.rules.specs.Out.{Out, refuse}
use Rattle.rules.specs.Sexp.{Sexp}
use Rattle.rules.specs.State.{State}
use Rattle.rules.specs.Forms.{plus}
use Rattle.rules.proofs.Laws.Bounded.{BoundedState}
use Rattle.questions.specs.declared.Question.{Question}
use Rattle.questions.specs.Numbers.{number_of, detail_of}
use Rattle.kernel.specs.Parsed.{TheoryLists, Formed}
use Rattle.terms.specs.declared.store.Mark.{Mark}
use Rattle.terms.specs.declared.store.Store.{Store}
use Rattle.state.specs.declared.sizes.Sizes.{Sizes}
use Rattle.state.specs.declared.board.Given.{Given}
use Rattle.state.specs.declared.board.Board.{Board}
use Rattle.state.specs.Stands.{Texts, Board as Tables, Stands, tables_of}
use Rattle.counts.specs.declared.Counts.{Counts}
use Rattle.counts.specs.Counted.{counts_of}
use Rattle.forms.specs.Boards.{texts_of, theory_of, StandsIn}
use Rattle.forms.specs.Moved.{MovesIn}

-- Given ----------------------------------------------------------------------------------------------------------------------------

-- the tables stand for S, and the cells are those of the form x
pub record TakesForm (X : Texts) (T : TheoryLists) (B : Tables) (n : Sizes) (m : Mark) (cells : List ℕ) : Type 0 where
  pub S : State
  pub x : Sexp
  pub stands : Stands X T B n m S
  pub bounded : BoundedState S
  pub formed : Formed X.text cells x

-- the same of what is lent
abbrev pub TakesFormIn : Given → Board → Store → List ℕ → Type 0
TakesFormIn g b s cells = TakesForm (texts_of g) (theory_of g) (tables_of b s) b.n s.mark cells

-- the text is that of the goals
pub record TakesGoalIn (g : Given) (b : Board) (s : Store) (cells : List ℕ) : Type 0 where
  pub form : TakesForm (texts_of g) (theory_of g) (tables_of b s) b.n s.mark cells
  pub none : form.S.facts ≡ []
  pub text : g.text.now ≡ g.goals.now

-- Answers --------------------------------------------------------------------------------------------------------------------------

-- K refuses by question q, whatever was made until then
pub record Refuses (K : Out State (Unit {0})) (q d : ℕ) : Type 0 where
  pub until : State
  pub is : K ≡ refuse q d until

-- b, s: the tables and the store before; c, t: afterwards. Where a question is left, as much of them is used as before
abbrev pub TakenIn : Given → Board → Board → Store → Store → State → Out State (Unit {0}) → Result Counts Question → Type 0
TakenIn g b c s t S K (Ok counts) = MovesIn g c t K (plus S.counts (counts_of counts))
TakenIn g b c s t S K (Err q) = Refuses K (number_of q) (detail_of q) × StandsIn g c t S × (c.n ≡ b.n) × (t.mark ≡ s.mark)

-- the same of a form that counts nothing
abbrev pub GoalTakenIn : Given → Board → Board → Store → Store → State → Out State (Unit {0}) → Result (Unit {0}) Question → Type 0
GoalTakenIn g b c s t S K (Ok u) = MovesIn g c t K S.counts
GoalTakenIn g b c s t S K (Err q) = Refuses K (number_of q) (detail_of q) × StandsIn g c t S × (c.n ≡ b.n) × (t.mark ≡ s.mark)
