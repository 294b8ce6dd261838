-- The goals gone through: what they are given, and what stands behind the last of them or before the refused one. Assumes nothing.
use Rattle.std.specs.Prelude.{◌≡◌, List, [], ℕ, Result, Ok, Err}
use Rattle.rules.specs.Theory.{Theory}
use Rattle.rules.specs.Loop.{Judged, done, refused}
use Rattle.rules.specs.State.{State, no_counts, begin}
use Rattle.rules.specs.Laws.Theory.{All}
use Rattle.rules.proofs.Laws.Bounded.{BoundedCheck}
use Rattle.questions.specs.declared.Question.{Question}
use Rattle.questions.specs.declared.Question.TheVariants as question
use Rattle.questions.specs.declared.Refused.{Refused}
use Rattle.questions.specs.Numbers.{number_of, detail_of}
use Rattle.sexp.specs.Through.{Legible}
use Rattle.kernel.specs.Parsed.{TheoryLists, theory_of, verdict}
use Rattle.terms.specs.declared.store.Mark.{Mark}
use Rattle.state.specs.declared.sizes.Sizes.{Sizes}
use Rattle.state.specs.Stands.{Texts, Board, Stands}

-- the theory that a text declares
abbrev pub theory_in : List ℕ → Theory
theory_in theory = theory_of (verdict theory)

-- a theory in its tables, and cells of zeros for the forms; the text that is read is that of the goals
pub record Posing (X : Texts) (T : TheoryLists) (B : Board) (n : Sizes) (m : Mark) (cells : List ℕ) : Type 0 where
  pub text : X.text ≡ X.goals
  pub stands : Stands X T B n m (begin (theory_in X.theory))
  pub legible : Legible X.goals cells

-- nothing is proved so far, and all variables are declared in the goals
pub record Fresh (S : State) : Type 0 where
  pub checked : BoundedCheck S
  pub facts : S.facts ≡ []
  pub defs : S.defs ≡ []
  pub vars : All (λ v. v.text ≡ 2) S.vars
  pub counts : S.counts ≡ no_counts

-- a question that is left behind so many forms
abbrev pub behind : Question → ℕ → Refused
behind q k = record { question = q; form = k }

-- what is answered by what the definition says of the goals; question 25 behind them
abbrev pub PosedAs : Sizes → Judged State → Result (Unit {0}) Refused → Type 0
PosedAs n (done k S) (Ok u) = n.goals ≡ 0 → ⊥
PosedAs n (done k S) (Err e) = (n.goals ≡ 0) × (e ≡ behind question.NoGoal k)
PosedAs n (refused q d k S) (Ok u) = ⊥
PosedAs n (refused q d k S) (Err e) = (number_of e.question ≡ q) × (detail_of e.question ≡ d) × (e.form ≡ k)

-- the state in which it says so
abbrev pub state_in : Judged State → State
state_in (done k S) = S
state_in (refused q d k S) = S

pub record Posed (X : Texts) (T : TheoryLists) (B : Board) (n : Sizes) (m : Mark) (J : Judged State) (r : Result (Unit {0}) Refused) : Type 0 where
  pub is : PosedAs n J r
  pub stands : Stands X T B n m (state_in J)
  pub fresh : Fresh (state_in J)
