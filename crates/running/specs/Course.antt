-- What stands between two forms of the proof: all tables stand for a state, and what the definition makes of the rest, from that state on, is what it
-- makes of the three texts. Tables have their named lengths here. Assumes nothing.
use Rattle.std.specs.Prelude.{◌≡◌, List, ℕ, ◌≤◌, length, Result, Ok, Err}
use Rattle.rules.specs.Sexp.{read_from}
use Rattle.rules.specs.Loop.{through}
use Rattle.rules.specs.State.{State}
use Rattle.rules.specs.Forms.{take_form}
use Rattle.rules.specs.Check.{Outcome, refused_in, missing, ended, after_proof, check}
use Rattle.rules.proofs.Laws.Bounded.{BoundedCheck}
use Rattle.questions.specs.Numbers.{text_number, number_of, detail_of}
use Rattle.kernel.specs.Parsed.{TheoryLists}
use Rattle.terms.specs.declared.store.Mark.{Mark}
use Rattle.state.specs.declared.sizes.Sizes.{Sizes}
use Rattle.state.specs.Stands.{Texts, texts, Board, Stands}
use Rattle.running.specs.declared.stopped.Stopped.{Stopped}

-- a form may be left, from place p on, behind k forms
pub record Underway (theory goals proof : List ℕ) (T : TheoryLists) (B : Board) (n : Sizes) (m : Mark) (p k : ℕ) (S : State) : Type 0 where
  pub stands : Stands (texts theory goals proof) T B n m S
  pub bounded : BoundedCheck S
  pub left : after_proof (through take_form (read_from proof p) k S) ≡ check theory goals proof
  pub high : p ≤ length proof
  pub few : k ≤ p

-- what is answered to a check that has gone through k forms of the proof, or has stopped: by question 53, or by the one that is left
abbrev pub outcome_of : Result ℕ Stopped → State → Outcome
outcome_of (Ok k) S = ended k S (missing S)
outcome_of (Err s) S = refused_in (text_number s.text) (number_of s.refused.question) (detail_of s.refused.question) s.refused.form S

-- no form is left. X: the texts in which names stand
pub record Over (theory goals proof : List ℕ) (T : TheoryLists) (B : Board) (n : Sizes) (m : Mark) (r : Result ℕ Stopped) (S : State) : Type 0 where
  pub X : Texts
  pub stands : Stands X T B n m S
  pub is : outcome_of r S ≡ check theory goals proof
