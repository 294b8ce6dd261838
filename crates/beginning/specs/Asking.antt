-- Questions 2 and 3 in the definition's words: one is left in some text, or the theory is judged. Assumes nothing.
use Rattle.std.specs.Prelude.{◌≡◌, List, ℕ, ◌≤◌, length, Result, Ok, Err}
use Rattle.rules.specs.Limits.{LENGTH}
use Rattle.rules.specs.Theory.{no_theory}
use Rattle.rules.specs.State.{begin}
use Rattle.rules.specs.Check.{refused_in, after_theory, check}
use Rattle.questions.specs.declared.Question.{Question}
use Rattle.questions.specs.declared.Text.{Text}
use Rattle.questions.specs.Numbers.{text_number, number_of, detail_of}
use Rattle.kernel.specs.Parsed.{verdict}
use Rattle.running.specs.declared.stopped.Stopped.{Stopped}

-- a question that is left before the first form of a text
abbrev pub left_in : Text → Question → Stopped
left_in t q = record { text = t; refused = record { question = q; form = 0 } }

-- a question put to each text in turn, by the number of the first that fails, 0 for none
abbrev pub PutToEach : Question → ℕ → Result (Unit {0}) Stopped → Type 0
PutToEach q n (Ok u) = 0 ≡ n
PutToEach q n (Err s) = (text_number s.text ≡ n) × (s ≡ left_in s.text q)

-- none is left: no text is too long, and what comes behind these questions decides
pub record Plain (theory goals proof : List ℕ) : Type 0 where
  pub short_theory : length theory ≤ LENGTH
  pub short_goals : length goals ≤ LENGTH
  pub short_proof : length proof ≤ LENGTH
  pub is : after_theory goals proof (verdict theory) ≡ check theory goals proof

-- that question is left in that text
pub record LeftIn (theory goals proof : List ℕ) (s : Stopped) : Type 0 where
  pub is : refused_in (text_number s.text) (number_of s.refused.question) (detail_of s.refused.question) s.refused.form (begin no_theory)
      ≡ check theory goals proof

abbrev pub AskedAs : (theory goals proof : List ℕ) → Result (Unit {0}) Stopped → Type 0
AskedAs theory goals proof (Ok u) = Plain theory goals proof
AskedAs theory goals proof (Err s) = LeftIn theory goals proof s
