-- What the readers of names cite. Assumes nothing.
use Rattle.std.specs.Prelude.{ℕ, ◌+◌, ◌<◌, List, length, Option, Some as some, None as nothing, Result, Ok, Err}
use Rattle.rules.specs.Sexp.{Sexps, Name, count}
use Rattle.sexp.specs.Items.{Holds}
use Rattle.sexp.specs.AtomText.{Spans}
use Rattle.questions.specs.declared.Question.{Question}
use Rattle.questions.specs.declared.Question.TheVariants.{Declared}
use Rattle.cells.specs.declared.Span.{Span}

-- the items of a list that has one with that number
pub record Reaching (text words : List ℕ) (number : ℕ) : Type 0 where
  pub xs : Sexps
  pub holds : Holds text words xs
  pub there : number < count xs

-- a name stands there in the text
abbrev pub StandsAt : List ℕ → Name → Span → Type 0
StandsAt text n s = Spans text n s.from s.end

-- where a name stands in the text; question 11 where there is none
abbrev pub name_of : Option Name → Result Span Question
name_of (some n) = Ok (record { from = n.start; end = n.start + length n.bytes })
name_of nothing = Err Declared
