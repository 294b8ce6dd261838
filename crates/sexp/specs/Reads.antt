-- What the contract of `read_form` cites. Assumes nothing.
use Rattle.std.specs.Prelude.{◌≡◌, ℕ, ◌+◌, ◌-◌, ◌≤◌, ◌<◌, List, ◌++◌, length, replicate, Option, Some as some, None as nothing, Result, Ok, Err}
use Rattle.questions.specs.declared.Question.{Question}
use Rattle.questions.specs.Numbers.{number_of, detail_of}
use Rattle.rules.specs.Sexp.{Sexp, Text, ends, fails, more, read_from}
use Rattle.sexp.specs.Encode.{encode}
use Rattle.sexp.specs.Spelt.{Spelt}
use Rattle.sexp.specs.declared.sexp.Form.{Form}

-- every cell is zero
abbrev pub Clear : List ℕ → Type 0
Clear w = w ≡ replicate (length w) 0

-- the question of that number, which tells nothing beside it
pub record Asks (n : ℕ) (q : Question) : Type 0 where
  pub number : number_of q ≡ n
  pub detail : detail_of q ≡ 0

-- the answer for what the definition reads
abbrev pub Answers : Text → Result (Option Form) Question → Type 0
Answers ends r = r ≡ Ok nothing
Answers (fails n) r = (q : Question) × (r ≡ Err q) × Asks n q
Answers (more f p t) r = r ≡ Ok (some (record { end = p; cells = length (encode f) }))

-- the answer of one who knows that a form stands there
abbrev pub found : Result Form Question → Result (Option Form) Question
found (Ok f) = Ok (some f)
found (Err q) = Err q

-- the cells afterwards, n in all: the form's, and zero behind them and where there is none
abbrev pub written : Text → ℕ → List ℕ
written ends n = replicate n 0
written (fails k) n = replicate n 0
written (more f p t) n = encode f ++ replicate (n - length (encode f)) 0

-- of a form that was read from `at` on and ends before `p`: what follows it is what the text reads as from there, its atoms stand in
-- the text, and it has no more cells than bytes
pub record Next (text : List ℕ) (at : ℕ) (f : Sexp) (p : ℕ) (t : Text) : Type 0 where
  pub follows : t ≡ read_from text p
  pub on : at < p
  pub within : p ≤ length text
  pub spelt : Spelt text f
  pub few : at + length (encode f) ≤ p

abbrev pub Behind : List ℕ → ℕ → Text → Type 0
Behind text at ends = Unit
Behind text at (fails n) = Unit
Behind text at (more f p t) = Next text at f p t

-- w: the cells before, v: the cells after
pub record ReadRight (text : List ℕ) (at : ℕ) (w v : List ℕ) (r : Result (Option Form) Question) : Type 0 where
  pub answers : Answers (read_from text at) r
  pub cells : v ≡ written (read_from text at) (length w)
  pub behind : Behind text at (read_from text at)
