-- The earlier fact that an item numbers. Assumes nothing.
use Rattle.std.specs.Prelude.{◌≡◌, ℕ, ◌<◌, ◌≤◌, List, Some as some, None as nothing, Option, Result, Ok, Err}
use Rattle.questions.specs.declared.Question.{Question}
use Rattle.questions.specs.declared.Question.TheVariants.{Earlier}
use Rattle.rules.specs.Sexp.{Sexp, Sexps, cons}
use Rattle.sexp.specs.Items.{Holds}
use Rattle.state.specs.declared.sizes.Sizes.{Sizes}
use Rattle.reading.specs.declared.reader.Reader.{Reader}
use Rattle.reading.specs.Items.{index_in}

-- no fact has that number
abbrev pub Missing : Sizes → Option ℕ → Type 0
Missing n (some i) = n.facts ≤ i
Missing n nothing = Unit {0}

-- what the first item numbers is an earlier fact, or not
abbrev pub EarlierAs : Reader → List ℕ → Result ℕ Question → Type 0
EarlierAs s cells (Ok i) = ((x : Sexp) (ys : Sexps) → Holds s.text.now cells (cons x ys) → index_in x ≡ some i) × (i < s.n.facts)
EarlierAs s cells (Err q) = (q ≡ Earlier) × ((x : Sexp) (ys : Sexps) → Holds s.text.now cells (cons x ys) → Missing s.n (index_in x))
