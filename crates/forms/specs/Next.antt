-- The index that a form gives its own fact. Assumes nothing.
use Rattle.std.specs.Prelude.{◌≡◌, List, ℕ, ◌≤◌, length, Result, Ok, Err}
use Rattle.rules.specs.Out.{Out, ok, refuse}
use Rattle.rules.specs.Sexp.{Sexps, count}
use Rattle.rules.specs.State.{State}
use Rattle.sexp.specs.Items.{Holds}
use Rattle.state.specs.declared.sizes.Sizes.{Sizes}
use Rattle.questions.specs.declared.Question.{Question}
use Rattle.questions.specs.Numbers.{number_of, detail_of}

-- the cells hold the items of a form, at least two, and so many facts are there
pub record OwnIndex (text cells : List ℕ) (n : Sizes) : Type 0 where
  pub S : State
  pub xs : Sexps
  pub holds : Holds text cells xs
  pub many : 2 ≤ count xs
  pub facts : n.facts ≡ length S.facts

-- K answers, or refuses by that question; the state is as it was
abbrev pub NextAs : State → Out State (Unit {0}) → Result (Unit {0}) Question → Type 0
NextAs S K (Ok u) = K ≡ ok tt S
NextAs S K (Err e) = (K ≡ refuse (number_of e) (detail_of e) S) × (detail_of e ≡ 0)
