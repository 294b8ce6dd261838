-- The list with a number that `items::list` cuts, and the question where there is none. Assumes nothing.
use Rattle.std.specs.Prelude.{◌≡◌, List, ℕ, ◌<◌, Option, Result, Ok, Err}
use Rattle.std.specs.Result.{result_ok}
use Rattle.std.proofs.Common.{subst}
use denote.Ref.{Bor}
use Rattle.rules.specs.Sexp.{Sexps, count, item}
use Rattle.questions.specs.declared.Question.{Question}
use Rattle.sexp.specs.Items.{Holds}
use Rattle.sexp.specs.WalkLaws.{AtomIs}
use Rattle.sexp.specs.Each.{ListIn, ListOf}
use Rattle.kernel.proofs.Missing.{there, absent}

module _ {cells : List ℕ} {k : ℕ} {o : Option (Bor (List ℕ))}
    (a : (text : List ℕ) (xs : Sexps) → Holds text cells xs → k < count xs → ListIn text cells (item xs k) o) {r : Result (Bor (List ℕ)) Question} (e : o ≡ result_ok r) where
  pub list_is : {inner : Bor (List ℕ)} → r ≡ Ok inner → (text : List ℕ) (xs : Sexps) → Holds text cells xs → k < count xs → ListOf text cells (item xs k) inner.now
  list_is f text xs h l = subst (ListIn text cells (item xs k)) (there o r e f) (a text xs h l)

  pub list_not : {q : Question} → r ≡ Err q → (text : List ℕ) (xs : Sexps) → Holds text cells xs → k < count xs → (p : ℕ) × AtomIs text (item xs k) p
  list_not f text xs h l = subst (ListIn text cells (item xs k)) (absent o r e f) (a text xs h l)
