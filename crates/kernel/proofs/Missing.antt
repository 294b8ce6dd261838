-- A question put to what is there or not, by `ok_or`, and whether it is there, by `is_some`. Assumes nothing.
use mathlib.Core.Path.{◌≡◌, refl, sym, ap, ◌∙◌}
use Rattle.std.specs.Prelude.{Bool, true, false, Option, Some as some, None as nothing, Result, Ok, Err, ok_or}
use Rattle.std.specs.Option.{is_some}
use Rattle.std.specs.Result.{result_ok}
use Rattle.sexp.specs.Never.{never}

module _ {A E : Type 0} (o : Option A) (r : Result A E) (k : o ≡ result_ok r) where
  pub there : {a : A} → r ≡ Ok a → o ≡ some a
  there e = k ∙ ap result_ok e

  pub absent : {e : E} → r ≡ Err e → o ≡ nothing
  absent e = k ∙ ap result_ok e

  asked : E → Result A E → E
  asked q (Ok a) = q
  asked q (Err e) = e

  -- the error is the one that was put
  pub question_is : {q e : E} → r ≡ ok_or o q → r ≡ Err e → e ≡ q
  unfolding asked
  question_is {q} v w = ap (asked q) (sym w ∙ v ∙ ap (λ z. ok_or z q) (absent w))

module _ {A : Type 0} {b : Bool} where
  pub is_there : (o : Option A) → b ≡ is_some o → b ≡ true → (a : A) × (o ≡ some a)
  is_there nothing e t = never cc
  is_there (some a) e t = (a, refl)

  pub is_absent : (o : Option A) → b ≡ is_some o → b ≡ false → o ≡ nothing
  is_absent nothing e t = refl
  is_absent (some a) e t = never cc
