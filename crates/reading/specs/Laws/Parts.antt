-- The list with a number that `items::list` cuts, and the question put where there is none, by `ok_or`. Assumes nothing.
use Rattle.std.specs.Prelude.{◌≡◌, List, ℕ, ◌<◌, Option, Result, Ok, Err}
use Rattle.std.specs.Result.{result_ok}
use Rattle.std.proofs.Common.{subst}
use denote.Ref.{Bor}
use Rattle.rules.specs.Sexp.{Sexp, Sexps, cons, count, item}
use Rattle.sexp.specs.Items.{Holds}
use Rattle.sexp.specs.WalkLaws.{AtomIs}
use Rattle.sexp.specs.Each.{ListIn, ListOf, first_list, first_atom}
use Rattle.kernel.proofs.Missing.{there, absent}

module _ {text cells : List ℕ} {xs : Sexps} (h : Holds text cells xs) (k : ℕ) (l : k < count xs) {o : Option (Bor (List ℕ))}
    (a : (t : List ℕ) (ys : Sexps) → Holds t cells ys → k < count ys → ListIn t cells (item ys k) o) {E : Type 0} {r : Result (Bor (List ℕ)) E} (e : o ≡ result_ok r) where
  pub list_is : {inner : Bor (List ℕ)} → r ≡ Ok inner → ListOf text cells (item xs k) inner.now
  list_is f = subst (ListIn text cells (item xs k)) (there o r e f) (a text xs h l)

  pub list_not : {q : E} → r ≡ Err q → (p : ℕ) × AtomIs text (item xs k) p
  list_not f = subst (ListIn text cells (item xs k)) (absent o r e f) (a text xs h l)

-- the first of some items
module _ {text cells : List ℕ} {x : Sexp} {ys : Sexps} (h : Holds text cells (cons x ys)) {o : Option (Bor (List ℕ))}
    (a : (t : List ℕ) (zs : Sexps) → Holds t cells zs → 0 < count zs → ListIn t cells (item zs 0) o) {E : Type 0} {r : Result (Bor (List ℕ)) E} (e : o ≡ result_ok r) where
  pub first_is : {inner : Bor (List ℕ)} → r ≡ Ok inner → ListOf text cells x inner.now
  first_is f = first_list h (λ t zs k l. list_is k 0 l a e f)

  pub first_not : {q : E} → r ≡ Err q → (p : ℕ) × AtomIs text x p
  first_not f = first_atom h (λ t zs k l. list_not k 0 l a e f)
