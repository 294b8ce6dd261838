-- A refusal that `?` hands on, and one that is put behind so many forms before. Assumes nothing.
use mathlib.Core.Path.{◌≡◌, refl, ap}
use Prim.Native.Nat.{ℕ}
use Rattle.std.specs.Prelude.{Result, Ok, Err}
use Rattle.std.specs.Result.{IsErr, IsErrAnd}
use Rattle.questions.specs.declared.Question.{Question}
use Rattle.questions.specs.declared.Refused.{Refused}
use Rattle.sexp.specs.Never.{never}

pub handed : {A E : Type 0} (r : Result A E) {e : E} → IsErr r × IsErrAnd r (λ f. f ≡ e) → r ≡ Err e
handed (Ok x) k = absurd k.1
handed (Err f) k = ap Err k.1

-- a question of an answer, with the number of forms before it beside it
abbrev pub behind : {A : Type 0} → ℕ → Result A Question → Result A Refused
behind k (Ok x) = Ok x
behind k (Err q) = Err (record { question = q; form = k })

pub behind_ok : {A : Type 0} (k : ℕ) {x : A} (r : Result A Question) → behind k r ≡ Ok x → r ≡ Ok x
behind_ok k {x} (Ok y) e = let q : y ≡ x = cc in ap Ok q
behind_ok k (Err q) e = never cc

pub behind_err : {A : Type 0} (k : ℕ) {f : Refused} (r : Result A Question) → behind k r ≡ Err f → (q : Question) × (r ≡ Err q) × (record { question = q; form = k } ≡ f)
behind_err k (Ok y) e = never cc
behind_err k {f} (Err q) e = (q, refl, cc)
