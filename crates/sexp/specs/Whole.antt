-- What the contract of `read_all` cites. Assumes nothing.
use Rattle.std.specs.Prelude.{◌≡◌, ℕ, ◌+◌, Result, Ok, Err}
use Rattle.rules.specs.Sexp.{atom, list, Text, ends, fails, more}
use Rattle.questions.specs.declared.Question.{Question}
use Rattle.questions.specs.declared.Refused.{Refused}
use Rattle.sexp.specs.Reads.{Asks}

-- how a text ends, with the number of its bracketed forms before that, counted on from n: a bare atom is not counted
unfoldable pub EndsAs : Text → ℕ → Result ℕ Refused → Type 0
EndsAs ends n r = r ≡ Ok n
EndsAs (fails k) n r = (q : Question) × (r ≡ Err (record { question = q; form = n })) × Asks k q
EndsAs (more (atom p bs) q t) n r = EndsAs t n r
EndsAs (more (list xs) q t) n r = EndsAs t (n + 1) r
