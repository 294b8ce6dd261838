-- Going through a text form by form: the state before the first refused form, the forms before it and the refusal, or the state behind
-- the last. Assumes nothing.
use Rattle.std.specs.Prelude.{ℕ, suc, Option, Some as some, None as nothing}
use Rattle.rules.specs.Out.{ok, refuse, Act}
use Rattle.rules.specs.Sexp.{Sexp, atom, list, Text, ends, fails, more}

-- done: the number of forms, and the state; refused: number, detail, forms before, and the state before the form
pub data Judged (S : Type 0) : Type 0 where
  done : ℕ → S → Judged S
  refused : ℕ → ℕ → ℕ → S → Judged S

-- k forms lie behind
unfoldable pub through : {S : Type 0} → (Sexp → Act S (Unit {0})) → Text → ℕ → S → Judged S
through f ends k s = done k s
through f (fails n) k s = refused n 0 k s
through f (more x p t) k s = elim (f x s) [ ok a u ↦ through f t (suc k) u | refuse n d u ↦ refused n d k s ]

-- a text that is read whole before it is judged: the number of its refusal by the reader, and the bracketed forms before
unfoldable pub unread : Text → ℕ → Option (ℕ × ℕ)
unread ends k = nothing
unread (fails n) k = some (n, k)
unread (more (atom p bs) q t) k = unread t k
unread (more (list xs) q t) k = unread t (suc k)

unfoldable pub whole : {S : Type 0} → (Sexp → Act S (Unit {0})) → Text → S → Judged S
whole f t s = elim (unread t 0) [ nothing ↦ through f t 0 s | some r ↦ refused r.0 0 r.1 s ]

-- `unfolding judging` opens all of the above, for a computation
unfoldable pub judging : Unit {0}
unfolding through unread whole
judging = tt
