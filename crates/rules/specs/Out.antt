-- An answer or a refusal, and how questions follow each other: what stands behind a refusal is not looked at.
-- An action goes from a state to its answer and the new state. A refusal has the state of the moment too, so that it can be said what was made
-- until then; what the tables hold after a refused form, the state before it, is `through`'s rule (Loop). Assumes nothing.
use Rattle.std.specs.Prelude.{ℕ, Bool, true, false, Option, Some as some, None as nothing}

-- a refusal has its number and its detail
pub data Out (S A : Type 0) : Type 0 where
  ok : A → S → Out S A
  refuse : ℕ → ℕ → S → Out S A

abbrev pub Act : Type 0 → Type 0 → Type 0
Act S A = S → Out S A

unfoldable pub then : {S A B : Type 0} → Out S A → (A → S → Out S B) → Out S B
then (ok a s) f = f a s
then (refuse n d s) f = refuse n d s

infixl 20 ◌>>=◌
abbrev pub ◌>>=◌ : {S A B : Type 0} → Act S A → (A → Act S B) → Act S B
◌>>=◌ m f s = then (m s) f

abbrev pub pure : {S A : Type 0} → A → Act S A
pure a s = ok a s

abbrev pub stop : {S A : Type 0} → ℕ → Act S A
stop n s = refuse n 0 s

-- question n, whose test must hold
abbrev pub ask : {S : Type 0} → ℕ → Bool → Act S (Unit {0})
ask n true s = ok tt s
ask n false s = refuse n 0 s

-- question 60: there must be room in the row
abbrev pub room : {S : Type 0} → ℕ → Bool → Act S (Unit {0})
room row true s = ok tt s
room row false s = refuse 60 row s

-- question n, which is answered by what was found
abbrev pub found : {S A : Type 0} → ℕ → Option A → Act S A
found n (some a) s = ok a s
found n nothing s = refuse n 0 s

abbrev pub get : {S : Type 0} → Act S S
get s = ok s s

abbrev pub put : {S : Type 0} → S → Act S (Unit {0})
put a s = ok tt a

-- an action with a state of its own, which begins so, beside what goes on
unfoldable pub beside : {S T A : Type 0} → S → Act S A → Act T (A × S)
beside s m t = elim (m s) [ ok a u ↦ ok (a, u) t | refuse n d u ↦ refuse n d t ]
