-- The tag of a form, by its items, and what the definition answers for it. Assumes nothing.
use Rattle.std.specs.Prelude.{ℕ, List, Option, Some as some, None as nothing}
use Rattle.rules.specs.Out.{Out, refuse, Act}
use Rattle.rules.specs.Sexp.{Sexp, Sexps, atom, list, item, count}
use Rattle.rules.specs.State.{State}

-- the tag of a form with so many items, by the first of them; f: the tag of a name
unfoldable pub headed : {A : Type 0} → (List ℕ → ℕ → Option A) → Sexp → ℕ → Option A
headed f (atom p bs) n = f bs n
headed f (list xs) n = nothing

abbrev pub tagged : {A : Type 0} → (List ℕ → ℕ → Option A) → Sexps → Option A
tagged f xs = headed f (item xs 0) (count xs)

-- items that have that tag; q: the question where they have none
abbrev pub chosen : {A : Type 0} → ℕ → (A → Sexps → Act State (Unit {0})) → Option A → Sexps → State → Out State (Unit {0})
chosen q act nothing xs S = refuse q 0 S
chosen q act (some t) xs S = act t xs S
