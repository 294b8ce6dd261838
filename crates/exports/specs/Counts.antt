-- What the contracts of the exported functions cite. Assumes nothing.
use Rattle.std.specs.Prelude.{ℕ, ◌+◌, length}
use Rattle.rules.specs.Limits.{RULES}
use Rattle.rules.specs.Sexp.{atom, list, Text, ends, fails, more}
use Rattle.rules.specs.Loop.{Judged, done, refused}
use Rattle.rules.specs.Theory.{Theory}

-- the bracketed forms of a text, however it ends, counted on from n
unfoldable pub forms_of : Text → ℕ → ℕ
forms_of ends n = n
forms_of (fails k) n = n
forms_of (more (atom p bs) q t) n = forms_of t n
forms_of (more (list xs) q t) n = forms_of t (n + 1)

-- the rules of a theory, or one more than there can be
abbrev pub rules_of : Judged Theory → ℕ
rules_of (done k T) = length T.rules
rules_of (refused n d k T) = RULES + 1
