-- The table of facts: the record of zeros, a table with a record put in where it is stored, and a table with records made blank. Assumes nothing.
use Rattle.std.specs.Prelude.{ℕ, ◌-◌, List, [], ◌∷◌, ◌++◌, set, take, drop, replicate, Option, Some as some, None as nothing}
use Rattle.facts.specs.declared.Fact.{Fact}

abbrev pub blank : Fact
blank = record { judgment = 0; assumed = 0; first = 0; hyps = 0; premises = 0; general = 0; footing = 0 ∷ 0 ∷ 0 ∷ 0 ∷ [] }

-- the table with the fact that is stored at i, if there is one
abbrev pub appended : Option Fact → List Fact → ℕ → List Fact
appended (some f) ys i = set ys i f
appended nothing ys i = ys

-- the table with blank records at from..to
unfoldable pub zeroed : List Fact → ℕ → ℕ → List Fact
zeroed ys from to = take from ys ++ (replicate (to - from) blank ++ drop to ys)
