-- Substitution with a memo that is zero before and after. Assumes nothing.
use mathlib.Core.List.{List}
use Prim.Native.Nat.{ℕ}
use Rattle.rules.specs.Store.{substitute}
use Rattle.terms.specs.declared.store.Mark.{Mark}
use Rattle.questions.specs.declared.Row.{Row}
use Rattle.std.specs.Prelude.{Result, Ok, Err}
use Rattle.terms.specs.Table.{made, After, tree}
use Rattle.terms.specs.Subst.{replacement, substituted, Substituted}

pub fresh_done : (I W J X : List ℕ) (m new : Mark) (map memo memo' : List ℕ) (id : ℕ) (r : Result ℕ Row) → Substituted I W J X m new map memo memo' id r
    → After I W J X m new (substituted I W m map id) (substitute (replacement (made I W m) map) (tree I W m id) (made I W m)) r
unfolding substitute
fresh_done I W J X m new map memo memo' id (Ok n) d = record { says = d.stored }
fresh_done I W J X m new map memo memo' id (Err row) d = record { says = d }
