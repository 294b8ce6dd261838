-- The answer of a check whose tables are as long as named is the definition's. Assumes nothing.
use mathlib.Core.Path.{◌≡◌, refl}
use Prim.Native.Nat.{ℕ}
use mathlib.Core.List.{List}
use lib.ListN.{length}
use Rattle.std.specs.Prelude.{Result}
use Rattle.rules.specs.Check.{Answer, check}
use Rattle.rules.specs.StateTables.{Tables, Long, Checked, too_short, answered}
use Rattle.kernel.specs.Parsed.{TheoryLists}
use Rattle.facts.specs.declared.Fact.{Fact}
use Rattle.running.specs.declared.finish.Report.{Report}
use Rattle.running.specs.declared.refusal.Refusal.{Refusal}
use Rattle.running.specs.Finished.{answer_of}
use Rattle.running.specs.Lent.{Working}
use Rattle.running.specs.Between.{AllLong}
use Rattle.running.specs.ReadBack.{Call}
use Rattle.running.specs.Checking.{tables_of, all_long}

defined : {theory goals proof : List ℕ} {before after : Tables} {a : Answer} → Long before → Checked theory goals proof before after a →
    a ≡ (check theory goals proof).answer
defined l (too_short n e) = absurd (n l)
defined l (answered m d) = refl

-- T, W, M as long as named, and so many records, whatever stands in them
pub answers_named : {theory goals proof : List ℕ} {T U : TheoryLists} {W Z : Working} {M N : List ℕ} (fs gs : List Fact) (r : Result Report Refusal) →
    AllLong (length fs) T W M → Call theory goals proof (tables_of T W M fs) (tables_of U Z N gs) (answer_of r) → answer_of r ≡ (check theory goals proof).answer
answers_named fs gs r a t = defined (all_long fs a) t.checked
