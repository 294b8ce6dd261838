-- A test of facts by their records, as it is handed in: it may be asked of every fact, and answers what the definition's test says. Assumes nothing.
use Rattle.std.specs.Prelude.{◌≡◌, List, ℕ, ◌*◌, ◌<◌, Bool, Some as some, length}
use Rattle.std.specs.Fn.{Shared}
use denote.Ref.{Bor}
use Rattle.rules.specs.Limits.{FACTS}
use Rattle.rules.specs.Find.{entry}
use Rattle.rules.specs.State.{State, Fact}
use Rattle.facts.specs.declared.Fact.{Fact as Record}
use Rattle.state.specs.Records.{fact_rows}

module _ {F : Type 0} (g : Shared F (Bor (List Record) × (ℕ × Unit {0})) Bool) (f : F) (facts : List Record) where
  pub record Asks : Type 0 where
    pub may : (records : Bor (List Record)) (i : ℕ) → records.now ≡ facts → length (fact_rows facts) ≡ 6 * FACTS → i < FACTS → g.pre f (records, (i, tt))

  pub record Tests (S : State) (p : Fact → Bool) : Type 0 where
    pub says : (records : Bor (List Record)) (i : ℕ) (r : Bool) (fact : Fact) → records.now ≡ facts → i < length S.facts → g.post f (records, (i, tt)) r →
        entry S.facts i ≡ some fact → r ≡ p fact
