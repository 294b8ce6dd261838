-- A check whose facts come as numbers: what a check over records says, and the records in rows and words. Assumes nothing.
use Rattle.std.specs.Prelude.{◌≡◌, ℕ, ◌*◌, List, ◌++◌, drop, replicate, Result}
use Rattle.rules.specs.Limits.{FACTS}
use Rattle.kernel.specs.Parsed.{TheoryLists}
use Rattle.facts.specs.declared.Fact.{Fact}
use Rattle.facts.specs.Table.{blank}
use Rattle.running.specs.declared.finish.Report.{Report}
use Rattle.running.specs.declared.refusal.Refusal.{Refusal}
use Rattle.state.specs.Records.{fact_rows, fact_feet}
use Rattle.running.specs.Lent.{Working}
use Rattle.running.specs.Finished.{answer_of}
use Rattle.running.specs.ReadBack.{Call}
use Rattle.running.specs.Checking.{tables_of}

-- T, W, missing, facts, feet before; U, Z and those with a dash afterwards. The check had blank records, and left these
pub record Tabled (theory goals proof : List ℕ) (T U : TheoryLists) (W Z : Working) (missing missing' facts facts' feet feet' : List ℕ) (r : Result Report Refusal) :
    Type 0 where
  pub records : List Fact
  pub called : Call theory goals proof (tables_of T W missing (replicate FACTS blank)) (tables_of U Z missing' records) (answer_of r)
  pub rows : facts' ≡ fact_rows records ++ drop (6 * FACTS) facts
  pub words : feet' ≡ fact_feet records ++ drop (4 * FACTS) feet
