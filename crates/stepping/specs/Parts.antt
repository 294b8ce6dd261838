-- What is lent from form to form: tables that may be longer than named, whose named parts a check fills; and what lies behind these. Assumes nothing.
use Rattle.std.specs.Prelude.{◌≡◌, List, ◌≤◌, length, take, drop, Result, Ok, Err}
use Rattle.rules.specs.Limits.{FACTS}
use Rattle.kernel.specs.Parsed.{TheoryLists, Roomy}
use Rattle.state.specs.Records.{fact_rows, fact_feet}
use Rattle.state.specs.Stands.{Board}
use Rattle.facts.specs.declared.Fact.{Fact}
use Rattle.running.specs.declared.refusal.Refusal.{Refusal}
use Rattle.running.specs.declared.refusal.Refusal.TheVariants as refusal
use Rattle.running.specs.declared.stopped.Stopped.{Stopped}
use Rattle.running.specs.Lent.{Working, LongWorking, board_front, WorkingBehind}

-- the named parts of the tables that a form changes, and of the records
abbrev pub front : Working → List Fact → Board
front W fs = board_front W (fact_rows (take FACTS fs)) (fact_feet (take FACTS fs))

-- they are as long as named, or longer
pub record Long (T : TheoryLists) (W : Working) (fs : List Fact) : Type 0 where
  pub theory : Roomy T
  pub working : LongWorking W
  pub records : FACTS ≤ length fs

-- W, fs before, Z, gs afterwards: nothing behind the named parts has changed
pub record Behind (W Z : Working) (fs gs : List Fact) : Type 0 where
  pub working : WorkingBehind W Z
  pub records : drop FACTS gs ≡ drop FACTS fs

-- a question that is left in a text, as a refusal
abbrev pub refused_by : {A : Type 0} → Result A Stopped → Result A Refusal
refused_by (Ok x) = Ok x
refused_by (Err s) = Err (refusal.Stopped s)
