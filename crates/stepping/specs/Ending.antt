-- The end in tables that may be longer than named: what it is given, and what it leaves. Assumes nothing.
use Rattle.std.specs.Prelude.{◌≡◌, List, ◌++◌, ℕ, ◌*◌, ◌≤◌, length, take, drop, Option, Some as some, None as nothing, Result, Ok, Err}
use Rattle.rules.specs.Limits.{TERMS, GOALS, FACTS}
use Rattle.rules.specs.State.{State}
use Rattle.kernel.specs.Parsed.{TheoryLists}
use Rattle.terms.specs.Table.{settled}
use Rattle.facts.specs.declared.Fact.{Fact}
use Rattle.running.specs.declared.finish.Report.{Report}
use Rattle.running.specs.declared.refusal.Refusal.{Refusal}
use Rattle.running.specs.declared.refusal.Refusal.TheVariants as refusal
use Rattle.running.specs.declared.stopped.Proved.{Proved}
use Rattle.running.specs.declared.stopped.Stopped.{Stopped}
use Rattle.running.specs.Lent.{Working, LongWorking}
use Rattle.running.specs.Course.{Over}
use Rattle.running.specs.Finished.{forms_of, CountedAs, Finishes}
use Rattle.running.specs.Checking.{with_index}
use Rattle.stepping.specs.declared.used.Used.{Used}
use Rattle.stepping.specs.Parts.{front}

-- where the forms of a check have ended; nothing where question 1 is left
abbrev pub ends_of : Result Proved Refusal → Option (Result Proved Stopped)
ends_of (Ok p) = some (Ok p)
ends_of (Err (refusal.Stopped s)) = some (Err s)
ends_of (Err refusal.Tables) = nothing

-- no form is left; M: the list of 53
pub record Ending (e : Result Proved Stopped) (u : Used) (W : Working) (fs : List Fact) (M : List ℕ) : Type 0 where
  pub theory : List ℕ
  pub goals : List ℕ
  pub proof : List ℕ
  pub T : TheoryLists
  pub S : State
  pub working_long : LongWorking W
  pub records_long : FACTS ≤ length fs
  pub list_long : GOALS ≤ length M
  pub over : Over theory goals proof T (front W fs) u.n u.mark (forms_of e) S
  pub counted : CountedAs e S

-- W, M, fs before, Z, N, gs afterwards: the list is that of the answer r, the index is settled, all else is as it was
pub record Ended (theory goals proof : List ℕ) (W Z : Working) (M N : List ℕ) (fs gs : List Fact) (r : Result Report Refusal) : Type 0 where
  pub finishes : Finishes theory goals proof r (take GOALS N)
  pub list_behind : drop GOALS N ≡ drop GOALS M
  pub index_is : Z.index ≡ settled (take (4 * TERMS) W.index) ++ drop (4 * TERMS) W.index
  pub rest : Z ≡ with_index W Z.index
  pub records : gs ≡ fs
