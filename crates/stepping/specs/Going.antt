-- One form in tables that may be longer than named: what it is given, and what it leaves. Assumes nothing.
use Rattle.std.specs.Prelude.{◌≡◌, List, ℕ, ◌+◌, ◌*◌, ◌<◌, ◌≤◌, length, take, Option, Some as some, None as nothing, Result, Ok, Err}
use Rattle.rules.specs.Limits.{FACTS}
use Rattle.rules.specs.State.{State}
use Rattle.rules.specs.Forms.{plus}
use Rattle.questions.specs.declared.Question.{Question}
use Rattle.kernel.specs.Parsed.{TheoryLists, Roomy}
use Rattle.state.specs.Records.{fact_rows, fact_feet}
use Rattle.facts.specs.declared.Fact.{Fact}
use Rattle.counts.specs.declared.Counts.{Counts}
use Rattle.counts.specs.Counted.{counts_of}
use Rattle.counts.specs.Sum.{sum}
use Rattle.running.specs.Lent.{Working, LongWorking, theory_front}
use Rattle.running.specs.Course.{Underway, Over}
use Rattle.running.specs.Between.{Few}
use Rattle.advancing.specs.declared.advance.Advance.{Advance}
use Rattle.advancing.specs.Stepped.{OneMore, left_in_proof}
use Rattle.stepping.specs.declared.used.Used.{Used}
use Rattle.stepping.specs.Parts.{front, Behind}

-- Given ----------------------------------------------------------------------------------------------------------------------------

-- a form may be left from place p on, behind k forms; the tables of the theory have their named lengths
pub record GoingIn (theory goals proof : List ℕ) (T : TheoryLists) (W : Working) (fs : List Fact) (u : Used) (p : ℕ) : Type 0 where
  pub working_long : LongWorking W
  pub records_long : FACTS ≤ length fs
  pub k : ℕ
  pub S : State
  pub underway : Underway theory goals proof T (front W fs) u.n u.mark p k S

-- the same where these may be longer too
pub record Going (theory goals proof : List ℕ) (T : TheoryLists) (W : Working) (fs : List Fact) (u : Used) (p : ℕ) : Type 0 where
  pub theory_long : Roomy T
  pub rest : GoingIn theory goals proof (theory_front T) W fs u p

-- Left ---------------------------------------------------------------------------------------------------------------------------------

-- a form is taken that began at p; S: the state before; T, Z, gs: the tables afterwards, u, v: what is used of them before and then
pub record Stepped (theory goals proof : List ℕ) (T : TheoryLists) (Z : Working) (gs : List Fact) (u v : Used) (k p : ℕ) (S : State) (a : Advance) : Type 0 where
  pub after : State
  pub underway : Underway theory goals proof T (front Z gs) v.n v.mark a.end (k + 1) after
  pub counted : after.counts ≡ plus S.counts (counts_of a.counts)
  pub small : Few a.counts 1
  pub few : (c : Counts) → Few c k → Few (sum c a.counts) (k + 1)
  pub stored : OneMore u.n.facts v.n.facts
  pub room : v.n.facts ≤ FACTS
  pub sooner : p < a.end

-- a form is taken, there is none, or a question is left
abbrev pub AdvancedAs : (theory goals proof : List ℕ) → TheoryLists → Working → List Fact → Used → Used → ℕ → ℕ → State → Result (Option Advance) Question →
    Type 0
AdvancedAs theory goals proof T Z gs u v k p S (Ok (some a)) = Stepped theory goals proof T Z gs u v k p S a
AdvancedAs theory goals proof T Z gs u v k p S (Ok nothing) = Over theory goals proof T (front Z gs) v.n v.mark (Ok k) S × (v.n ≡ u.n)
AdvancedAs theory goals proof T Z gs u v k p S (Err q) = Over theory goals proof T (front Z gs) v.n v.mark (Err (left_in_proof q k)) S × (v.n ≡ u.n)

-- W, fs before: the rows of facts that there were stay, and what lies behind the named parts
pub record Advanced (theory goals proof : List ℕ) (T : TheoryLists) (W Z : Working) (fs gs : List Fact) (u v : Used) (k p : ℕ) (S : State)
    (r : Result (Option Advance) Question) : Type 0 where
  pub working_long : LongWorking Z
  pub records_long : FACTS ≤ length gs
  pub behind : Behind W Z fs gs
  pub same_rows : take (6 * u.n.facts) (fact_rows (take FACTS gs)) ≡ take (6 * u.n.facts) (fact_rows (take FACTS fs))
  pub same_feet : take (4 * u.n.facts) (fact_feet (take FACTS gs)) ≡ take (4 * u.n.facts) (fact_feet (take FACTS fs))
  pub advanced : AdvancedAs theory goals proof T Z gs u v k p S r
