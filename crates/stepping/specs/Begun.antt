-- What the beginning leaves in tables that may be longer than named. Assumes nothing.
use Rattle.std.specs.Prelude.{◌≡◌, List, ◌++◌, ℕ, ◌≤◌, length, drop, replicate, Result, Err}
use Rattle.rules.specs.Limits.{GOALS, FACTS}
use Rattle.kernel.specs.Parsed.{TheoryLists}
use Rattle.facts.specs.declared.Fact.{Fact}
use Rattle.running.specs.declared.refusal.Refusal.{Refusal}
use Rattle.running.specs.declared.refusal.Refusal.TheVariants as refusal
use Rattle.running.specs.declared.stopped.Stopped.{Stopped}
use Rattle.running.specs.Lent.{Working, LongWorking, theory_front, TheoryBehind}
use Rattle.running.specs.Between.{AllLong}
use Rattle.beginning.specs.Opened.{Opened}
use Rattle.stepping.specs.declared.used.Used.{Used}
use Rattle.stepping.specs.Parts.{front, Long, Behind, refused_by}

-- where the tables of the theory have their named lengths: W, fs before, Z, gs afterwards
pub record OpenedIn (theory goals proof : List ℕ) (T : TheoryLists) (W Z : Working) (fs gs : List Fact) (u : Used) (r : Result (Unit {0}) Stopped) : Type 0 where
  pub opened : Opened theory goals proof T (front Z gs) u.n u.mark r
  pub working_long : LongWorking Z
  pub records_long : FACTS ≤ length gs
  pub behind : Behind W Z fs gs

-- T before, U afterwards
pub record Started (theory goals proof : List ℕ) (T U : TheoryLists) (W Z : Working) (fs gs : List Fact) (u : Used) (r : Result (Unit {0}) Stopped) : Type 0 where
  pub opened : Opened theory goals proof (theory_front U) (front Z gs) u.n u.mark r
  pub long : Long U Z gs
  pub theory_behind : TheoryBehind T U
  pub behind : Behind W Z fs gs

-- M, u before, N, v afterwards: a table is too short, and nothing is written; or the check has begun, or a question of its beginning is left
pub data Begun (theory goals proof : List ℕ) (T U : TheoryLists) (W Z : Working) (M N : List ℕ) (fs gs : List Fact) (u v : Used)
    (r : Result (Unit {0}) Refusal) : Type 0 where
  unfit : ¬ (AllLong (length fs) T W M) → U ≡ T → Z ≡ W → N ≡ M → gs ≡ fs → v ≡ u → r ≡ Err refusal.Tables →
      Begun theory goals proof T U W Z M N fs gs u v r
  begun : AllLong (length fs) T W M → (e : Result (Unit {0}) Stopped) → r ≡ refused_by e → Started theory goals proof T U W Z fs gs v e →
      N ≡ replicate GOALS 0 ++ drop GOALS M → Begun theory goals proof T U W Z M N fs gs u v r
