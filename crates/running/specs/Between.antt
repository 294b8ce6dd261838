-- What stands between two forms of the proof beside the tables: the counts, and whether a form has stored a fact. Assumes nothing.
use Rattle.std.specs.Prelude.{◌≡◌, List, ℕ, ◌+◌, ◌*◌, ◌≤◌, take, drop, length, Option, Some as some, None as nothing}
use Rattle.rules.specs.Limits.{LENGTH, GOALS, FACTS}
use Rattle.kernel.specs.Parsed.{TheoryLists, TheoryFits}
use Rattle.facts.specs.declared.Fact.{Fact}
use Rattle.counts.specs.declared.Counts.{Counts}
use Rattle.state.specs.Records.{fact_row, fact_foot}
use Rattle.running.specs.Lent.{Working, WorkingFits}

-- no count passes the number of forms; a form has fewer instances than a text bytes
pub record Few (c : Counts) (forms : ℕ) : Type 0 where
  pub hypotheses : c.hypotheses ≤ forms
  pub inductions : c.inductions ≤ forms
  pub inversions : c.inversions ≤ forms
  pub instances : c.instances ≤ LENGTH * forms

-- question 1, by the lengths: of the tables of the theory, of those that a form changes, of the list of 53; and the number of records of facts
pub record Fits (a b c d e f g h i j k l m n : ℕ) : Type 0 where
  pub theory : TheoryFits a b c d e f
  pub working : WorkingFits g h i j k l
  pub missing : GOALS ≤ m
  pub facts : FACTS ≤ n

-- T, W, M the tables, room the number of records
abbrev pub AllLong : ℕ → TheoryLists → Working → List ℕ → Type 0
AllLong room T W M =
    Fits (length T.sorts) (length T.symbols) (length T.inputs) (length T.rules) (length T.rule_vars) (length T.patterns) (length W.vars)
    (length W.index) (length W.words) (length W.defs) (length W.goals) (length W.lists) (length M) room

-- whether a fact was stored in row n, and that it is the record f then
abbrev pub StoredAs : Option Fact → ℕ → ℕ → (rows feet : List ℕ) → Type 0
StoredAs (some f) n k rows feet = (k ≡ n + 1) × ((fact_row f ≡ take 6 (drop (6 * n) rows)) × (fact_foot f ≡ take 4 (drop (4 * n) feet)))
StoredAs nothing n k rows feet = k ≡ n
