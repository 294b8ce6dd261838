-- The tables of a check as they are lent: the tables of facts among them, which of them stay as they were, and what one fact more leaves. Assumes nothing.
use Rattle.std.specs.Prelude.{◌≡◌, List, ℕ, ◌+◌, ◌^◌, ◌<◌, get_or, Result, Ok, Err}
use Rattle.questions.specs.declared.Row.{Row}
use Rattle.state.specs.declared.board.Board.{Board}
use Rattle.state.specs.declared.goals.GoalTable.{GoalTable}
use Rattle.state.specs.declared.sizes.Sizes.{Sizes}
use Rattle.state.specs.Held.{Records, records}
use Rattle.state.specs.Records.{fact_rows, fact_feet}
use Rattle.state.specs.Recording.{DerivedPut, HypothesisPut}
use Rattle.state.specs.Used.{facts_now}

-- the tables of facts
abbrev pub records_of : Board → Records
records_of b = records (fact_rows b.facts.now) (fact_feet b.facts.now) b.lists.now

-- the goals, as they are lent to be read
abbrev pub goals_of : Board → GoalTable
goals_of b = record { rows = record { ref_ptr = b.rows.ref_ptr; now = b.rows.now }; count = b.n.goals }

-- Which tables stay ------------------------------------------------------------------------------------------------------------------

-- the references are those that were lent
abbrev pub SameBoard : Board → Board → Type 0
SameBoard b c =
    (c.vars.ghost_name ≡ b.vars.ghost_name) × (c.defs.ghost_name ≡ b.defs.ghost_name) × (c.rows.ghost_name ≡ b.rows.ghost_name)
    × (c.facts.ghost_name ≡ b.facts.ghost_name) × (c.lists.ghost_name ≡ b.lists.ghost_name)

-- no table but that of variables has changed; but that of abbreviations; but that of goals
abbrev pub OnlyVars : Board → Board → Type 0
OnlyVars b c =
    (c.defs.now ≡ b.defs.now) × (c.rows.now ≡ b.rows.now) × (c.facts.now ≡ b.facts.now) × (c.lists.now ≡ b.lists.now)

abbrev pub OnlyDefs : Board → Board → Type 0
OnlyDefs b c =
    (c.vars.now ≡ b.vars.now) × (c.rows.now ≡ b.rows.now) × (c.facts.now ≡ b.facts.now) × (c.lists.now ≡ b.lists.now)

abbrev pub OnlyRows : Board → Board → Type 0
OnlyRows b c =
    (c.vars.now ≡ b.vars.now) × (c.defs.now ≡ b.defs.now) × (c.facts.now ≡ b.facts.now) × (c.lists.now ≡ b.lists.now)

-- but those of goals and entries; of facts, their footings aside, and entries; of facts and entries; and of variables beside these
abbrev pub OnlyGoals : Board → Board → Type 0
OnlyGoals b c = (c.vars.now ≡ b.vars.now) × (c.defs.now ≡ b.defs.now) × (c.facts.now ≡ b.facts.now)

abbrev pub OnlyHyps : Board → Board → Type 0
OnlyHyps b c = (c.vars.now ≡ b.vars.now) × (c.defs.now ≡ b.defs.now) × (c.rows.now ≡ b.rows.now) × (fact_feet c.facts.now ≡ fact_feet b.facts.now)

abbrev pub OnlyFacts : Board → Board → Type 0
OnlyFacts b c = (c.vars.now ≡ b.vars.now) × (c.defs.now ≡ b.defs.now) × (c.rows.now ≡ b.rows.now)

abbrev pub OnlyFactsAndVars : Board → Board → Type 0
OnlyFactsAndVars b c = (c.defs.now ≡ b.defs.now) × (c.rows.now ≡ b.rows.now)

-- One fact more ----------------------------------------------------------------------------------------------------------------------

-- rows 12 and 13 of question 60
abbrev pub EnterAs : Board → Board → ℕ → List ℕ → List ℕ → Result (Unit {0}) Row → Type 0
EnterAs b c judgment hyps footing (Ok u) =
    DerivedPut (records_of b) (records_of c) b.n judgment hyps footing (Ok c.n.entries) × (c.n ≡ facts_now b.n (b.n.facts + 1) c.n.entries)
EnterAs b c judgment hyps footing (Err row) = DerivedPut (records_of b) (records_of c) b.n judgment hyps footing (Err row) × (c.n ≡ b.n)

-- words of 64 bits
abbrev pub Words : List ℕ → Type 0
Words set = (i : ℕ) → get_or set i 0 < 2 ^ 64

-- rows 12 and 13 of question 60, where its premises and generalised variables stand in the lists
abbrev pub HypPutBy : Records → Records → Sizes → Sizes → ℕ → ℕ → ℕ → Result (Unit {0}) Row → Type 0
HypPutBy R Q n k judgment premises general (Ok u) = HypothesisPut R Q n judgment premises general (Ok k.entries) × (k ≡ facts_now n (n.facts + 1) k.entries)
HypPutBy R Q n k judgment premises general (Err e) = HypothesisPut R Q n judgment premises general (Err e) × (k ≡ n)

abbrev pub HypPutAs : Board → Board → List ℕ → ℕ → ℕ → ℕ → Result (Unit {0}) Row → Type 0
HypPutAs b c footings judgment premises general r =
    HypPutBy (records (fact_rows b.facts.now) footings b.lists.now) (records (fact_rows c.facts.now) footings c.lists.now) b.n c.n judgment premises general r
