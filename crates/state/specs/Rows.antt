-- What the readers and writers of rows cite: cells of a row, spans of lists, a row more. Assumes nothing.
use Rattle.std.specs.Prelude.{◌≡◌, ℕ, ◌+◌, ◌*◌, ◌^◌, ◌<◌, ◌≤◌, Bool, true, false, not, ◌&&◌, List, eqb, ltb, length, get_or, Some as some, None as nothing, Option, Result, Ok, Err}
use Rattle.std.proofs.lemmas.List.Edits.{sets}
use Rattle.rules.specs.Limits.{VARIABLES, GOALS, FACTS, ENTRIES}
use Rattle.rules.specs.Tree.{var}
use Rattle.rules.specs.Store.{Made}
use Rattle.rules.specs.State.{Var, Def, Goal, abbreviated}
use Rattle.state.specs.Held.{VarsHeld, DefsHeld, GoalsHeld, Records}
use Rattle.state.specs.declared.goals.GoalTable.{GoalTable}
use Rattle.state.specs.declared.sizes.Sizes.{Sizes}
use Rattle.state.specs.declared.vars.VarTable.{VarTable}
use Rattle.cells.specs.declared.Span.{Span}
use Rattle.questions.specs.declared.Row.{Row}
use Rattle.questions.specs.declared.Text.{Text}
use Rattle.questions.specs.Numbers.{row_number, text_number}

-- cell j of row i, of w cells a row
abbrev pub cell : ℕ → List ℕ → ℕ → ℕ → ℕ
cell w table i j = get_or table (w * i + j) 0

-- four numbers that fit into the cells of a row
pub record Fits4 (a b c d : ℕ) : Type 0 where
  pub first : a < 2 ^ 32
  pub second : b < 2 ^ 32
  pub third : c < 2 ^ 32
  pub fourth : d < 2 ^ 32

-- Variables ----------------------------------------------------------------------------------------------------------------------

abbrev pub SomeVars : List ℕ → List ℕ → List ℕ → ℕ → Type 0
SomeVars goals text vars count = (vs : List Var) × VarsHeld goals text vars count vs

-- the same of the table as it is lent with its texts
abbrev pub VarsIn : VarTable → List Var → Type 0
VarsIn t vs = VarsHeld t.goals.now t.text.now t.rows.now t.count vs

abbrev pub SomeVarsIn : VarTable → Type 0
SomeVarsIn t = SomeVars t.goals.now t.text.now t.rows.now t.count

-- a whole table of them, and the number of a row
abbrev pub VarAt : List ℕ → ℕ → Type 0
VarAt vars v = (length vars ≡ 4 * VARIABLES) × (v < VARIABLES)

-- the cell for the text of a name, 0 for that of a made variable
abbrev pub text_cell : Option Text → ℕ
text_cell (some t) = text_number t
text_cell nothing = 0

-- Abbreviations ------------------------------------------------------------------------------------------------------------------

abbrev pub SomeDefs : List ℕ → List ℕ → ℕ → Type 0
SomeDefs text defs count = (M : Made) × (ds : List Def) × DefsHeld text defs count M ds

-- the term that a name abbreviates, by its number
abbrev pub DefFound : Made → List Def → List ℕ → Option ℕ → Type 0
DefFound M ds name (some t) = (abbreviated ds name ≡ some (get_or M t (var 0))) × (t < length M)
DefFound M ds name nothing = abbreviated ds name ≡ nothing

-- Goals ----------------------------------------------------------------------------------------------------------------------------

abbrev pub SomeGoals : List ℕ → List ℕ → ℕ → Type 0
SomeGoals text goals count = (M : Made) × (gs : List Goal) × GoalsHeld text goals count M gs

-- the same of the table as it is lent
abbrev pub GoalsIn : List ℕ → GoalTable → Made → List Goal → Type 0
GoalsIn text t M gs = GoalsHeld text t.rows.now t.count M gs

abbrev pub SomeGoalsIn : List ℕ → GoalTable → Type 0
SomeGoalsIn text t = SomeGoals text t.rows.now t.count

abbrev pub GoalAt : List ℕ → ℕ → Type 0
GoalAt goals k = (length goals ≡ 6 * GOALS) × (k < GOALS)

abbrev pub list_span : List ℕ → ℕ → Span
list_span goals k = record { from = cell 6 goals k 3; end = cell 6 goals k 3 + cell 6 goals k 4 }

-- Facts ----------------------------------------------------------------------------------------------------------------------------

abbrev pub FactAt : List ℕ → ℕ → Type 0
FactAt facts i = (length facts ≡ 6 * FACTS) × (i < FACTS)

abbrev pub FootingAt : List ℕ → ℕ → Type 0
FootingAt footings i = (length footings ≡ 4 * FACTS) × (i < FACTS)

abbrev pub hyps_span : List ℕ → ℕ → Span
hyps_span facts i = record { from = cell 6 facts i 2; end = cell 6 facts i 2 + cell 6 facts i 3 }

abbrev pub premises_span : List ℕ → ℕ → Span
premises_span facts i = record { from = (hyps_span facts i).end; end = (hyps_span facts i).end + cell 6 facts i 4 }

abbrev pub general_span : List ℕ → ℕ → Span
general_span facts i = record { from = (premises_span facts i).end; end = (premises_span facts i).end + cell 6 facts i 5 }

-- whether it is a hypothesis without premises and generalised variables
abbrev pub plain_row : List ℕ → ℕ → Bool
plain_row facts i = not (eqb (cell 6 facts i 1) 0) && (eqb (cell 6 facts i 4) 0 && eqb (cell 6 facts i 5) 0)

-- the tables of facts, with what is used of them, into which one more can be put
pub record Putting (R : Records) (n : Sizes) (judgment : ℕ) : Type 0 where
  pub facts : length R.facts ≡ 6 * FACTS
  pub footings : length R.footings ≡ 4 * FACTS
  pub lists : length R.lists ≡ ENTRIES
  pub entries : n.entries ≤ ENTRIES
  pub fits : judgment < 2 ^ 32

-- the row, the entries and the footing of one fact more
pub record RowPut (R Q : Records) (n : Sizes) (row hyps footing : List ℕ) : Type 0 where
  pub facts : Q.facts ≡ sets R.facts (6 * n.facts) row
  pub lists : Q.lists ≡ sets R.lists n.entries hyps
  pub footings : Q.footings ≡ sets R.footings (4 * n.facts) footing
  pub room : n.facts < FACTS

-- rows 12 and 13 of question 60: one fact more, with k entries
abbrev pub RoomAs : Sizes → ℕ → Result ℕ Row → Type 0
RoomAs n k (Ok e) = (n.facts < FACTS) × (e ≡ n.entries + k) × (e ≤ ENTRIES)
RoomAs n k (Err r) = (row_number r ≡ elim (ltb n.facts FACTS) [ true ↦ 13 | false ↦ 12 ]) × (n.facts < FACTS → ENTRIES < n.entries + k)

-- and of the k entries the first are given
abbrev pub PutAs : Records → Records → Sizes → List ℕ → List ℕ → List ℕ → ℕ → Result ℕ Row → Type 0
PutAs R Q n row hyps footing k (Ok e) = RowPut R Q n row hyps footing × (e ≡ n.entries + k) × (e ≤ ENTRIES)
PutAs R Q n row hyps footing k (Err r) = (Q ≡ R) × (row_number r ≡ elim (ltb n.facts FACTS) [ true ↦ 13 | false ↦ 12 ]) × (n.facts < FACTS → ENTRIES < n.entries + k)
