-- How the tables of a check stand for the definition's state: each holds the cells that StateTables gives, and zero behind; names stand in their
-- texts; a term is its place among the made trees M. Each is said row by row, so that a program can test it by one walk over the table.
-- Assumes nothing.
use Rattle.std.specs.Prelude.{◌≡◌, ℕ, ◌*◌, ◌<◌, ◌≤◌, true, false, List, ◌++◌, eqb, length}
use Rattle.rules.specs.Limits.{LENGTH, RULES, VARIABLES, DEFS, GOALS, FACTS, ENTRIES}
use Rattle.rules.specs.Store.{Made}
use Rattle.rules.specs.Theory.{Theory}
use Rattle.rules.specs.State.{State, Var, Def, Goal, goal_entries, entries}
use Rattle.rules.specs.TheoryTables.{filled, symbol_table}
use Rattle.rules.specs.StateTables.{var_cells, def_cells, goal_cells, fact_cells, footing_cells, goal_list, fact_list}
use Rattle.rules.specs.Laws.Theory.{All, WellFormed}
use Rattle.rules.specs.Laws.Sound.{In, sound}
use Rattle.rules.specs.Laws.Ready.{Ready}
use Rattle.rules.specs.Laws.Shape.{ShapedIn}
use Rattle.rules.proofs.Laws.StateRows.{Rows}
use Rattle.sexp.specs.NameRows.{NameIn}
use Rattle.kernel.specs.Held.{SymbolsHeld}
use Rattle.kernel.specs.HeldRules.{RulesHeld}
use Rattle.state.specs.declared.sizes.Sizes.{Sizes}

-- Variables ----------------------------------------------------------------------------------------------------------------------

-- the text in which a variable's name stands: the goals for 2, the text that is read for any other
unfoldable pub text_of : List ℕ → List ℕ → ℕ → List ℕ
text_of goals text k = elim (eqb k 2) [ true ↦ goals | false ↦ text ]

pub record VarCells (vars : List ℕ) (count : ℕ) (vs : List Var) : Type 0 where
  pub many : length vs ≡ count
  pub few : count ≤ VARIABLES
  pub cells : vars ≡ filled (4 * VARIABLES) (var_cells vs)

pub record VarsHeld (goals text vars : List ℕ) (count : ℕ) (vs : List Var) : Type 0 where
  pub stand : VarCells vars count vs
  pub names : All (λ v. NameIn (text_of goals text v.text) v.name) vs

-- Abbreviations ------------------------------------------------------------------------------------------------------------------

pub record DefsHeld (text defs : List ℕ) (count : ℕ) (M : Made) (ds : List Def) : Type 0 where
  pub many : length ds ≡ count
  pub few : count ≤ DEFS
  pub cells : defs ≡ filled (3 * DEFS) (def_cells M ds)
  pub names : All (λ d. NameIn text d.name) ds
  pub terms : All (λ d. In d.term M) ds

-- What names stand for ----------------------------------------------------------------------------------------------------------

-- the texts and tables from which terms are read
pub record Names : Type 0 where
  pub theory : List ℕ
  pub goals : List ℕ
  pub text : List ℕ
  pub symbols : List ℕ
  pub inputs : List ℕ
  pub vars : List ℕ
  pub defs : List ℕ

abbrev pub names : (theory goals text symbols inputs vars defs : List ℕ) → Names
names t g x s i v d = record { theory = t; goals = g; text = x; symbols = s; inputs = i; vars = v; defs = d }

-- they stand for the symbols, variables and abbreviations of S, whose trees are among M
pub record Spelling (K : Names) (n : Sizes) (M : Made) (S : State) : Type 0 where
  pub formed : WellFormed S.theory
  pub held : SymbolsHeld K.theory K.symbols K.inputs n.symbols S.theory.symbols
  pub symbols : K.symbols ≡ symbol_table S.theory
  pub vars : VarsHeld K.goals K.text K.vars n.vars S.vars
  pub defs : DefsHeld K.text K.defs n.defs M S.defs
  pub trees : Ready sound S M
  pub short : length K.text ≤ LENGTH

-- Goals ----------------------------------------------------------------------------------------------------------------------------

pub record GoalsHeld (goals rows : List ℕ) (count : ℕ) (M : Made) (gs : List Goal) : Type 0 where
  pub many : length gs ≡ count
  pub few : count ≤ GOALS
  pub cells : rows ≡ filled (6 * GOALS) (goal_cells M 0 gs)
  pub names : All (λ g. NameIn goals g.name) gs

-- Facts ----------------------------------------------------------------------------------------------------------------------------

-- the tables in which facts stand
pub record Records : Type 0 where
  pub facts : List ℕ
  pub footings : List ℕ
  pub lists : List ℕ

abbrev pub records : (facts footings lists : List ℕ) → Records
records f b l = record { facts = f; footings = b; lists = l }

-- the entries of all lists
abbrev pub listed : Made → State → List ℕ
listed M S = goal_list M S.goals ++ fact_list M S.facts

-- they stand for the facts of S, whose trees are among M
pub record Recorded (R : Records) (n : Sizes) (M : Made) (S : State) : Type 0 where
  pub many : n.facts ≡ length S.facts
  pub used : n.entries ≡ entries S
  pub facts : R.facts ≡ filled (6 * FACTS) (fact_cells M (goal_entries S.goals) S.facts)
  pub footings : R.footings ≡ filled (4 * FACTS) (footing_cells S.facts)
  pub lists : R.lists ≡ filled ENTRIES (listed M S)
  pub rows : Rows S
  pub trees : Ready sound S M
  pub shaped : ShapedIn S
  pub general : All (λ f. All (λ v. v < length S.vars) f.general) S.facts
  pub rules : length S.theory.rules ≤ RULES

-- Rules ----------------------------------------------------------------------------------------------------------------------------

-- the text and the tables in which rules stand
pub record RuleLists : Type 0 where
  pub theory : List ℕ
  pub rules : List ℕ
  pub vars : List ℕ
  pub patterns : List ℕ

abbrev pub rule_lists : (theory rules vars patterns : List ℕ) → RuleLists
rule_lists t r v p = record { theory = t; rules = r; vars = v; patterns = p }

-- they stand for the rules of T
pub record Ruled (P : RuleLists) (n : Sizes) (T : Theory) : Type 0 where
  pub words : ℕ
  pub held : RulesHeld P.theory P.rules P.vars P.patterns n.rules words T.rules
