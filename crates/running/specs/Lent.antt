-- The tables as a caller lends them, of whatever length: their named parts, on which a check works, and what lies behind these and stays. And records of
-- facts that are rows of cells one by one, for the law of a call whose records stand beside its rows. Assumes nothing.
use Rattle.std.specs.Prelude.{◌≡◌, ℕ, ◌*◌, ◌≤◌, List, length, take, drop}
use Rattle.rules.specs.Limits.{SORTS, SYMBOLS, ARGUMENTS, RULES, RULEVARS, PATTERNS, VARIABLES, TERMS, WORDS, DEFS, GOALS, ENTRIES}
use Rattle.kernel.specs.Parsed.{TheoryLists, theory_lists}
use Rattle.state.specs.Stands.{Board, board}
use Rattle.state.specs.Records.{fact_rows, fact_feet}
use Rattle.facts.specs.declared.Fact.{Fact}

-- The tables -----------------------------------------------------------------------------------------------------------------------

-- those that a form changes
pub record Working : Type 0 where
  pub vars : List ℕ
  pub index : List ℕ
  pub words : List ℕ
  pub defs : List ℕ
  pub goals : List ℕ
  pub lists : List ℕ

abbrev pub working : (vars index words defs goals lists : List ℕ) → Working
working v i w d g l = record { vars = v; index = i; words = w; defs = d; goals = g; lists = l }

-- tables of these lengths are as long as named, or longer
pub record WorkingFits (a b c d e f : ℕ) : Type 0 where
  pub vars : 4 * VARIABLES ≤ a
  pub index : 4 * TERMS ≤ b
  pub words : WORDS ≤ c
  pub defs : 3 * DEFS ≤ d
  pub goals : 6 * GOALS ≤ e
  pub lists : ENTRIES ≤ f

abbrev pub LongWorking : Working → Type 0
LongWorking W = WorkingFits (length W.vars) (length W.index) (length W.words) (length W.defs) (length W.goals) (length W.lists)

-- The named parts ------------------------------------------------------------------------------------------------------------------

abbrev pub theory_front : TheoryLists → TheoryLists
theory_front T =
    theory_lists (take (2 * SORTS) T.sorts) (take (4 * SYMBOLS) T.symbols) (take (ARGUMENTS * SYMBOLS) T.inputs) (take (6 * RULES) T.rules)
    (take (3 * RULEVARS * RULES) T.rule_vars) (take PATTERNS T.patterns)

-- rows, feet: the facts and their footings as the forms read them, in tables of just their named lengths
abbrev pub board_front : Working → (rows feet : List ℕ) → Board
board_front W rows feet =
    board (take (4 * VARIABLES) W.vars) (take (4 * TERMS) W.index) (take WORDS W.words) (take (3 * DEFS) W.defs) (take (6 * GOALS) W.goals)
    rows feet (take ENTRIES W.lists)

-- Behind them ----------------------------------------------------------------------------------------------------------------------

-- T, W before, U, Z afterwards: nothing there has changed
pub record TheoryBehind (T U : TheoryLists) : Type 0 where
  pub sorts : drop (2 * SORTS) U.sorts ≡ drop (2 * SORTS) T.sorts
  pub symbols : drop (4 * SYMBOLS) U.symbols ≡ drop (4 * SYMBOLS) T.symbols
  pub inputs : drop (ARGUMENTS * SYMBOLS) U.inputs ≡ drop (ARGUMENTS * SYMBOLS) T.inputs
  pub rules : drop (6 * RULES) U.rules ≡ drop (6 * RULES) T.rules
  pub rule_vars : drop (3 * RULEVARS * RULES) U.rule_vars ≡ drop (3 * RULEVARS * RULES) T.rule_vars
  pub patterns : drop PATTERNS U.patterns ≡ drop PATTERNS T.patterns

pub record WorkingBehind (W Z : Working) : Type 0 where
  pub vars : drop (4 * VARIABLES) Z.vars ≡ drop (4 * VARIABLES) W.vars
  pub index : drop (4 * TERMS) Z.index ≡ drop (4 * TERMS) W.index
  pub words : drop WORDS Z.words ≡ drop WORDS W.words
  pub defs : drop (3 * DEFS) Z.defs ≡ drop (3 * DEFS) W.defs
  pub goals : drop (6 * GOALS) Z.goals ≡ drop (6 * GOALS) W.goals
  pub lists : drop ENTRIES Z.lists ≡ drop ENTRIES W.lists

-- The records of facts -------------------------------------------------------------------------------------------------------------

-- the first n records are the first n rows
pub record Mirrored (n : ℕ) (fs : List Fact) (rows feet : List ℕ) : Type 0 where
  pub same_rows : fact_rows (take n fs) ≡ take (6 * n) rows
  pub same_feet : fact_feet (take n fs) ≡ take (4 * n) feet
