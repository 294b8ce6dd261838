-- The tables of a check, cell by cell: what each holds after an answer, zero behind that up to its named length, and past that length what
-- was there before. TheoryTables has the theory's. A term is its place among the made trees, a fact, a variable, a goal its place in its
-- list. Question 1 is put here, last, in `Checked`. Examples has the cells after a check (`tables-A`). Assumes nothing.
use Rattle.std.specs.Prelude.{ℕ, ◌+◌, ◌*◌, ◌/◌, ◌%◌, ◌^◌, ◌≤◌, ◌≡◌, Bool, true, false, List, [], ◌∷◌, ◌++◌, eqb, length, drop, replicate}
use Rattle.rules.specs.Limits.{SORTS, SYMBOLS, ARGUMENTS, RULES, RULEVARS, PATTERNS, VARIABLES, TERMS, WORDS, DEFS, GOALS, FACTS, ENTRIES}
use Rattle.rules.specs.Find.{has}
use Rattle.rules.specs.Tree.{Tree, Trees, var, app, none, more, count_trees, node}
use Rattle.rules.specs.Store.{Made, number}
use Rattle.rules.specs.State.{State, Var, Def, Goal, Fact, goal_entries, fact_entries}
use Rattle.rules.specs.Check.{Answer, accepts, refuses, Outcome, check, checking, missing}
use Rattle.rules.specs.TheoryTables.{filled, name_cells, sort_table, symbol_table, input_table, rule_table, rule_var_table, pattern_table, tabling}

-- Variables and abbreviations ----------------------------------------------------------------------------------------------------

-- a variable: its sort, its text, its name
unfoldable pub var_cells : List Var → List ℕ
var_cells [] = []
var_cells (v ∷ vs) = (v.sort ∷ v.text ∷ name_cells v.name) ++ var_cells vs

-- an abbreviation: its name, its term
unfoldable pub def_cells : Made → List Def → List ℕ
def_cells m [] = []
def_cells m (d ∷ ds) = (name_cells d.name ++ (number m d.term ∷ [])) ++ def_cells m ds

-- Terms --------------------------------------------------------------------------------------------------------------------------

unfoldable pub numbers : Made → Trees → List ℕ
numbers m none = []
numbers m (more t ts) = number m t ∷ numbers m ts

-- a term's words: SYMBOLS + v for variable v, else a symbol's number and the arguments' numbers
unfoldable pub node_cells : Made → Tree → List ℕ
node_cells m (var v) = (SYMBOLS + v) ∷ []
node_cells m (app c ts) = c ∷ numbers m ts

unfoldable pub word_cells : Made → Made → List ℕ
word_cells m [] = []
word_cells m (t ∷ ts) = node_cells m t ++ word_cells m ts

-- where each term's words end, the first beginning at k
unfoldable pub end_cells : ℕ → Made → List ℕ
end_cells k [] = []
end_cells k (t ∷ ts) = (k + node t) ∷ end_cells (k + node t) ts

-- Goals and facts ------------------------------------------------------------------------------------------------------------------

unfoldable pub bit : Bool → ℕ
bit true = 1
bit false = 0

-- the entries of a goal: its listed hypotheses; of a fact: hypotheses, premises, generalised variables
unfoldable pub goal_list : Made → List Goal → List ℕ
goal_list m [] = []
goal_list m (g ∷ gs) = numbers m g.hyps ++ goal_list m gs

unfoldable pub fact_list : Made → List Fact → List ℕ
fact_list m [] = []
fact_list m (f ∷ fs) = (f.hyps ++ numbers m f.premises ++ f.general) ++ fact_list m fs

-- a goal whose entries begin at a place: its name, its judgment, that place, their number, whether its result has come
unfoldable pub goal_cells : Made → ℕ → List Goal → List ℕ
goal_cells m at [] = []
goal_cells m at (g ∷ gs) =
    (name_cells g.name ++ (number m g.judgment ∷ at ∷ count_trees g.hyps ∷ bit g.taken ∷ [])) ++ goal_cells m (at + count_trees g.hyps) gs

-- a fact whose entries begin at a place: its judgment, whether it is assumed, that place, the numbers of its hypotheses, premises and
-- generalised variables
unfoldable pub fact_cells : Made → ℕ → List Fact → List ℕ
fact_cells m at [] = []
fact_cells m at (f ∷ fs) =
    (number m f.judgment ∷ bit f.assumed ∷ at ∷ length f.hyps ∷ count_trees f.premises ∷ length f.general ∷ [])
    ++ fact_cells m (at + fact_entries f) fs

-- word k of a set of numbers without repetition: bit v % 64 of word v / 64
unfoldable pub bit_word : List ℕ → ℕ → ℕ
bit_word [] k = 0
bit_word (v ∷ vs) k = elim (eqb (v / 64) k) [ true ↦ 2 ^ (v % 64) + bit_word vs k | false ↦ bit_word vs k ]

unfoldable pub footing_cells : List Fact → List ℕ
footing_cells [] = []
footing_cells (f ∷ fs) = (bit_word f.footing 0 ∷ bit_word f.footing 1 ∷ bit_word f.footing 2 ∷ bit_word f.footing 3 ∷ []) ++ footing_cells fs

-- The tables -----------------------------------------------------------------------------------------------------------------------

pub record Tables : Type 0 where
  pub sorts : List ℕ
  pub symbols : List ℕ
  pub inputs : List ℕ
  pub rules : List ℕ
  pub rule_vars : List ℕ
  pub patterns : List ℕ
  pub vars : List ℕ
  pub index : List ℕ
  pub words : List ℕ
  pub defs : List ℕ
  pub goals : List ℕ
  pub facts : List ℕ
  pub footings : List ℕ
  pub lists : List ℕ
  pub missing : List ℕ

-- each is as long as its limit, or longer: question 1
pub record Long (T : Tables) : Type 0 where
  pub sorts : 2 * SORTS ≤ length T.sorts
  pub symbols : 4 * SYMBOLS ≤ length T.symbols
  pub inputs : ARGUMENTS * SYMBOLS ≤ length T.inputs
  pub rules : 6 * RULES ≤ length T.rules
  pub rule_vars : 3 * RULEVARS * RULES ≤ length T.rule_vars
  pub patterns : PATTERNS ≤ length T.patterns
  pub vars : 4 * VARIABLES ≤ length T.vars
  pub index : 4 * TERMS ≤ length T.index
  pub words : WORDS ≤ length T.words
  pub defs : 3 * DEFS ≤ length T.defs
  pub goals : 6 * GOALS ≤ length T.goals
  pub facts : 6 * FACTS ≤ length T.facts
  pub footings : 4 * FACTS ≤ length T.footings
  pub lists : ENTRIES ≤ length T.lists
  pub missing : GOALS ≤ length T.missing

-- the named part anew, and behind it what was there
unfoldable pub laid : List ℕ → List ℕ → List ℕ
laid cells before = cells ++ drop (length cells) before

-- a table of scratch, of which n cells are named
unfoldable pub cleared : ℕ → List ℕ → List ℕ
cleared n before = laid (replicate n 0) before

-- one list names each member of the other once: as many, and the same. The order is free
pub record EachOnce (xs ys : List ℕ) : Type 0 where
  pub many : length xs ≡ length ys
  pub same : (v : ℕ) → has xs v ≡ has ys v

-- 53's list: the goals without a result after that refusal, and zero behind; zero wholly after any other answer
unfoldable pub missing_of : Answer → State → List ℕ
missing_of (accepts r) S = []
missing_of (refuses r) S = elim (eqb r.number 53) [ true ↦ missing S | false ↦ [] ]

pub record Missing (O : Outcome) (before after : List ℕ) : Type 0 where
  pub named : List ℕ
  pub once : EachOnce named (missing_of O.answer O.state)
  pub cells : after ≡ laid (filled GOALS named) before

-- what stands after an answer other than 1; after 1 every table is as it was
pub record Laid (O : Outcome) (before after : Tables) : Type 0 where
  pub sorts : after.sorts ≡ laid (sort_table O.state.theory) before.sorts
  pub symbols : after.symbols ≡ laid (symbol_table O.state.theory) before.symbols
  pub inputs : after.inputs ≡ laid (input_table O.state.theory) before.inputs
  pub rules : after.rules ≡ laid (rule_table O.state.theory) before.rules
  pub rule_vars : after.rule_vars ≡ laid (rule_var_table O.state.theory) before.rule_vars
  pub patterns : after.patterns ≡ laid (pattern_table O.state.theory) before.patterns
  pub vars : after.vars ≡ laid (filled (4 * VARIABLES) (var_cells O.state.vars)) before.vars
  -- where each term's words end; behind the last limit of row 8 lies scratch, zero by now
  pub index : after.index ≡ laid (filled (4 * TERMS) (end_cells 0 O.state.made)) before.index
  pub words : after.words ≡ laid (filled WORDS (word_cells O.state.made O.state.made)) before.words
  pub defs : after.defs ≡ laid (filled (3 * DEFS) (def_cells O.state.made O.state.defs)) before.defs
  pub goals : after.goals ≡ laid (filled (6 * GOALS) (goal_cells O.state.made 0 O.state.goals)) before.goals
  pub facts :
      after.facts ≡ laid (filled (6 * FACTS) (fact_cells O.state.made (goal_entries O.state.goals) O.state.facts)) before.facts
  pub footings : after.footings ≡ laid (filled (4 * FACTS) (footing_cells O.state.facts)) before.footings
  pub lists :
      after.lists
      ≡ laid (filled ENTRIES (goal_list O.state.made O.state.goals ++ fact_list O.state.made O.state.facts)) before.lists
  pub missing : Missing O before.missing after.missing

-- the whole of a check on lent tables: question 1 first, and nothing is written where it refuses
pub data Checked (t g f : List ℕ) (before after : Tables) : Answer → Type 0 where
  too_short : ¬ (Long before) → after ≡ before → Checked t g f before after (refuses (record { number = 1; text = 0; form = 0; detail = 0 }))
  answered : Long before → Laid (check t g f) before after → Checked t g f before after (check t g f).answer

-- `unfolding laying` opens all of the above, for a computation
unfoldable pub laying : Unit {0}
unfolding tabling checking var_cells def_cells numbers node_cells word_cells end_cells bit goal_list fact_list goal_cells fact_cells bit_word footing_cells laid cleared missing_of
laying = tt
