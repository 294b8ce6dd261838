-- A reader of the tables that a check leaves, in their named parts: terms as trees, goals, facts. It knows nothing of the state that they stand for.
-- Definitions only. Assumes nothing.
use Rattle.std.specs.Prelude.{ℕ, zero, suc, ◌*◌, not, List, [], ◌∷◌, ◌++◌, eqb, get_or, take, drop}
use Rattle.rules.specs.Limits.{RULES, TERMS, WORDS, GOALS, FACTS, ENTRIES}
use Rattle.rules.specs.Find.{rising}
use Rattle.rules.specs.Tree.{Tree, Trees, var}
use Rattle.rules.specs.Store.{Made}
use Rattle.rules.specs.Sexp.{Name}
use Rattle.rules.specs.State.{Fact, Goal}
use Rattle.rules.specs.StateTables.{Tables}
use Rattle.terms.specs.Table.{args_of, trees}
use Rattle.terms.specs.Sets.{holds}
use Rattle.state.specs.Rows.{cell, list_span, hyps_span, premises_span, general_span}
use Rattle.state.specs.Entries.{part}

-- The named parts ------------------------------------------------------------------------------------------------------------------

abbrev pub goal_rows : Tables → List ℕ
goal_rows T = take (6 * GOALS) T.goals

abbrev pub fact_rows : Tables → List ℕ
fact_rows T = take (6 * FACTS) T.facts

abbrev pub entries_in : Tables → List ℕ
entries_in T = take ENTRIES T.lists

-- Terms ----------------------------------------------------------------------------------------------------------------------------

-- all of them, in the order made: a node's words say its head and the numbers of its arguments
abbrev pub terms_in : Tables → Made
terms_in T = trees (take (4 * TERMS) T.index) (take WORDS T.words) TERMS

abbrev pub term_in : Tables → ℕ → Tree
term_in T i = get_or (terms_in T) i (var 0)

abbrev pub list_in : Tables → List ℕ → Trees
list_in T is = args_of (terms_in T) is

-- Goals ----------------------------------------------------------------------------------------------------------------------------

-- all of a goal but its name, which stands in a text
abbrev pub goal_in : Tables → Name → ℕ → Goal
goal_in T n k = record {
  name = n;
  judgment = term_in T (cell 6 (goal_rows T) k 2);
  hyps = list_in T (part (entries_in T) (list_span (goal_rows T) k));
  taken = not (eqb (cell 6 (goal_rows T) k 5) 0);
}

-- Facts ----------------------------------------------------------------------------------------------------------------------------

abbrev pub fact_in : Tables → ℕ → Fact
fact_in T i = record {
  judgment = term_in T (cell 6 (fact_rows T) i 0);
  hyps = part (entries_in T) (hyps_span (fact_rows T) i);
  assumed = not (eqb (cell 6 (fact_rows T) i 1) 0);
  premises = list_in T (part (entries_in T) (premises_span (fact_rows T) i));
  general = part (entries_in T) (general_span (fact_rows T) i);
  footing = rising RULES (holds (take 4 (drop (4 * i) (take (4 * FACTS) T.footings))));
}

-- the first n, in order
unfoldable pub facts_in : Tables → ℕ → List Fact
facts_in T zero = []
facts_in T (suc n) = facts_in T n ++ (fact_in T n ∷ [])
