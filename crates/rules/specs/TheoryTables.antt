-- The tables of a theory, cell by cell: what each holds, and zero behind. A name is the place of its first byte and the place behind its
-- last. Definitions first, then a worked example. Assumes nothing.
use Rattle.std.specs.Prelude.{ℕ, ◌+◌, ◌-◌, ◌*◌, ◌≡◌, refl, List, [], ◌∷◌, ◌++◌, length, replicate, take}
use Rattle.rules.specs.Limits.{SORTS, SYMBOLS, ARGUMENTS, RULES, RULEVARS, PATTERNS}
use Rattle.rules.specs.Text.{bytes}
use Rattle.rules.specs.Sexp.{Name, read}
use Rattle.rules.specs.Tree.{Tree, Trees, var, app, none, more, count_trees}
use Rattle.rules.specs.Theory.{Symbol, RuleVar, Rule, Theory, no_theory}
use Rattle.rules.specs.Declare.{declare, declaring}
use Rattle.rules.specs.Loop.{Judged, done, refused, whole, judging}

-- n cells: these, and zero behind
unfoldable pub filled : ℕ → List ℕ → List ℕ
filled n xs = take n xs ++ replicate (n - length xs) 0

-- the cells of one entry behind those of another
unfoldable pub rows : {A : Type 0} → (A → List ℕ) → List A → List ℕ
rows f [] = []
rows f (x ∷ xs) = f x ++ rows f xs

unfoldable pub name_cells : Name → List ℕ
name_cells n = n.start ∷ (n.start + length n.bytes) ∷ []

-- Sorts and symbols ------------------------------------------------------------------------------------------------------------

-- a sort: its name
abbrev pub sort_cells : List Name → List ℕ
sort_cells ns = rows name_cells ns

-- a symbol: its output, its number of arguments, its name
unfoldable pub symbol_row : Symbol → List ℕ
symbol_row s = s.output ∷ length s.inputs ∷ name_cells s.name

abbrev pub symbol_cells : List Symbol → List ℕ
symbol_cells ss = rows symbol_row ss

-- its argument sorts
unfoldable pub input_row : Symbol → List ℕ
input_row s = filled ARGUMENTS s.inputs

abbrev pub input_cells : List Symbol → List ℕ
input_cells ss = rows input_row ss

-- Rules ------------------------------------------------------------------------------------------------------------------------

-- a pattern in prefix notation: a symbol's number before its arguments, SYMBOLS + i for variable i
unfoldable mutual
  pub prefix : Tree → List ℕ
  prefix (var i) = (SYMBOLS + i) ∷ []
  prefix (app c ts) = c ∷ prefixes ts

  pub prefixes : Trees → List ℕ
  prefixes none = []
  prefixes (more t ts) = prefix t ++ prefixes ts

-- the premises in order, then the conclusion
unfoldable pub pattern_row : Rule → List ℕ
pattern_row r = prefixes r.premises ++ prefix r.conclusion

abbrev pub pattern_cells : List Rule → List ℕ
pattern_cells rs = rows pattern_row rs

-- a variable of a rule: its sort, its name
unfoldable pub var_row : RuleVar → List ℕ
var_row v = v.sort ∷ name_cells v.name

abbrev pub var_rows : List RuleVar → List ℕ
var_rows vs = rows var_row vs

unfoldable pub rule_var_row : Rule → List ℕ
rule_var_row r = filled (3 * RULEVARS) (var_rows r.vars)

abbrev pub rule_var_cells : List Rule → List ℕ
rule_var_cells rs = rows rule_var_row rs

-- a rule whose first word stands at a place: its name, its numbers of variables and premises, that place and the place behind its last
-- word
unfoldable pub rule_row : Rule → ℕ → List ℕ
rule_row r at = name_cells r.name ++ (length r.vars ∷ count_trees r.premises ∷ at ∷ (at + length (pattern_row r)) ∷ [])

unfoldable pub rule_cells : List Rule → ℕ → List ℕ
rule_cells [] at = []
rule_cells (r ∷ rs) at = rule_row r at ++ rule_cells rs (at + length (pattern_row r))

-- The tables -------------------------------------------------------------------------------------------------------------------

unfoldable pub sort_table : Theory → List ℕ
sort_table T = filled (2 * SORTS) (sort_cells T.sorts)

unfoldable pub symbol_table : Theory → List ℕ
symbol_table T = filled (4 * SYMBOLS) (symbol_cells T.symbols)

unfoldable pub input_table : Theory → List ℕ
input_table T = filled (ARGUMENTS * SYMBOLS) (input_cells T.symbols)

unfoldable pub rule_table : Theory → List ℕ
rule_table T = filled (6 * RULES) (rule_cells T.rules 0)

unfoldable pub rule_var_table : Theory → List ℕ
rule_var_table T = filled (3 * RULEVARS * RULES) (rule_var_cells T.rules)

unfoldable pub pattern_table : Theory → List ℕ
pattern_table T = filled PATTERNS (pattern_cells T.rules)

-- `unfolding tabling` opens all of the above, for a computation
unfoldable pub tabling : Unit {0}
unfolding declaring filled rows name_cells symbol_row input_row prefix pattern_row var_row rule_var_row rule_row rule_cells sort_table symbol_table input_table rule_table rule_var_table pattern_table
tabling = tt

-- Checks -----------------------------------------------------------------------------------------------------------------------

-- `theory`: what was declared before the end or the refusal
abbrev theory_of : Judged Theory → Theory
theory_of (done k T) = T
theory_of (refused n d k T) = T

abbrev small : Theory
small =
    theory_of (whole declare (read (bytes "(sort N)(ctor z () N)(ctor s (N) N)(pred le (N N))(rule b () (le z ?x))(rule t ((le ?x (s ?y))) (le ?y ?x))(sort N)"))
    no_theory)

small_sorts : take 4 (sort_table small) ≡ 6 ∷ 7 ∷ 0 ∷ 0 ∷ []
unfolding tabling judging
small_sorts = refl

small_symbols : take 13 (symbol_table small) ≡ 1 ∷ 0 ∷ 14 ∷ 15 ∷ 1 ∷ 1 ∷ 27 ∷ 28 ∷ 0 ∷ 2 ∷ 41 ∷ 43 ∷ 0 ∷ []
unfolding tabling judging
small_symbols = refl

small_inputs : take 35 (input_table small)
    ≡ 0 ∷ 0 ∷ 0 ∷ 0 ∷ 0 ∷ 0 ∷ 0 ∷ 0 ∷ 0 ∷ 0 ∷ 0 ∷ 0 ∷ 0 ∷ 0 ∷ 0 ∷ 0 ∷ 1 ∷ 0 ∷ 0 ∷ 0 ∷ 0 ∷ 0 ∷ 0 ∷ 0 ∷ 0 ∷ 0 ∷ 0 ∷ 0 ∷ 0 ∷ 0 ∷ 0 ∷ 0 ∷ 1 ∷ 1 ∷ 0 ∷ []
unfolding tabling judging
small_inputs = refl

small_rules : take 13 (rule_table small) ≡ 56 ∷ 57 ∷ 1 ∷ 0 ∷ 0 ∷ 3 ∷ 77 ∷ 78 ∷ 2 ∷ 1 ∷ 3 ∷ 10 ∷ 0 ∷ []
unfolding tabling judging
small_rules = refl

small_vars : take 55 (rule_var_table small) ≡ filled 48 (1 ∷ 67 ∷ 69 ∷ []) ++ (1 ∷ 84 ∷ 86 ∷ 1 ∷ 90 ∷ 92 ∷ 0 ∷ [])
unfolding tabling judging
small_vars = refl

small_patterns : take 11 (pattern_table small) ≡ 2 ∷ 0 ∷ 256 ∷ 2 ∷ 256 ∷ 1 ∷ 257 ∷ 2 ∷ 257 ∷ 256 ∷ 0 ∷ []
unfolding tabling judging
small_patterns = refl
