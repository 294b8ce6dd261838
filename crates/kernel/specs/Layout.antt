-- The tables of a theory among the tables of a check (rules/specs/StateTables), for callers of `parse` and `parse_exact`. Assumes nothing.
use Rattle.std.specs.Prelude.{◌≡◌, refl, ℕ, ◌*◌, List, ◌++◌, length, drop, Result, Ok, Err}
use Rattle.std.proofs.Common.{sym, ap, ◌∙◌, subst}
use Rattle.rules.specs.Limits.{SORTS, SYMBOLS, ARGUMENTS, RULES, RULEVARS, PATTERNS}
use Rattle.rules.specs.Theory.{Theory}
use Rattle.rules.specs.Loop.{Judged, done, refused}
use Rattle.rules.specs.TheoryTables.{rows, name_cells, symbol_row, input_row, rule_var_row, pattern_row, rule_cells, sort_table, symbol_table, input_table, rule_table, rule_var_table, pattern_table}
use Rattle.rules.specs.StateTables.{Tables, Long, laid}
use Rattle.rules.specs.Laws.Row.{length_filled}
use Rattle.rules.specs.Laws.Theory.{WellFormed}
use Rattle.rules.specs.Laws.Declare.{reached, theory_formed}
use Rattle.kernel.specs.Parsed.{TheoryLists, theory_lists, TheoryHeld, Roomy, Exact, counts_of, JudgedAs, theory_of, verdict, theory_tables, laid_theory, LaidHeld}
use Rattle.kernel.specs.declared.tables.Counts.{Counts}
use Rattle.questions.specs.declared.Refused.{Refused}
use Rattle.questions.specs.Numbers.{number_of, detail_of}

abbrev pub theory_part : Tables → TheoryLists
theory_part B = theory_lists B.sorts B.symbols B.inputs B.rules B.rule_vars B.patterns

-- question 1 asks for what `parse` requires
pub long_roomy : {B : Tables} → Long B → Roomy (theory_part B)
long_roomy h =
    record { sorts = h.sorts; symbols = h.symbols; inputs = h.inputs; rules = h.rules; rule_vars = h.rule_vars; patterns = h.patterns }

-- cells of a named length in front of what lies behind
pub laid_front : (n : ℕ) (cells before : List ℕ) → length cells ≡ n → cells ++ drop n before ≡ laid cells before
unfolding laid
laid_front n cells before e = ap (λ (k : ℕ). cells ++ drop k before) (sym e)

pub tables_exact : (T : Theory) → Exact (theory_tables T)
unfolding sort_table symbol_table input_table rule_table rule_var_table pattern_table
tables_exact T =
    record {
      sorts = length_filled (2 * SORTS) (rows name_cells T.sorts);
      symbols = length_filled (4 * SYMBOLS) (rows symbol_row T.symbols);
      inputs = length_filled (ARGUMENTS * SYMBOLS) (rows input_row T.symbols);
      rules = length_filled (6 * RULES) (rule_cells T.rules 0);
      rule_vars = length_filled (3 * RULEVARS * RULES) (rows rule_var_row T.rules);
      patterns = length_filled PATTERNS (rows pattern_row T.rules);
    }

-- tables of the named lengths, with what lies behind in longer ones
pub laid_longer : (t : TheoryLists) (T : Theory) (s y i r v p : List ℕ) → theory_lists s y i r v p ≡ theory_tables T →
    theory_lists (s ++ drop (2 * SORTS) t.sorts) (y ++ drop (4 * SYMBOLS) t.symbols) (i ++ drop (ARGUMENTS * SYMBOLS) t.inputs)
    (r ++ drop (6 * RULES) t.rules) (v ++ drop (3 * RULEVARS * RULES) t.rule_vars) (p ++ drop PATTERNS t.patterns)
    ≡ laid_theory t T
laid_longer t T s y i r v p e =
    let x = tables_exact T in
    ap (λ (u : TheoryLists). theory_lists (u.sorts ++ drop (2 * SORTS) t.sorts) (u.symbols ++ drop (4 * SYMBOLS) t.symbols) (u.inputs ++ drop (ARGUMENTS * SYMBOLS) t.inputs)
    (u.rules ++ drop (6 * RULES) t.rules) (u.rule_vars ++ drop (3 * RULEVARS * RULES) t.rule_vars) (u.patterns ++ drop PATTERNS t.patterns)) e
    ∙ (λ j. theory_lists
    (laid_front (2 * SORTS) (sort_table T) t.sorts x.sorts j)
    (laid_front (4 * SYMBOLS) (symbol_table T) t.symbols x.symbols j)
    (laid_front (ARGUMENTS * SYMBOLS) (input_table T) t.inputs x.inputs j)
    (laid_front (6 * RULES) (rule_table T) t.rules x.rules j)
    (laid_front (3 * RULEVARS * RULES) (rule_var_table T) t.rule_vars x.rule_vars j)
    (laid_front PATTERNS (pattern_table T) t.patterns x.patterns j))

-- what was declared is well formed
reached_is : (J : Judged Theory) → reached J ≡ theory_of J
unfolding reached
reached_is (done k T) = refl
reached_is (refused n d k T) = refl

pub verdict_formed : (text : List ℕ) → WellFormed (theory_of (verdict text))
unfolding verdict
verdict_formed text = subst WellFormed (reached_is (verdict text)) (theory_formed text)

-- The answers of `parse_exact` -----------------------------------------------------------------------------------------------------

module _ (r : Result ℕ Refused) (J : Judged Theory) (a : JudgedAs J r) where
  pub judged_done : {k : ℕ} → r ≡ Ok k → J ≡ done k (theory_of J)
  judged_done b = subst (JudgedAs J) b a

  pub judged_refused : {e : Refused} → r ≡ Err e → J ≡ refused (number_of e.question) (detail_of e.question) e.form (theory_of J)
  judged_refused b = subst (JudgedAs J) b a

-- the tables hold what was declared
pub parsed_held : (text : List ℕ) (t : TheoryLists) (n : Counts) (T : Theory) → t ≡ theory_tables T → LaidHeld text T → n ≡ counts_of T →
    TheoryHeld text t n T
parsed_held text t n T e h c = subst (λ m. TheoryHeld text t m T) (sym c) (subst (λ u. TheoryHeld text u (counts_of T) T) (sym e) h)
