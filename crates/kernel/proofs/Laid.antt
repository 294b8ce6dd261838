-- The tables of a theory when the cells behind what is used are zero. Assumes nothing.
use mathlib.Core.Path.{◌≡◌, refl, sym, ap, ◌∙◌}
use Prim.Native.Nat.{ℕ, ◌-◌, ◌*◌, ◌≤◌}
use mathlib.Core.List.{List, ◌++◌}
use native.Mathlib.Omega.{arith}
use lib.ListN.{length, take, replicate, length-append}
use lib.Seq.{take_at}
use Rattle.rules.specs.Limits.{SORTS, SYMBOLS, ARGUMENTS, RULES, RULEVARS, PATTERNS}
use Rattle.rules.specs.Sexp.{Name}
use Rattle.rules.specs.Theory.{Theory, Symbol, Rule}
use Rattle.rules.specs.TheoryTables.{filled, rows, name_cells, symbol_row, input_row, pattern_row, rule_var_row, rule_cells, sort_table, symbol_table, input_table, rule_table, rule_var_table, pattern_table}
use Rattle.rules.specs.Laws.Row.{length_rows, length_filled, filled_fits}
use Rattle.rules.specs.Laws.Prefix.{words_counted}
use Rattle.kernel.specs.Held.{Front}
use Rattle.kernel.specs.Parsed.{TheoryLists, theory_lists, TheoryHeld, CountsFit, zero_from, wiped, counts_of, theory_tables}
use Rattle.kernel.specs.declared.tables.Counts.{Counts}
use Rattle.kernel.specs.RuleRows.{length_rule_cells, rule_var_row_long}

-- one table: the cells that are used, and how many
module _ {table xs : List ℕ} (f : Front table xs) {k : ℕ} (e : length xs ≡ k) where
  pub front_inside : k ≤ length table
  front_inside = omega (arith, e, ap length f.is, length-append xs f.rest)

  pub front_filled : (n : ℕ) → length table ≡ n → zero_from k table ≡ filled n xs
  front_filled n l =
      let t : take k table ≡ xs = ap (take k) f.is ∙ take_at xs f.rest k e in
      let m : length table - k ≡ n - length xs = omega (arith, e, l) in
      ap (λ (y : List ℕ). y ++ replicate (length table - k) 0) t ∙ ap (λ (j : ℕ). xs ++ replicate j 0) m
      ∙ sym (filled_fits n xs (omega (arith, e, l, front_inside)))

-- a table of n cells, these first
filled_front : (n : ℕ) (xs : List ℕ) → length xs ≤ n → Front (filled n xs) xs
filled_front n xs h = record { rest = replicate (n - length xs) 0; is = filled_fits n xs h }

-- How many cells are used ----------------------------------------------------------------------------------------------------------

sort_cells_lem : (ns : List Name) → length (rows name_cells ns) ≡ 2 * length ns
unfolding name_cells
sort_cells_lem ns = length_rows name_cells 2 (λ n. refl) ns

symbol_cells_lem : (ss : List Symbol) → length (rows symbol_row ss) ≡ 4 * length ss
unfolding symbol_row name_cells
symbol_cells_lem ss = length_rows symbol_row 4 (λ s. refl) ss

input_cells_lem : (ss : List Symbol) → length (rows input_row ss) ≡ ARGUMENTS * length ss
unfolding input_row
input_cells_lem ss = length_rows input_row ARGUMENTS (λ s. length_filled ARGUMENTS s.inputs) ss

var_cells_lem : (rs : List Rule) → length (rows rule_var_row rs) ≡ 3 * RULEVARS * length rs
var_cells_lem rs = length_rows rule_var_row (3 * RULEVARS) rule_var_row_long rs

-- All tables -----------------------------------------------------------------------------------------------------------------------

pub counts_are : {text : List ℕ} {t : TheoryLists} {n : Counts} {T : Theory} → TheoryHeld text t n T → n ≡ counts_of T
counts_are h =
    λ i. record { sorts = sym h.sorts.many i; symbols = sym h.symbols.many i; rules = sym h.rules.many i; words = sym h.rules.used i }

module _ {text : List ℕ} {t : TheoryLists} (T : Theory) (h : TheoryHeld text t (counts_of T) T) where
  pub within_of : CountsFit t (counts_of T)
  within_of =
      record {
        sorts = front_inside h.sorts.front (sort_cells_lem T.sorts);
        symbols = front_inside h.symbols.front (symbol_cells_lem T.symbols);
        inputs = front_inside h.symbols.fronts (input_cells_lem T.symbols);
        rules = front_inside h.rules.front (length_rule_cells T.rules 0);
        rule_vars = front_inside h.rules.fronts (var_cells_lem T.rules);
        patterns = front_inside h.rules.written (words_counted T.rules);
      }

  pub laid_of : wiped t (counts_of T) ≡ theory_tables T
  unfolding sort_table symbol_table input_table rule_table rule_var_table pattern_table
  laid_of =
      λ i. theory_lists
      (front_filled h.sorts.front (sort_cells_lem T.sorts) (2 * SORTS) h.sorts.long i)
      (front_filled h.symbols.front (symbol_cells_lem T.symbols) (4 * SYMBOLS) h.symbols.long i)
      (front_filled h.symbols.fronts (input_cells_lem T.symbols) (ARGUMENTS * SYMBOLS) h.symbols.longs i)
      (front_filled h.rules.front (length_rule_cells T.rules 0) (6 * RULES) h.rules.long i)
      (front_filled h.rules.fronts (var_cells_lem T.rules) (3 * RULEVARS * RULES) h.rules.longs i)
      (front_filled h.rules.written (words_counted T.rules) PATTERNS h.rules.room i)

  -- they hold what was held
  pub laid_held : TheoryHeld text (theory_tables T) (counts_of T) T
  unfolding sort_table symbol_table input_table rule_table rule_var_table pattern_table
  laid_held =
      record {
        sorts = record {
          many = h.sorts.many;
          long = length_filled (2 * SORTS) (rows name_cells T.sorts);
          front = filled_front (2 * SORTS) (rows name_cells T.sorts) (omega (arith, within_of.sorts, sort_cells_lem T.sorts, h.sorts.long));
          names = h.sorts.names;
        };
        symbols = record {
          many = h.symbols.many;
          long = length_filled (4 * SYMBOLS) (rows symbol_row T.symbols);
          longs = length_filled (ARGUMENTS * SYMBOLS) (rows input_row T.symbols);
          front = filled_front (4 * SYMBOLS) (rows symbol_row T.symbols) (omega (arith, within_of.symbols, symbol_cells_lem T.symbols, h.symbols.long));
          fronts = filled_front (ARGUMENTS * SYMBOLS) (rows input_row T.symbols) (omega (arith, within_of.inputs, input_cells_lem T.symbols, h.symbols.longs));
          names = h.symbols.names;
          few = h.symbols.few;
        };
        rules = record {
          many = h.rules.many;
          used = h.rules.used;
          few = h.rules.few;
          long = length_filled (6 * RULES) (rule_cells T.rules 0);
          longs = length_filled (3 * RULEVARS * RULES) (rows rule_var_row T.rules);
          room = length_filled PATTERNS (rows pattern_row T.rules);
          front = filled_front (6 * RULES) (rule_cells T.rules 0) (omega (arith, within_of.rules, length_rule_cells T.rules 0, h.rules.long));
          fronts = filled_front (3 * RULEVARS * RULES) (rows rule_var_row T.rules) (omega (arith, within_of.rule_vars, var_cells_lem T.rules, h.rules.longs));
          written = filled_front PATTERNS (rows pattern_row T.rules) (omega (arith, within_of.patterns, words_counted T.rules, h.rules.room));
          names = h.rules.names;
          vars_few = h.rules.vars_few;
          vars_named = h.rules.vars_named;
        };
      }
