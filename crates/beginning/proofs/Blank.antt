-- Cleared tables: they are those of a theory that declares nothing, and of a check that has nothing but a theory. Assumes nothing.
use mathlib.Core.Path.{◌≡◌, refl, sym, ap, ◌∙◌, subst}
use mathlib.Core.List.{List, [], ◌++◌, append-nil}
use Prim.Native.Nat.{ℕ, ◌-◌, ◌*◌, ◌≤◌}
use native.Mathlib.Omega.{arith}
use lib.ListN.{length, take, replicate, drop_of_length-le}
use Rattle.facts.specs.declared.Fact.{Fact}
use Rattle.facts.specs.Table.{blank, zeroed}
use Rattle.facts.specs.Laws.{zeroed_is}
use Rattle.state.specs.Records.{rows_blank, fact_row, fact_foot, fact_rows, fact_feet, length_fact_rows}
use Rattle.rules.specs.Limits.{LENGTH, SORTS, SYMBOLS, ARGUMENTS, RULES, RULEVARS, PATTERNS, VARIABLES, TERMS, WORDS, DEFS, GOALS, FACTS, ENTRIES}
use Rattle.rules.specs.Theory.{Theory, no_theory, rule_words}
use Rattle.rules.specs.State.{begin, goal_entries, all_entries, entries}
use Rattle.rules.specs.TheoryTables.{rows, rule_cells, sort_table, symbol_table, input_table, rule_table, rule_var_table, pattern_table}
use Rattle.rules.specs.Laws.Theory.{empty, WellFormed}
use Rattle.rules.specs.Laws.Declare.{nothing_formed}
use Rattle.kernel.specs.Parsed.{TheoryLists, theory_lists, Exact, counts_of, theory_tables, LaidHeld}
use Rattle.kernel.specs.Layout.{tables_exact}
use Rattle.kernel.specs.declared.tables.Counts.{Counts}
use Rattle.terms.specs.declared.store.Mark.{Mark}
use Rattle.terms.specs.Laws.Empty.{good_empty, made_empty}
use Rattle.state.specs.declared.sizes.Sizes.{Sizes}
use Rattle.state.specs.Filled.{filled_none}
use Rattle.state.specs.Stands.{texts, Board, board, Stands, stands_begin}
use Rattle.state.specs.Used.{theory_sizes}
use Rattle.beginning.specs.Lengths.{no_mark}
use Rattle.beginning.specs.Opened.{no_board, Lending, Cleared}

-- One table ------------------------------------------------------------------------------------------------------------------------

zeros_of : (n : ℕ) {y : List ℕ} {k : ℕ} → y ≡ replicate k 0 → k ≡ n → y ≡ replicate n 0
zeros_of n e l = e ∙ ap (λ k. replicate k 0) l

none_of : (n : ℕ) {y : List ℕ} {k : ℕ} → y ≡ replicate k 0 → k ≡ n → {z : List ℕ} → replicate n 0 ≡ z → y ≡ z
none_of n e l f = zeros_of n e l ∙ f

-- The tables of a theory -------------------------------------------------------------------------------------------------------------

pub theory_cleared : (t : TheoryLists) → Exact t → (a b c d e f : List ℕ) → a ≡ replicate (length t.sorts) 0 → b ≡ replicate (length t.symbols) 0 →
    c ≡ replicate (length t.inputs) 0 → d ≡ replicate (length t.rules) 0 → e ≡ replicate (length t.rule_vars) 0 →
    f ≡ replicate (length t.patterns) 0 → theory_lists a b c d e f ≡ theory_tables no_theory
unfolding rows rule_cells sort_table symbol_table input_table rule_table rule_var_table pattern_table
theory_cleared t x a b c d e f p q r s u v =
    λ i. theory_lists
    (none_of (2 * SORTS) p x.sorts (sym (filled_none (2 * SORTS))) i)
    (none_of (4 * SYMBOLS) q x.symbols (sym (filled_none (4 * SYMBOLS))) i)
    (none_of (ARGUMENTS * SYMBOLS) r x.inputs (sym (filled_none (ARGUMENTS * SYMBOLS))) i)
    (none_of (6 * RULES) s x.rules (sym (filled_none (6 * RULES))) i)
    (none_of (3 * RULEVARS * RULES) u x.rule_vars (sym (filled_none (3 * RULEVARS * RULES))) i)
    (none_of PATTERNS v x.patterns (sym (filled_none PATTERNS)) i)

-- they hold it, whatever the text
nothing_held : (text : List ℕ) → LaidHeld text no_theory
unfolding rows rule_cells rule_words
nothing_held text =
    let x = tables_exact no_theory in
    let t = theory_tables no_theory in
    record {
      sorts = record { many = refl; long = x.sorts; front = record { rest = t.sorts; is = refl }; names = empty };
      symbols = record {
        many = refl;
        long = x.symbols;
        longs = x.inputs;
        front = record { rest = t.symbols; is = refl };
        fronts = record { rest = t.inputs; is = refl };
        names = empty;
        few = empty;
      };
      rules = record {
        many = refl;
        used = refl;
        few = omega arith;
        long = x.rules;
        longs = x.rule_vars;
        room = x.patterns;
        front = record { rest = t.rules; is = refl };
        fronts = record { rest = t.rule_vars; is = refl };
        written = record { rest = t.patterns; is = refl };
        names = empty;
        vars_few = empty;
        vars_named = empty;
      };
    }

-- The others -------------------------------------------------------------------------------------------------------------------------

pub facts_many : (fs : List Fact) → length (fact_rows fs) ≡ 6 * FACTS → length fs ≡ FACTS
facts_many fs l = omega (arith, length_fact_rows fs, l)

-- all of them made blank
zeroed_all : (fs : List Fact) (n : ℕ) → length fs ≡ n → zeroed fs 0 n ≡ replicate n blank
zeroed_all fs n l =
    zeroed_is fs 0 n
    ∙ ap (λ (r : List Fact). take 0 fs ++ (replicate (n - 0) blank ++ r)) (drop_of_length-le fs {i = n} (omega (arith, l)))
    ∙ append-nil (replicate (n - 0) blank)
    ∙ ap (λ (k : ℕ). replicate k blank) whole
  where
    whole : n - 0 ≡ n
    whole = omega arith

pub blank_rows : (fs gs : List Fact) → length (fact_rows fs) ≡ 6 * FACTS → gs ≡ zeroed fs 0 FACTS →
    (fact_rows gs ≡ replicate (6 * FACTS) 0) × (fact_feet gs ≡ replicate (4 * FACTS) 0)
blank_rows fs gs l e =
    let q : gs ≡ replicate FACTS blank = e ∙ zeroed_all fs FACTS (facts_many fs l) in (
      ap fact_rows q ∙ rows_blank fact_row 6 (λ f. refl) blank refl FACTS,
      ap fact_feet q ∙ rows_blank fact_foot 4 (λ f. refl) blank refl FACTS,
    )

pub board_cleared : (B : Board) → Lending B → (a b c d e f g h : List ℕ) → a ≡ replicate (length B.vars) 0 → b ≡ replicate (length B.index) 0 →
    c ≡ replicate (length B.words) 0 → d ≡ replicate (length B.defs) 0 → e ≡ replicate (length B.goals) 0 →
    (f ≡ replicate (6 * FACTS) 0) × (g ≡ replicate (4 * FACTS) 0) → h ≡ replicate (length B.lists) 0 → board a b c d e f g h ≡ no_board
board_cleared B h a b c d e f g j p q r s u w v =
    let x = h.exact in
    λ i. board (zeros_of (4 * VARIABLES) p x.vars i) (zeros_of (4 * TERMS) q x.index i) (zeros_of WORDS r x.words i)
    (zeros_of (3 * DEFS) s x.defs i) (zeros_of (6 * GOALS) u x.goals i) (w.0 i) (w.1 i) (zeros_of ENTRIES v x.lists i)

-- What stands then -------------------------------------------------------------------------------------------------------------------

-- D: what was declared
module _ {theory goals text : List ℕ} {D : Theory} {T : TheoryLists} {B : Board} {m : Mark} (w : WellFormed D) (h : LaidHeld theory D) (l : length text ≤ LENGTH)
    (t : T ≡ theory_tables D) (b : B ≡ no_board) (k : m ≡ no_mark) where
  begins : Stands (texts theory goals text) T B (theory_sizes (counts_of D)) m (begin D)
  unfolding entries goal_entries all_entries
  begins =
      subst (λ U. Stands (texts theory goals text) U B (theory_sizes (counts_of D)) m (begin D)) (sym t)
      (subst (λ C. Stands (texts theory goals text) (theory_tables D) C (theory_sizes (counts_of D)) m (begin D)) (sym b)
      (subst (λ j. Stands (texts theory goals text) (theory_tables D) no_board (theory_sizes (counts_of D)) j (begin D)) (sym k)
      (stands_begin w h l good_empty (made_empty (replicate (4 * TERMS) 0) (replicate WORDS 0)))))

  pub theory_stands : {n : Sizes} {c : Counts} → n ≡ theory_sizes c → c ≡ counts_of D → Stands (texts theory goals text) T B n m (begin D)
  theory_stands e f =
      subst (λ n. Stands (texts theory goals text) T B n m (begin D)) (sym (e ∙ ap theory_sizes f)) begins

pub nothing_stands : {T : TheoryLists} {B : Board} {n : Sizes} {m : Mark} → T ≡ theory_tables no_theory → Cleared B n m →
    Stands (texts [] [] []) T B n m (begin no_theory)
nothing_stands {T} {B} {n} {m} t z =
    subst (λ k. Stands (texts [] [] []) T B k m (begin no_theory)) (sym z.sizes) (begins nothing_formed (nothing_held []) (omega arith) t z.none z.mark)
