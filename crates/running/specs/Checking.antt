-- A whole check over lent tables is what the definition says, and its tables can be read back (`Call` of ReadBack): from what stands when no form is left, what
-- `end` leaves, and the records of facts made blank behind; or from a table that is too short. No word of code. Assumes nothing.
use Rattle.std.specs.Prelude.{◌≡◌, refl, ℕ, ◌*◌, ◌≤◌, List, [], ◌∷◌, ◌++◌, length, take, drop, Result, Ok, Err}
use Rattle.std.proofs.Common.{sym, ap, ◌∙◌, subst, arith, take-append-drop, take_at}
use Rattle.rules.specs.Limits.{SORTS, SYMBOLS, ARGUMENTS, RULES, RULEVARS, PATTERNS, VARIABLES, TERMS, WORDS, DEFS, GOALS, FACTS, ENTRIES}
use Rattle.rules.specs.State.{State, goal_entries}
use Rattle.rules.specs.Check.{refused_in, missing, ended, check}
use Rattle.rules.specs.TheoryTables.{filled, sort_table, symbol_table, input_table, rule_table, rule_var_table, pattern_table}
use Rattle.rules.specs.StateTables.{Tables, Long, laid, missing_of, Laid, Checked, too_short, answered, var_cells, def_cells, end_cells, word_cells, goal_cells, fact_cells, footing_cells, goal_list, fact_list}
use Rattle.rules.specs.Laws.Row.{length_rows, length_filled}
use Rattle.kernel.specs.Parsed.{TheoryLists}
use Rattle.kernel.specs.Layout.{laid_front, tables_exact}
use Rattle.terms.specs.declared.store.Mark.{Mark}
use Rattle.terms.specs.Table.{settled}
use Rattle.terms.specs.Laws.Cells.{words_are, settled_is}
use Rattle.state.specs.Filled.{filled_front}
use Rattle.state.specs.FactLaws.{length_fact_cells, length_footing_cells}
use Rattle.state.specs.declared.sizes.Sizes.{Sizes}
use Rattle.state.specs.Stands.{trees_of, Leaves, stands_leaves, leaves_laid}
use Rattle.facts.specs.declared.Fact.{Fact}
use Rattle.facts.specs.Table.{zeroed}
use Rattle.running.specs.declared.stopped.Stopped.{Stopped}
use Rattle.running.specs.declared.finish.Report.{Report}
use Rattle.running.specs.declared.refusal.Refusal.{Refusal}
use Rattle.running.specs.declared.refusal.Refusal.TheVariants as refusal
use Rattle.running.specs.Course.{outcome_of, Over}
use Rattle.running.specs.Finished.{Finishes, answer_of}
use Rattle.state.specs.Records.{fact_row, fact_foot, fact_rows, fact_feet}
use Rattle.running.specs.Lent.{Working, working, theory_front, board_front, TheoryBehind, WorkingBehind, Mirrored}
use Rattle.running.specs.ReadBack.{Read, Call, stands_read}
use Rattle.running.specs.Between.{AllLong}
use Rattle.running.specs.RecordLaws.{zeroed_rows, zeroed_feet}

-- All tables of a check, with the records of facts as cells
abbrev pub tables_of : TheoryLists → Working → (missing : List ℕ) → List Fact → Tables
tables_of T W M fs =
    record {
      sorts = T.sorts;
      symbols = T.symbols;
      inputs = T.inputs;
      rules = T.rules;
      rule_vars = T.rule_vars;
      patterns = T.patterns;
      vars = W.vars;
      index = W.index;
      words = W.words;
      defs = W.defs;
      goals = W.goals;
      facts = fact_rows fs;
      footings = fact_feet fs;
      lists = W.lists;
      missing = M;
    }

abbrev pub with_index : Working → List ℕ → Working
with_index W i = working W.vars i W.words W.defs W.goals W.lists

-- Question 1 -----------------------------------------------------------------------------------------------------------------------

module _ {T : TheoryLists} {W : Working} {M : List ℕ} (fs : List Fact) where
  pub all_long : AllLong (length fs) T W M → Long (tables_of T W M fs)
  all_long h =
      record {
        sorts = h.theory.sorts;
        symbols = h.theory.symbols;
        inputs = h.theory.inputs;
        rules = h.theory.rules;
        rule_vars = h.theory.rule_vars;
        patterns = h.theory.patterns;
        vars = h.working.vars;
        index = h.working.index;
        words = h.working.words;
        defs = h.working.defs;
        goals = h.working.goals;
        facts = omega (arith, length_rows fact_row 6 (λ f. refl) fs, h.facts);
        footings = omega (arith, length_rows fact_foot 4 (λ f. refl) fs, h.facts);
        lists = h.working.lists;
        missing = h.missing;
      }

  pub long_all : Long (tables_of T W M fs) → AllLong (length fs) T W M
  long_all h =
      record {
        theory = record { sorts = h.sorts; symbols = h.symbols; inputs = h.inputs; rules = h.rules; rule_vars = h.rule_vars; patterns = h.patterns };
        working = record { vars = h.vars; index = h.index; words = h.words; defs = h.defs; goals = h.goals; lists = h.lists };
        missing = h.missing;
        facts = omega (arith, length_rows fact_row 6 (λ f. refl) fs, h.facts);
      }

-- a table is too short: all of them are as they were
pub call_unfit : (theory goals proof : List ℕ) {T U : TheoryLists} {W Z : Working} {M N : List ℕ} (fs : List Fact) {gs : List Fact} {r : Result Report Refusal} →
    ¬ (AllLong (length fs) T W M) → U ≡ T → Z ≡ W → N ≡ M → gs ≡ fs → r ≡ Err refusal.Tables →
    Call theory goals proof (tables_of T W M fs) (tables_of U Z N gs) (answer_of r)
call_unfit theory goals proof {T} {U} {W} {Z} {M} {N} fs {gs} {r} n u v m f e =
    record {
      checked =
          subst (λ (x : Result Report Refusal). Checked theory goals proof (tables_of T W M fs) (tables_of U Z N gs) (answer_of x)) (sym e)
          (too_short (λ l. n (long_all fs l)) (λ i. tables_of (u i) (v i) (m i) (f i)));
      read = λ l. absurd (n (long_all fs l));
    }

-- What stands at the end -----------------------------------------------------------------------------------------------------------

-- an answer keeps the state
outcome_state : (r : Result ℕ Stopped) (S : State) → (outcome_of r S).state ≡ S
unfolding ended refused_in
outcome_state (Ok k) S = go (missing S)
  where
    go : (xs : List ℕ) → (ended k S xs).state ≡ S
    go [] = refl
    go (x ∷ xs) = refl
outcome_state (Err s) S = refl

-- a table whose named part is known, and behind it what was there
laid_part : (n : ℕ) (cells before after : List ℕ) → length cells ≡ n → take n after ≡ cells → drop n after ≡ drop n before → after ≡ laid cells before
laid_part n cells before after l t d = sym (take-append-drop n after) ∙ (λ i. t i ++ d i) ∙ laid_front n cells before l

filled_part : (n : ℕ) (cells before after : List ℕ) → take n after ≡ filled n cells → drop n after ≡ drop n before → after ≡ laid (filled n cells) before
filled_part n cells before after t d = laid_part n (filled n cells) before after (length_filled n cells) t d

-- the cells themselves, in a table that has no others
front_cells : (N k : ℕ) (cells table : List ℕ) → table ≡ filled N cells → length cells ≡ k → k ≤ N → take k table ≡ cells
front_cells N k cells table e l m = (λ i. take (sym l i) (e i)) ∙ filled_front N cells (omega (arith, l, m))

-- what stands in the named part then
laid_front_is : {table : List ℕ} (N : ℕ) (cells before : List ℕ) → table ≡ laid (filled N cells) before → take N table ≡ filled N cells
unfolding laid
laid_front_is N cells before e =
    ap (take N) e ∙ take_at (filled N cells) (drop (length (filled N cells)) before) N (length_filled N cells)

module _ {theory goals proof : List ℕ} (U : TheoryLists) (Z : Working) {rows feet : List ℕ} {n : Sizes} {m : Mark} {e : Result ℕ Stopped} {S : State}
    (o : Over theory goals proof (theory_front U) (board_front Z rows feet) n m e S) where
  state_is : S ≡ (check theory goals proof).state
  state_is = sym (outcome_state e S) ∙ ap (λ O. O.state) o.is

  leaves : Leaves (board_front Z rows feet) S
  leaves = stands_leaves o.stands (words_are o.stands.good)

  -- Facts: the cells of the named part; fs before, gs afterwards
  abbrev rows_then : List Fact → List ℕ
  rows_then fs = laid (filled (6 * FACTS) (fact_cells S.made (goal_entries S.goals) S.facts)) (fact_rows fs)

  abbrev feet_then : List Fact → List ℕ
  feet_then fs = laid (filled (4 * FACTS) (footing_cells S.facts)) (fact_feet fs)

  -- the records are the rows, and what was behind them stays
  module _ (fs gs : List Fact) where
    rows_kept : fact_rows gs ≡ rows ++ drop (6 * FACTS) (fact_rows fs) → fact_rows gs ≡ rows_then fs
    rows_kept e = e ∙ leaves_laid (6 * FACTS) (fact_cells S.made (goal_entries S.goals) S.facts) (fact_rows fs) leaves.facts

    feet_kept : fact_feet gs ≡ feet ++ drop (4 * FACTS) (fact_feet fs) → fact_feet gs ≡ feet_then fs
    feet_kept e = e ∙ leaves_laid (4 * FACTS) (footing_cells S.facts) (fact_feet fs) leaves.footings

  -- ys when no form is left, made blank behind the facts
  module _ (fs : List Fact) {ys gs : List Fact} (h : Mirrored n.facts ys rows feet) (d : drop FACTS ys ≡ drop FACTS fs)
      (z : gs ≡ zeroed ys n.facts FACTS) where
    rows_laid : fact_rows gs ≡ rows_then fs
    rows_laid =
        let cells = fact_cells S.made (goal_entries S.goals) S.facts in
        let l : length cells ≡ 6 * n.facts =
        omega (arith, length_fact_cells S.made (goal_entries S.goals) S.facts, o.stands.recorded.many) in
        let k = o.stands.recorded.rows.row12 in
        let many = o.stands.recorded.many in
        zeroed_rows fs ys gs n.facts FACTS z d cells
        (h.same_rows ∙ front_cells (6 * FACTS) (6 * n.facts) cells rows leaves.facts l (omega arith)) (omega arith)

    feet_laid : fact_feet gs ≡ feet_then fs
    feet_laid =
        let cells = footing_cells S.facts in
        let l : length cells ≡ 4 * n.facts = omega (arith, length_footing_cells S.facts, o.stands.recorded.many) in
        let k = o.stands.recorded.rows.row12 in
        let many = o.stands.recorded.many in
        zeroed_feet fs ys gs n.facts FACTS z d cells
        (h.same_feet ∙ front_cells (4 * FACTS) (4 * n.facts) cells feet leaves.footings l (omega arith)) (omega arith)

  -- the index is settled
  module _ {index : List ℕ} (i : index ≡ settled (take (4 * TERMS) Z.index) ++ drop (4 * TERMS) Z.index) where
    index_laid : (before : List ℕ) → drop (4 * TERMS) Z.index ≡ drop (4 * TERMS) before → index ≡ laid (filled (4 * TERMS) (end_cells 0 S.made)) before
    index_laid before e =
        i ∙ (λ j. (settled_is o.stands.good ∙ ap (λ M. filled (4 * TERMS) (end_cells 0 M)) o.stands.store) j ++ e j)
        ∙ laid_front (4 * TERMS) (filled (4 * TERMS) (end_cells 0 S.made)) before (length_filled (4 * TERMS) (end_cells 0 S.made))

    index_front : take (4 * TERMS) index ≡ settled (take (4 * TERMS) Z.index)
    index_front =
        ap (take (4 * TERMS)) i
        ∙ take_at (settled (take (4 * TERMS) Z.index)) (drop (4 * TERMS) Z.index) (4 * TERMS)
        (ap length (settled_is o.stands.good) ∙ length_filled (4 * TERMS) (end_cells 0 (trees_of (board_front Z rows feet) m)))

  -- T, W, M, fs: the tables before
  module _ {T : TheoryLists} {W : Working} {index M N : List ℕ} (fs gs : List Fact) {r : Result Report Refusal}
      (b : TheoryBehind T U) (w : WorkingBehind W Z) (h : fact_rows gs ≡ rows_then fs) (d : fact_feet gs ≡ feet_then fs)
      (i : index ≡ settled (take (4 * TERMS) Z.index) ++ drop (4 * TERMS) Z.index) (f : Finishes theory goals proof r (take GOALS N))
      (k : drop GOALS N ≡ drop GOALS M) where
    laid_all : Laid (record { answer = (check theory goals proof).answer; state = S }) (tables_of T W M fs) (tables_of U (with_index Z index) N gs)
    laid_all =
        let x = tables_exact S.theory in
        let p = o.stands.laid in
        record {
          sorts = laid_part (2 * SORTS) (sort_table S.theory) T.sorts U.sorts x.sorts (λ j. (p j).sorts) b.sorts;
          symbols = laid_part (4 * SYMBOLS) (symbol_table S.theory) T.symbols U.symbols x.symbols (λ j. (p j).symbols) b.symbols;
          inputs = laid_part (ARGUMENTS * SYMBOLS) (input_table S.theory) T.inputs U.inputs x.inputs (λ j. (p j).inputs) b.inputs;
          rules = laid_part (6 * RULES) (rule_table S.theory) T.rules U.rules x.rules (λ j. (p j).rules) b.rules;
          rule_vars =
              laid_part (3 * RULEVARS * RULES) (rule_var_table S.theory) T.rule_vars U.rule_vars x.rule_vars (λ j. (p j).rule_vars)
              b.rule_vars;
          patterns = laid_part PATTERNS (pattern_table S.theory) T.patterns U.patterns x.patterns (λ j. (p j).patterns) b.patterns;
          vars = filled_part (4 * VARIABLES) (var_cells S.vars) W.vars Z.vars leaves.vars w.vars;
          index = index_laid i W.index w.index;
          words = filled_part WORDS (word_cells S.made S.made) W.words Z.words leaves.words w.words;
          defs = filled_part (3 * DEFS) (def_cells S.made S.defs) W.defs Z.defs leaves.defs w.defs;
          goals = filled_part (6 * GOALS) (goal_cells S.made 0 S.goals) W.goals Z.goals leaves.goals w.goals;
          facts = h;
          footings = d;
          lists = filled_part ENTRIES (goal_list S.made S.goals ++ fact_list S.made S.facts) W.lists Z.lists leaves.lists w.lists;
          missing = record {
            named = missing_of (check theory goals proof).answer S;
            once = record { many = refl; same = λ v. refl };
            cells = filled_part GOALS (missing_of (check theory goals proof).answer S) M N
                (f.named ∙ ap (λ (X : State). filled GOALS (missing_of (check theory goals proof).answer X)) (sym state_is)) k;
          };
        }

    pub call_over : AllLong (length fs) T W M → Call theory goals proof (tables_of T W M fs) (tables_of U (with_index Z index) N gs) (answer_of r)
    call_over a =
        record {
          checked =
              subst (Checked theory goals proof (tables_of T W M fs) (tables_of U (with_index Z index) N gs)) (sym f.is)
              (answered (all_long fs a)
              (subst
              (λ (X : State). Laid (record { answer = (check theory goals proof).answer; state = X }) (tables_of T W M fs) (tables_of U (with_index Z index) N gs))
              state_is laid_all));
          read = λ l.
              subst (Read (tables_of U (with_index Z index) N gs)) state_is
              (stands_read (tables_of U (with_index Z index) N gs) o.stands (index_front i) refl refl
              (laid_front_is (6 * FACTS) (fact_cells S.made (goal_entries S.goals) S.facts) (fact_rows fs) h ∙ sym leaves.facts)
              (laid_front_is (4 * FACTS) (footing_cells S.facts) (fact_feet fs) d ∙ sym leaves.footings)
              refl);
        }

-- T, W, M, fs: the tables before; U, Z, rows, feet when no form is left; Z with index, N, gs afterwards. The records are the rows that the forms filled
pub call_filled : {theory goals proof : List ℕ} {T U : TheoryLists} {W Z : Working} {rows feet index M N : List ℕ} (fs gs : List Fact) {n : Sizes}
    {m : Mark} {e : Result ℕ Stopped} {S : State} {r : Result Report Refusal} → AllLong (length fs) T W M → TheoryBehind T U → WorkingBehind W Z →
    Over theory goals proof (theory_front U) (board_front Z rows feet) n m e S →
    fact_rows gs ≡ rows ++ drop (6 * FACTS) (fact_rows fs) → fact_feet gs ≡ feet ++ drop (4 * FACTS) (fact_feet fs) →
    index ≡ settled (take (4 * TERMS) Z.index) ++ drop (4 * TERMS) Z.index → Finishes theory goals proof r (take GOALS N) → drop GOALS N ≡ drop GOALS M →
    Call theory goals proof (tables_of T W M fs) (tables_of U (with_index Z index) N gs) (answer_of r)
call_filled {U = U} {Z = Z} fs gs a b w o h d i f k = call_over U Z o fs gs b w (rows_kept U Z o fs gs h) (feet_kept U Z o fs gs d) i f k a

-- The same where the records stand beside the rows: ys when no form is left, made blank behind the facts
pub call_fit : {theory goals proof : List ℕ} {T U : TheoryLists} {W Z : Working} {rows feet index M N : List ℕ} (fs : List Fact) {ys gs : List Fact} {n : Sizes}
    {m : Mark} {e : Result ℕ Stopped} {S : State} {r : Result Report Refusal} → AllLong (length fs) T W M → TheoryBehind T U → WorkingBehind W Z →
    Over theory goals proof (theory_front U) (board_front Z rows feet) n m e S →
    Mirrored n.facts ys rows feet → drop FACTS ys ≡ drop FACTS fs → index ≡ settled (take (4 * TERMS) Z.index) ++ drop (4 * TERMS) Z.index →
    Finishes theory goals proof r (take GOALS N) → drop GOALS N ≡ drop GOALS M → gs ≡ zeroed ys n.facts FACTS →
    Call theory goals proof (tables_of T W M fs) (tables_of U (with_index Z index) N gs) (answer_of r)
call_fit {U = U} {Z = Z} fs {ys} {gs} a b w o h d i f k z = call_over U Z o fs gs b w (rows_laid U Z o fs h d z) (feet_laid U Z o fs h d z) i f k a
