-- The named parts that a check has filled, in their places of the tables as they are lent. Assumes nothing.
use Rattle.std.specs.Prelude.{◌≡◌, List, ◌++◌, ℕ, ◌*◌, ◌≤◌, length, take, drop, Result, Ok, Err}
use Rattle.std.proofs.Common.{sym, ap, ◌∙◌, subst, arith, take_at, drop_at, length-append}
use Rattle.rules.specs.Limits.{SORTS, SYMBOLS, ARGUMENTS, RULES, RULEVARS, PATTERNS, VARIABLES, TERMS, WORDS, DEFS, GOALS, FACTS, ENTRIES}
use Rattle.rules.specs.State.{State}
use Rattle.kernel.specs.Parsed.{TheoryLists, theory_lists, Exact, Roomy}
use Rattle.terms.specs.declared.store.Mark.{Mark}
use Rattle.state.specs.declared.sizes.Sizes.{Sizes}
use Rattle.state.specs.Records.{fact_rows, fact_feet, length_fact_rows}
use Rattle.state.specs.RowTables.{tabled_long}
use Rattle.state.specs.FactLaws.{facts_tabled}
use Rattle.state.specs.Stands.{Texts, texts, Board, Stands}
use Rattle.facts.specs.declared.Fact.{Fact}
use Rattle.running.specs.declared.stopped.Stopped.{Stopped}
use Rattle.running.specs.Lent.{Working, working, LongWorking, board_front}
use Rattle.beginning.specs.Opened.{CourseOf, Opened}
use Rattle.stepping.specs.declared.used.Used.{Used}
use Rattle.stepping.specs.Parts.{front, Behind}
use Rattle.stepping.specs.Begun.{OpenedIn, Started}
use Rattle.stepping.specs.Lends.{theory_exact, board_exact, theory_now, theory_front_lem, theory_behind, working_now, board_front_lem, working_behind}

-- One table --------------------------------------------------------------------------------------------------------------------------

part_long : {A : Type 0} {n : ℕ} (y l : List A) → length y ≡ n → n ≤ length (y ++ l)
part_long y l e = omega (arith, e, length-append y l)

-- Those of the theory ----------------------------------------------------------------------------------------------------------------

pub theory_long : {U : TheoryLists} (T : TheoryLists) → Exact U → Roomy (theory_now U T)
theory_long {U} T x =
    record {
      sorts = part_long U.sorts (drop (2 * SORTS) T.sorts) x.sorts;
      symbols = part_long U.symbols (drop (4 * SYMBOLS) T.symbols) x.symbols;
      inputs = part_long U.inputs (drop (ARGUMENTS * SYMBOLS) T.inputs) x.inputs;
      rules = part_long U.rules (drop (6 * RULES) T.rules) x.rules;
      rule_vars = part_long U.rule_vars (drop (3 * RULEVARS * RULES) T.rule_vars) x.rule_vars;
      patterns = part_long U.patterns (drop PATTERNS T.patterns) x.patterns;
    }

-- Those that a form changes: ys the records of the named part --------------------------------------------------------------------------

module _ {X : Texts} {U : TheoryLists} {B : Board} {n : Sizes} {m : Mark} {S : State} (h : Stands X U B n m S) (W : Working) (ys : List Fact)
    (p : fact_rows ys ≡ B.facts) (q : fact_feet ys ≡ B.footings) (fs : List Fact) {gs : List Fact} (v : gs ≡ ys ++ drop FACTS fs) where
  records_exact : length ys ≡ FACTS
  records_exact = omega (arith, length_fact_rows ys, ap length p, tabled_long (facts_tabled h.recorded))

  pub records_are : ys ≡ take FACTS gs
  records_are = sym (ap (take FACTS) v ∙ take_at ys (drop FACTS fs) FACTS records_exact)

  pub front_are : B ≡ front (working_now B W) gs
  front_are =
      board_front_lem W (board_exact h)
      ∙ (λ i. board_front (working_now B W) ((sym p ∙ ap fact_rows records_are) i) ((sym q ∙ ap fact_feet records_are) i))

  pub working_long : LongWorking (working_now B W)
  working_long =
      let x = board_exact h in
      record {
        vars = part_long B.vars (drop (4 * VARIABLES) W.vars) x.vars;
        index = part_long B.index (drop (4 * TERMS) W.index) x.index;
        words = part_long B.words (drop WORDS W.words) x.words;
        defs = part_long B.defs (drop (3 * DEFS) W.defs) x.defs;
        goals = part_long B.goals (drop (6 * GOALS) W.goals) x.goals;
        lists = part_long B.lists (drop ENTRIES W.lists) x.lists;
      }

  pub records_long : FACTS ≤ length gs
  records_long = subst (λ (l : List Fact). FACTS ≤ length l) (sym v) (part_long ys (drop FACTS fs) records_exact)

  pub behind : Behind W (working_now B W) fs gs
  behind =
      record {
        working = working_behind W (board_exact h);
        records = ap (drop FACTS) v ∙ drop_at ys (drop FACTS fs) FACTS records_exact;
      }

-- The beginning ------------------------------------------------------------------------------------------------------------------------

-- the tables stand for its state, whatever is answered
opened_stands : (theory goals proof : List ℕ) {T : TheoryLists} {B : Board} {n : Sizes} {m : Mark} {S : State} (r : Result (Unit {0}) Stopped) →
    CourseOf theory goals proof T B n m S r → (X : Texts) × Stands X T B n m S
opened_stands theory goals proof (Ok u) c = (texts theory goals proof, c.stands)
opened_stands theory goals proof (Err s) c = (c.X, c.stands)

module _ {theory goals proof : List ℕ} {U : TheoryLists} (W : Working) {B : Board} {u : Used} (r : Result (Unit {0}) Stopped)
    (o : Opened theory goals proof U B u.n u.mark r) (ys : List Fact) (p : fact_rows ys ≡ B.facts) (q : fact_feet ys ≡ B.footings)
    (fs : List Fact) {gs : List Fact} (v : gs ≡ ys ++ drop FACTS fs) where
  opened_in : OpenedIn theory goals proof U W (working_now B W) fs gs u r
  opened_in =
      let h = (opened_stands theory goals proof r o.course).1 in
      record {
        opened = subst (λ (D : Board). Opened theory goals proof U D u.n u.mark r) (front_are h W ys p q fs v) o;
        working_long = working_long h W ys p q fs v;
        records_long = records_long h W ys p q fs v;
        behind = behind h W ys p q fs v;
      }

  -- each table
  pub opened_as : {a b c d e f : List ℕ} → a ≡ B.vars ++ drop (4 * VARIABLES) W.vars → b ≡ B.index ++ drop (4 * TERMS) W.index →
      c ≡ B.words ++ drop WORDS W.words → d ≡ B.defs ++ drop (3 * DEFS) W.defs → e ≡ B.goals ++ drop (6 * GOALS) W.goals →
      f ≡ B.lists ++ drop ENTRIES W.lists → OpenedIn theory goals proof U W (working a b c d e f) fs gs u r
  opened_as a b c d e f =
      subst (λ (Z : Working). OpenedIn theory goals proof U W Z fs gs u r)
      (λ i. working (sym a i) (sym b i) (sym c i) (sym d i) (sym e i) (sym f i)) opened_in

module _ {theory goals proof : List ℕ} (T : TheoryLists) {U : TheoryLists} {W Z : Working} {fs gs : List Fact} {u : Used} {r : Result (Unit {0}) Stopped}
    (o : OpenedIn theory goals proof U W Z fs gs u r) where
  started : Started theory goals proof T (theory_now U T) W Z fs gs u r
  started =
      let x = theory_exact (opened_stands theory goals proof r o.opened.course).1 in
      record {
        opened = subst (λ (t : TheoryLists). Opened theory goals proof t (front Z gs) u.n u.mark r) (theory_front_lem T x) o.opened;
        long = record { theory = theory_long T x; working = o.working_long; records = o.records_long };
        theory_behind = theory_behind T x;
        behind = o.behind;
      }

  pub started_as : {a b c d e f : List ℕ} → a ≡ U.sorts ++ drop (2 * SORTS) T.sorts → b ≡ U.symbols ++ drop (4 * SYMBOLS) T.symbols →
      c ≡ U.inputs ++ drop (ARGUMENTS * SYMBOLS) T.inputs → d ≡ U.rules ++ drop (6 * RULES) T.rules →
      e ≡ U.rule_vars ++ drop (3 * RULEVARS * RULES) T.rule_vars → f ≡ U.patterns ++ drop PATTERNS T.patterns →
      Started theory goals proof T (theory_lists a b c d e f) W Z fs gs u r
  started_as a b c d e f =
      subst (λ (t : TheoryLists). Started theory goals proof T t W Z fs gs u r)
      (λ i. theory_lists (sym a i) (sym b i) (sym c i) (sym d i) (sym e i) (sym f i)) started
