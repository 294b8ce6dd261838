-- The whole check: what its parts ask of each other, and that all of it is a call as the definition says; where a table is too short too. Assumes nothing.
use Rattle.state.specs.Records.{rows_append, rows_drop, fact_row, fact_foot, fact_rows, fact_feet, length_fact_rows}
use Rattle.std.specs.Prelude.{◌≡◌, refl, List, ◌++◌, ℕ, ◌*◌, length, drop, Result, Ok, Err}
use Rattle.std.proofs.Common.{sym, ap, ◌∙◌, subst, arith, take_at, drop_at}
use Rattle.rules.specs.Limits.{SORTS, SYMBOLS, ARGUMENTS, RULES, RULEVARS, PATTERNS, VARIABLES, TERMS, WORDS, DEFS, GOALS, FACTS, ENTRIES}
use Rattle.kernel.specs.Parsed.{TheoryLists, theory_lists}
use Rattle.terms.specs.declared.store.Mark.{Mark}
use Rattle.terms.specs.Table.{settled}
use Rattle.state.specs.declared.sizes.Sizes.{Sizes}
use Rattle.terms.specs.declared.store.Store.{Store}
use Rattle.state.specs.declared.board.Given.{Given}
use Rattle.state.specs.declared.board.Board.{Board as Lent}
use Rattle.state.specs.Stands.{Board, board, tables_of as tables_in}
use Rattle.forms.specs.Boards.{theory_of}
use Rattle.facts.specs.declared.Fact.{Fact}
use Rattle.state.specs.RowTables.{tabled_long}
use Rattle.state.specs.FactLaws.{facts_tabled}
use Rattle.counts.specs.Sum.{none}
use Rattle.counts.specs.Counted.{counts_none}
use Rattle.running.specs.declared.stopped.Proved.{Proved}
use Rattle.running.specs.declared.stopped.Stopped.{Stopped}
use Rattle.running.specs.declared.finish.Report.{Report}
use Rattle.running.specs.declared.refusal.Refusal.{Refusal}
use Rattle.running.specs.declared.refusal.Refusal.TheVariants as refusal
use Rattle.running.specs.Course.{Over}
use Rattle.running.specs.Finished.{forms_of, FinishGiven, Finishes, answer_of}
use Rattle.running.specs.Lent.{Working, working, board_front}
use Rattle.running.specs.Between.{AllLong}
use Rattle.running.specs.ReadBack.{Call}
use Rattle.running.specs.Checking.{tables_of, with_index, call_filled, call_unfit}
use Rattle.beginning.specs.Opened.{Opened}
use Rattle.schematic.specs.Ran.{Kept, Ran, unsettled, Whole, Filled}
use Rattle.stepping.specs.Lends.{front_is, behind_is, theory_exact, board_exact, theory_now, theory_front_lem, theory_behind, working_now, board_front_lem, working_behind}

-- The beginning --------------------------------------------------------------------------------------------------------------------

-- a question is left before the proof
pub left : {theory goals proof : List ℕ} {T : TheoryLists} {B : Board} {n : Sizes} {m : Mark} {s : Stopped} →
    Opened theory goals proof T B n m (Err s) → Ran theory goals proof T B n m (Err s)
left o = record { S = o.S; over = o.course; counted = tt }

-- it begins
module _ (g : Given) (b : Lent) (t : Store) where
  pub begun : {u : Unit {0}} → Opened g.theory.now g.goals.now g.text.now (theory_of g) (tables_in b t) b.n t.mark (Ok u) → Kept g b t 0 0 none
  begun o =
      record {
        S = o.S;
        underway = o.course;
        counted = o.counts ∙ sym counts_none;
        few = record { hypotheses = omega arith; inductions = omega arith; inversions = omega arith; instances = omega arith };
      }

-- The end --------------------------------------------------------------------------------------------------------------------------

module _ {theory goals proof : List ℕ} {T : TheoryLists} {B : Board} {n : Sizes} {m : Mark} {e : Result Proved Stopped}
    (r : Ran theory goals proof T B n m e) where
  -- what `finish` asks
  abbrev pub finish_asks : FinishGiven e B n m
  finish_asks = record { theory = theory; goals = goals; proof = proof; T = T; S = r.S; over = r.over; counted = r.counted }

  -- what is left then: W, J: the words and the index of the store
  pub whole : {W J list : List ℕ} {o : Result Report Refusal} → J ≡ settled B.index → W ≡ B.words → Finishes theory goals proof o list →
      Whole theory goals proof T (board B.vars J W B.defs B.goals B.facts B.footings B.lists) list o
  whole j w f =
      record {
        index = B.index;
        n = n;
        m = m;
        e = forms_of e;
        S = r.S;
        over = subst (λ x. Over theory goals proof T (board B.vars B.index x B.defs B.goals B.facts B.footings B.lists) n m (forms_of e) r.S) (sym w) r.over;
        index_is = j;
        finishes = f;
      }

-- Tables of any length ---------------------------------------------------------------------------------------------------------------

-- the parts that a check fills, in their places; ys: the records
module _ {theory goals proof : List ℕ} {U : TheoryLists} (W : Working) (M : List ℕ) {B : Board} {list : List ℕ}
    {r : Result Report Refusal} (w : Whole theory goals proof U B list r) (l : length list ≡ GOALS) (ys : List Fact)
    (p : fact_rows ys ≡ B.facts) (q : fact_feet ys ≡ B.footings) where
  abbrev Z : Board
  Z = unsettled B w.index

  records_long : length ys ≡ FACTS
  records_long =
      omega (arith, length_fact_rows ys, ap length p, tabled_long (facts_tabled w.over.stands.recorded))

  module _ {fs gs : List Fact} (v : gs ≡ ys ++ drop FACTS fs) where
    pub filled : Filled theory goals proof U W (working_now B W) M (list ++ drop GOALS M) fs gs r
    filled =
        let x = board_exact w.over.stands in
        record {
          index = w.index ++ drop (4 * TERMS) W.index;
          rows = B.facts;
          feet = B.footings;
          n = w.n;
          m = w.m;
          e = w.e;
          S = w.S;
          over = subst (λ (y : Board). Over theory goals proof U y w.n w.m w.e w.S) (board_front_lem W x) w.over;
          working_behind = working_behind W x;
          index_is = λ i. (w.index_is ∙ ap settled (front_is w.index W.index x.index)) i ++ sym (behind_is w.index W.index x.index) i;
          rows_are = ap fact_rows v ∙ rows_append fact_row ys (drop FACTS fs) ∙ (λ i. p i ++ rows_drop fact_row 6 (λ f. refl) FACTS fs i);
          feet_are = ap fact_feet v ∙ rows_append fact_foot ys (drop FACTS fs) ∙ (λ i. q i ++ rows_drop fact_foot 4 (λ f. refl) FACTS fs i);
          records_behind = ap (drop FACTS) v ∙ drop_at ys (drop FACTS fs) FACTS records_long;
          finishes = subst (Finishes theory goals proof r) (sym (take_at list (drop GOALS M) GOALS l)) w.finishes;
          list_behind = drop_at list (drop GOALS M) GOALS l;
        }

    -- each of them
    pub filled_as : {v i d g j x k : List ℕ} → v ≡ B.vars ++ drop (4 * VARIABLES) W.vars → i ≡ B.index ++ drop (4 * TERMS) W.index → x ≡ B.words ++ drop WORDS W.words →
        d ≡ B.defs ++ drop (3 * DEFS) W.defs → g ≡ B.goals ++ drop (6 * GOALS) W.goals → j ≡ B.lists ++ drop ENTRIES W.lists → k ≡ list ++ drop GOALS M →
        Filled theory goals proof U W (working v i x d g j) M k fs gs r
    filled_as a b c d e f h =
        subst (λ (y : Working × List ℕ). Filled theory goals proof U W y.0 M y.1 fs gs r)
        (λ i. (working (sym a i) (sym b i) (sym c i) (sym d i) (sym e i) (sym f i), sym h i)) filled

module _ {theory goals proof : List ℕ} {T U : TheoryLists} {W Z : Working} {M N : List ℕ} {fs gs : List Fact} {r : Result Report Refusal}
    (a : AllLong (length fs) T W M) (w : Filled theory goals proof U W Z M N fs gs r) where
  pub called : Call theory goals proof (tables_of T W M fs) (tables_of (theory_now U T) Z N gs) (answer_of r) × (drop FACTS gs ≡ drop FACTS fs)
  called =
      let x = theory_exact w.over.stands in (
        call_filled {U = theory_now U T} {Z = with_index Z w.index} fs gs a (theory_behind T x) w.working_behind
            (subst (λ (y : TheoryLists). Over theory goals proof y (board_front (with_index Z w.index) w.rows w.feet) w.n w.m w.e w.S) (theory_front_lem T x) w.over)
            w.rows_are w.feet_are w.index_is w.finishes w.list_behind,
        w.records_behind,
      )

  pub called_as : {a' b' c' d' e' f' : List ℕ} → a' ≡ U.sorts ++ drop (2 * SORTS) T.sorts → b' ≡ U.symbols ++ drop (4 * SYMBOLS) T.symbols →
      c' ≡ U.inputs ++ drop (ARGUMENTS * SYMBOLS) T.inputs → d' ≡ U.rules ++ drop (6 * RULES) T.rules →
      e' ≡ U.rule_vars ++ drop (3 * RULEVARS * RULES) T.rule_vars → f' ≡ U.patterns ++ drop PATTERNS T.patterns →
      Call theory goals proof (tables_of T W M fs) (tables_of (theory_lists a' b' c' d' e' f') Z N gs) (answer_of r) × (drop FACTS gs ≡ drop FACTS fs)
  called_as p q x y z v =
      subst (λ (t : TheoryLists). Call theory goals proof (tables_of T W M fs) (tables_of t Z N gs) (answer_of r) × (drop FACTS gs ≡ drop FACTS fs))
      (λ i. theory_lists (sym p i) (sym q i) (sym x i) (sym y i) (sym z i) (sym v i)) called

-- Question 1 -----------------------------------------------------------------------------------------------------------------------

-- a table is too short
pub short : (theory goals proof : List ℕ) (T : TheoryLists) (W : Working) (M : List ℕ) (fs : List Fact) → ¬ (AllLong (length fs) T W M) →
    Call theory goals proof (tables_of T W M fs) (tables_of T W M fs) (answer_of (Err refusal.Tables)) × (drop FACTS fs ≡ drop FACTS fs)
short theory goals proof T W M fs n = (call_unfit theory goals proof fs n refl refl refl refl refl, refl)
