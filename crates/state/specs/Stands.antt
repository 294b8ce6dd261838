-- All tables at once stand for a state: the three texts, the theory's tables, and the eight tables that a form changes. Laws: what is used, trees
-- made behind, the beginning, the proof's text in place of the goals', and what a check leaves. Assumes nothing.
use Rattle.std.specs.Prelude.{◌≡◌, refl, ℕ, ◌*◌, ◌≤◌, List, [], ◌∷◌, ◌++◌, length, drop, replicate}
use Rattle.std.proofs.Common.{sym, ap, ◌∙◌, subst, arith}
use Rattle.rules.specs.Limits.{LENGTH, VARIABLES, WORDS, DEFS, GOALS, FACTS, ENTRIES}
use Rattle.rules.specs.Find.{entry}
use Rattle.rules.specs.Store.{Made, words}
use Rattle.rules.specs.Theory.{Theory}
use Rattle.rules.specs.State.{State, Var, begin, goal_entries, all_entries, entries}
use Rattle.rules.specs.Forms.{with_made}
use Rattle.rules.specs.TheoryTables.{filled}
use Rattle.rules.specs.StateTables.{var_cells, def_cells, word_cells, goal_cells, fact_cells, footing_cells, goal_list, fact_list, laid}
use Rattle.rules.specs.Laws.Theory.{All, empty, both, WellFormed}
use Rattle.rules.specs.Laws.Keeping.{Grows}
use Rattle.rules.specs.Laws.Sound.{sound, Distinct, ClosedBehind}
use Rattle.rules.specs.Laws.Ready.{Ready}
use Rattle.rules.specs.Laws.Row.{length_filled}
use Rattle.kernel.specs.Held.{SortsHeld}
use Rattle.kernel.specs.Parsed.{TheoryLists, theory_tables, LaidHeld}
use Rattle.sexp.specs.NameRows.{NameIn}
use Rattle.terms.specs.declared.store.Mark.{Mark}
use Rattle.terms.specs.declared.store.Store.{Store}
use Rattle.terms.specs.Table.{made, Good}
use Rattle.state.specs.declared.board.Board.{Board as Lent}
use Rattle.state.specs.declared.sizes.Sizes.{Sizes}
use Rattle.state.specs.Held.{text_of, names, Spelling, GoalsHeld, records, Recorded, rule_lists, Ruled}
use Rattle.state.specs.Records.{fact_rows, fact_feet}
use Rattle.state.specs.Used.{sizes_of}
use Rattle.state.specs.Filled.{filled_none}
use Rattle.state.specs.Growth.{goals_on, spelling_on, recorded_on, spelling_made, recorded_made}

-- The tables ---------------------------------------------------------------------------------------------------------------------

-- the theory, the goals, and the text that is read
pub record Texts : Type 0 where
  pub theory : List ℕ
  pub goals : List ℕ
  pub text : List ℕ

abbrev pub texts : (theory goals text : List ℕ) → Texts
texts t g x = record { theory = t; goals = g; text = x }

-- the tables that a form changes
pub record Board : Type 0 where
  pub vars : List ℕ
  pub index : List ℕ
  pub words : List ℕ
  pub defs : List ℕ
  pub goals : List ℕ
  pub facts : List ℕ
  pub footings : List ℕ
  pub lists : List ℕ

abbrev pub board : (vars index words defs goals facts footings lists : List ℕ) → Board
board v i w d g f b l = record { vars = v; index = i; words = w; defs = d; goals = g; facts = f; footings = b; lists = l }

-- those that are lent, and the store's
abbrev pub tables_of : Lent → Store → Board
tables_of b s =
    board b.vars.now s.index.now s.words.now b.defs.now b.rows.now (fact_rows b.facts.now) (fact_feet b.facts.now) b.lists.now

-- the trees of the store
abbrev pub trees_of : Board → Mark → Made
trees_of B m = made B.index B.words m

pub record Stands (X : Texts) (T : TheoryLists) (B : Board) (n : Sizes) (m : Mark) (S : State) : Type 0 where
  pub laid : T ≡ theory_tables S.theory
  pub sorts : SortsHeld X.theory T.sorts n.sorts S.theory.sorts
  pub ruled : Ruled (rule_lists X.theory T.rules T.rule_vars T.patterns) n S.theory
  pub spelling : Spelling (names X.theory X.goals X.text T.symbols T.inputs B.vars B.defs) n (trees_of B m) S
  pub goals : GoalsHeld X.goals B.goals n.goals (trees_of B m) S.goals
  pub recorded : Recorded (records B.facts B.footings B.lists) n (trees_of B m) S
  pub good : Good B.index B.words m
  pub store : trees_of B m ≡ S.made

-- no more facts than there are rows
pub facts_room : {X : Texts} {T : TheoryLists} {B : Board} {n : Sizes} {m : Mark} {S : State} → Stands X T B n m S → n.facts ≤ FACTS
facts_room h = omega (arith, h.recorded.many, h.recorded.rows.row12)

-- every cell by the state alone, in tables of their named lengths
pub record Leaves (B : Board) (S : State) : Type 0 where
  pub vars : B.vars ≡ filled (4 * VARIABLES) (var_cells S.vars)
  pub words : B.words ≡ filled WORDS (word_cells S.made S.made)
  pub defs : B.defs ≡ filled (3 * DEFS) (def_cells S.made S.defs)
  pub goals : B.goals ≡ filled (6 * GOALS) (goal_cells S.made 0 S.goals)
  pub facts : B.facts ≡ filled (6 * FACTS) (fact_cells S.made (goal_entries S.goals) S.facts)
  pub footings : B.footings ≡ filled (4 * FACTS) (footing_cells S.facts)
  pub lists : B.lists ≡ filled ENTRIES (goal_list S.made S.goals ++ fact_list S.made S.facts)

module _ {X : Texts} {T : TheoryLists} {B : Board} {n : Sizes} {m : Mark} {S : State} (h : Stands X T B n m S) where
  -- what is used is what the state has
  pub stands_sizes : n ≡ sizes_of S
  stands_sizes = λ i.
      record {
        sorts = sym h.sorts.many i;
        symbols = sym h.spelling.held.many i;
        rules = sym h.ruled.held.many i;
        vars = sym h.spelling.vars.stand.many i;
        defs = sym h.spelling.defs.many i;
        goals = sym h.goals.many i;
        facts = h.recorded.many i;
        entries = h.recorded.used i;
      }

  -- the definition's laws begin with this
  pub stands_ready : Ready sound S S.made
  stands_ready = subst (Ready sound S) h.store h.spelling.trees

  -- Growth -------------------------------------------------------------------------------------------------------------------------

  -- trees are made behind the others, as an action on them does whether it answers or refuses: no other table changes
  pub stands_grown : {J Y : List ℕ} {k : Mark} → Good J Y k → Grows sound S.made (made J Y k) →
      Stands X T (board B.vars J Y B.defs B.goals B.facts B.footings B.lists) n k (with_made S (made J Y k))
  stands_grown {J} {Y} {k} d g =
      let w : Grows sound (trees_of B m) (made J Y k) = subst (λ M. Grows sound M (made J Y k)) (sym h.store) g in
      record {
        laid = h.laid;
        sorts = h.sorts;
        ruled = h.ruled;
        spelling = spelling_made (made J Y k) (spelling_on w h.spelling);
        goals = goals_on w h.spelling.trees.goals h.goals;
        recorded = recorded_made (made J Y k) (recorded_on w h.recorded);
        good = d;
        store = refl;
      }

  -- What a check leaves --------------------------------------------------------------------------------------------------------------

  -- the store's own law says what its words are
  pub stands_leaves : B.words ≡ filled WORDS (word_cells (trees_of B m) (trees_of B m)) → Leaves B S
  stands_leaves w =
      record {
        vars = h.spelling.vars.stand.cells;
        words = w ∙ ap (λ M. filled WORDS (word_cells M M)) h.store;
        defs = h.spelling.defs.cells ∙ ap (λ M. filled (3 * DEFS) (def_cells M S.defs)) h.store;
        goals = h.goals.cells ∙ ap (λ M. filled (6 * GOALS) (goal_cells M 0 S.goals)) h.store;
        facts = h.recorded.facts ∙ ap (λ M. filled (6 * FACTS) (fact_cells M (goal_entries S.goals) S.facts)) h.store;
        footings = h.recorded.footings;
        lists = h.recorded.lists ∙ ap (λ M. filled ENTRIES (goal_list M S.goals ++ fact_list M S.facts)) h.store;
      }

-- a table in a longer one, of which this is the named part: a field of `Laid`
pub leaves_laid : {table : List ℕ} (N : ℕ) (cells before : List ℕ) → table ≡ filled N cells → table ++ drop N before ≡ laid (filled N cells) before
unfolding laid
leaves_laid N cells before e =
    ap (λ l. l ++ drop N before) e ∙ ap (λ k. filled N cells ++ drop k before) (sym (length_filled N cells))

-- The text that is read ----------------------------------------------------------------------------------------------------------

-- behind the goals comes the proof: the variables so far have their names in the goals, and there are no abbreviations
pub stands_proof : {theory goals text : List ℕ} {T : TheoryLists} {B : Board} {n : Sizes} {m : Mark} {S : State} (proof : List ℕ) →
    Stands (texts theory goals text) T B n m S → All (λ v. v.text ≡ 2) S.vars → S.defs ≡ [] → length proof ≤ LENGTH →
    Stands (texts theory goals proof) T B n m S
unfolding text_of
stands_proof {goals = goals} {text = text} {B = B} {n = n} {m = m} {S = S} proof h v d l =
    record {
      laid = h.laid;
      sorts = h.sorts;
      ruled = h.ruled;
      spelling = record {
        formed = h.spelling.formed;
        held = h.spelling.held;
        symbols = h.spelling.symbols;
        vars = record { stand = h.spelling.vars.stand; names = reread S.vars v h.spelling.vars.names };
        defs = record {
          many = h.spelling.defs.many;
          few = h.spelling.defs.few;
          cells = h.spelling.defs.cells;
          names = subst (All (λ x. NameIn proof x.name)) (sym d) empty;
          terms = h.spelling.defs.terms;
        };
        trees = h.spelling.trees;
        short = l;
      };
      goals = h.goals;
      recorded = h.recorded;
      good = h.good;
      store = h.store;
    }
  where
    same : (k : ℕ) → k ≡ 2 → text_of goals text k ≡ text_of goals proof k
    same k e = ap (text_of goals text) e ∙ ap (text_of goals proof) (sym e)

    reread : (vs : List Var) → All (λ v. v.text ≡ 2) vs → All (λ v. NameIn (text_of goals text v.text) v.name) vs →
        All (λ v. NameIn (text_of goals proof v.text) v.name) vs
    reread [] a b = empty
    reread (v ∷ vs) (both e a) (both i b) = both (subst (λ t. NameIn t v.name) (same v.text e) i) (reread vs a b)

-- The beginning --------------------------------------------------------------------------------------------------------------------

-- a private law of `rules` too, which stays as it is
pub nothing_made : (T : Theory) → Ready sound (begin T) []
unfolding sound Distinct ClosedBehind words
nothing_made T = record { good = record { distinct = tt; closed = tt; row8 = omega arith; row9 = omega arith }; defs = empty; goals = empty; facts = empty }

-- a theory in its tables, an empty store, and zero everywhere else
pub stands_begin : {theory goals text index words : List ℕ} {T : Theory} {m : Mark} → WellFormed T → LaidHeld theory T → length text ≤ LENGTH →
    Good index words m → made index words m ≡ [] →
    Stands (texts theory goals text) (theory_tables T)
    (board (replicate (4 * VARIABLES) 0) index words (replicate (3 * DEFS) 0) (replicate (6 * GOALS) 0) (replicate (6 * FACTS) 0)
    (replicate (4 * FACTS) 0) (replicate ENTRIES 0))
    (sizes_of (begin T)) m (begin T)
unfolding var_cells def_cells goal_cells fact_cells footing_cells goal_list fact_list entries goal_entries all_entries entry
stands_begin {T = T} f h l g e =
    let ready = subst (Ready sound (begin T)) (sym e) (nothing_made T) in
    record {
      laid = refl;
      sorts = h.sorts;
      ruled = record { words = _; held = h.rules };
      spelling = record {
        formed = f;
        held = h.symbols;
        symbols = refl;
        vars = record { stand = record { many = refl; few = omega arith; cells = sym (filled_none (4 * VARIABLES)) }; names = empty };
        defs = record { many = refl; few = omega arith; cells = sym (filled_none (3 * DEFS)); names = empty; terms = empty };
        trees = ready;
        short = l;
      };
      goals = record { many = refl; few = omega arith; cells = sym (filled_none (6 * GOALS)); names = empty };
      recorded = record {
        many = refl;
        used = refl;
        facts = sym (filled_none (6 * FACTS));
        footings = sym (filled_none (4 * FACTS));
        lists = sym (filled_none ENTRIES);
        rows = record { row7 = omega arith; row10 = omega arith; row11 = omega arith; row12 = omega arith; row13 = omega arith };
        trees = ready;
        shaped = λ k f e. absurd (let z : ◌≡◌ {A = ℕ} 0 1 = cc in omega arith);
        general = empty;
        rules = f.row4;
      };
      good = g;
      store = e;
    }
