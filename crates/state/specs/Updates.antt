-- All tables stand for the new state behind each kind of form: a variable, an abbreviation, a goal or a fact more, a goal that is taken. A form
-- first makes its trees (`stands_grown`), then stores. Assumes nothing.
use Rattle.std.specs.Prelude.{◌≡◌, ℕ, ◌+◌, ◌*◌, ◌<◌, ◌≤◌, false, List, [], ◌∷◌, ◌++◌, length, set, Result, Ok}
use Rattle.std.proofs.Common.{sym, ◌∙◌, arith}
use Rattle.std.proofs.Math.Path.{ap, subst}
use Rattle.std.proofs.lemmas.List.Edits.{sets}
use Rattle.rules.specs.Limits.{VARIABLES, DEFS, GOALS, ENTRIES}
use Rattle.rules.specs.Find.{change}
use Rattle.rules.specs.Tree.{count_trees}
use Rattle.rules.specs.Store.{number}
use Rattle.rules.specs.State.{State, Var, Def, Goal, Fact, Counts, goal_entries, all_entries, entries}
use Rattle.rules.specs.Forms.{with_vars, with_defs, with_goals, taken_goal}
use Rattle.rules.specs.StateTables.{numbers}
use Rattle.rules.specs.Laws.Theory.{all_snoc, all_map}
use Rattle.rules.proofs.Laws.Appends.{Behind, one_new}
use Rattle.rules.specs.Laws.Entry.{change_all}
use Rattle.rules.specs.Laws.Sound.{In, sound}
use Rattle.rules.specs.Laws.Ready.{GoalIn}
use Rattle.kernel.specs.Parsed.{TheoryLists}
use Rattle.sexp.specs.NameRows.{NameIn}
use Rattle.terms.specs.declared.store.Mark.{Mark}
use Rattle.state.specs.declared.sizes.Sizes.{Sizes}
use Rattle.questions.specs.declared.Row.{Row}
use Rattle.state.specs.Held.{text_of, VarsHeld, Records, records, Recorded}
use Rattle.state.specs.Used.{vars_now, defs_now, goals_now, facts_now}
use Rattle.state.specs.Numbered.{in_sound}
use Rattle.state.specs.VarLaws.{vars_more}
use Rattle.state.specs.DefLaws.{defs_more}
use Rattle.state.specs.GoalLaws.{goals_more, goals_taken}
use Rattle.state.specs.Recording.{Valid, valid_of, with_fact, DerivedPut, HypothesisPut, Derives, Assumes, recorded_derived, recorded_hypothesis}
use Rattle.state.specs.Parts.{spelling_vars, spelling_defs, spelling_goals, spelling_facts, recorded_vars, recorded_defs, recorded_goal, recorded_taken}
use Rattle.state.specs.Stands.{Texts, Board, board, trees_of, Stands}

module _ {X : Texts} {T : TheoryLists} {B : Board} {n : Sizes} {m : Mark} {S : State} (h : Stands X T B n m S) where
  -- what the laws of the definition say of the state
  pub stands_valid : Valid S.made S
  stands_valid = subst (λ M. Valid M S) h.store (valid_of h.recorded)

  -- Variables ----------------------------------------------------------------------------------------------------------------------

  -- further variables, as `invert` makes them
  pub stands_vars : {vars : List ℕ} {us : List Var} (k : ℕ) → VarsHeld X.goals X.text vars k us → Behind S.vars us →
      Stands X T (board vars B.index B.words B.defs B.goals B.facts B.footings B.lists) (vars_now n k) m (with_vars S us)
  stands_vars k v b =
      record {
        laid = h.laid;
        sorts = h.sorts;
        ruled = record { words = h.ruled.words; held = h.ruled.held };
        spelling = spelling_vars h.spelling k v;
        goals = h.goals;
        recorded = recorded_vars h.recorded k b (omega (arith, v.stand.many, v.stand.few));
        good = h.good;
        store = h.store;
      }

  -- `add_var`, by the row that `put_var_row` writes
  pub stands_var : (v : Var) (end : ℕ) → n.vars < VARIABLES → NameIn (text_of X.goals X.text v.text) v.name →
      end ≡ v.name.start + length v.name.bytes →
      Stands X T
      (board (sets B.vars (4 * n.vars) (v.sort ∷ v.text ∷ v.name.start ∷ end ∷ [])) B.index B.words B.defs B.goals B.facts
      B.footings B.lists)
      (vars_now n (n.vars + 1)) m (with_vars S (S.vars ++ (v ∷ [])))
  stands_var v end l i e = stands_vars (n.vars + 1) (vars_more v end h.spelling.vars l i e) (one_new S.vars v)

  -- Abbreviations ------------------------------------------------------------------------------------------------------------------

  -- `add_def`, by the row that `put_def` writes
  pub stands_def : (d : Def) (end term : ℕ) → n.defs < DEFS → NameIn X.text d.name → In d.term S.made →
      end ≡ d.name.start + length d.name.bytes → term ≡ number S.made d.term →
      Stands X T
      (board B.vars B.index B.words (sets B.defs (3 * n.defs) (d.name.start ∷ end ∷ term ∷ [])) B.goals B.facts B.footings B.lists)
      (defs_now n (n.defs + 1)) m (with_defs S (S.defs ++ (d ∷ [])))
  stands_def d end term l i k e q =
      let M = trees_of B m in
      let there : In d.term M = subst (In d.term) (sym h.store) k in
      let numbered : term ≡ number M d.term = q ∙ ap (λ M. number M d.term) (sym h.store) in
      let ds = defs_more h.spelling.defs d end term l i there e numbered in
      record {
        laid = h.laid;
        sorts = h.sorts;
        ruled = record { words = h.ruled.words; held = h.ruled.held };
        spelling = spelling_defs h.spelling (n.defs + 1) ds;
        goals = h.goals;
        recorded = recorded_defs h.recorded (n.defs + 1) (omega (arith, ds.many, ds.few)) (all_map (λ x i. in_sound M x.term i) ds.terms);
        good = h.good;
        store = h.store;
      }

  -- Goals --------------------------------------------------------------------------------------------------------------------------

  -- `add_goal`, while there are no facts: the row that `put_goal` writes, and its hypotheses behind the entries
  pub stands_goal : (g : Goal) (end judgment hyps e : ℕ) → S.facts ≡ [] → n.goals < GOALS → NameIn X.goals g.name →
      end ≡ g.name.start + length g.name.bytes → judgment ≡ number S.made g.judgment → hyps ≡ count_trees g.hyps → g.taken ≡ false →
      GoalIn sound S.made g → e ≡ n.entries + count_trees g.hyps → e ≤ ENTRIES →
      Stands X T
      (board B.vars B.index B.words B.defs
      (sets B.goals (6 * n.goals) (g.name.start ∷ end ∷ judgment ∷ n.entries ∷ hyps ∷ 0 ∷ [])) B.facts B.footings
      (sets B.lists n.entries (numbers S.made g.hyps)))
      (goals_now n (n.goals + 1) e) m (with_goals S (S.goals ++ (g ∷ [])))
  unfolding entries all_entries
  stands_goal g end judgment hyps e z l i q j k t p d b =
      let M = trees_of B m in
      let there : GoalIn sound M g = subst (λ M. GoalIn sound M g) (sym h.store) p in
      let numbered : judgment ≡ number M g.judgment = j ∙ ap (λ M. number M g.judgment) (sym h.store) in
      let from : n.entries ≡ goal_entries S.goals = omega (arith, h.recorded.used, ap all_entries z) in
      let gs = goals_more h.goals g end judgment n.entries hyps l i q numbered from k t in
      let all = all_snoc h.spelling.trees.goals there in
      let rec = recorded_goal h.recorded g e z (omega (arith, h.goals.many)) d b there in
      record {
        laid = h.laid;
        sorts = h.sorts;
        ruled = record { words = h.ruled.words; held = h.ruled.held };
        spelling = spelling_goals h.spelling (n.goals + 1) e all;
        goals = gs;
        recorded = subst
            (λ N. Recorded (records B.facts B.footings (sets B.lists n.entries (numbers N g.hyps))) (goals_now n (n.goals + 1) e) M
            (with_goals S (S.goals ++ (g ∷ [])))) h.store rec;
        good = h.good;
        store = h.store;
      }

  -- `result`, by the cell that `take_goal` writes
  pub stands_taken : (k : ℕ) → k < n.goals →
      Stands X T (board B.vars B.index B.words B.defs (set B.goals (6 * k + 5) 1) B.facts B.footings B.lists) n m
      (with_goals S (change S.goals k taken_goal))
  stands_taken k l =
      record {
        laid = h.laid;
        sorts = h.sorts;
        ruled = h.ruled;
        spelling = spelling_goals h.spelling n.goals n.entries
            (change_all S.goals k taken_goal (λ g i. record { judgment = i.judgment; hyps = i.hyps }) h.spelling.trees.goals);
        goals = goals_taken h.goals k l;
        recorded = recorded_taken h.recorded k;
        good = h.good;
        store = h.store;
      }

  -- Facts --------------------------------------------------------------------------------------------------------------------------

  valid_here : (f : Fact) (c : Counts) → Valid S.made (with_fact S f c) → Valid (trees_of B m) (with_fact S f c)
  valid_here f c v = subst (λ M. Valid M (with_fact S f c)) (sym h.store) v

  stands_fact : {Q : Records} (f : Fact) (c : Counts) (e : ℕ) → Recorded Q (facts_now n (n.facts + 1) e) (trees_of B m) (with_fact S f c) →
      Stands X T (board B.vars B.index B.words B.defs B.goals Q.facts Q.footings Q.lists) (facts_now n (n.facts + 1) e) m
      (with_fact S f c)
  stands_fact f c e r =
      record {
        laid = h.laid;
        sorts = h.sorts;
        ruled = record { words = h.ruled.words; held = h.ruled.held };
        spelling = spelling_facts h.spelling (n.facts + 1) e c r.trees.facts;
        goals = h.goals;
        recorded = r;
        good = h.good;
        store = h.store;
      }

  -- `add_fact` of a derived fact, behind `put_derived`
  pub stands_derived : {Q : Records} {f : Fact} {judgment : ℕ} {hyps footing : List ℕ} (c : Counts) (e : ℕ) → Derives S.made S f judgment hyps footing →
      Valid S.made (with_fact S f c) → (r : Result ℕ Row) →
      DerivedPut (records B.facts B.footings B.lists) Q n judgment hyps footing r → r ≡ Ok e →
      Stands X T (board B.vars B.index B.words B.defs B.goals Q.facts Q.footings Q.lists) (facts_now n (n.facts + 1) e) m
      (with_fact S f c)
  stands_derived {f = f} {judgment = judgment} {hyps = hyps} {footing = footing} c e d v r p q =
      stands_fact f c e (recorded_derived c e h.recorded (subst (λ M. Derives M S f judgment hyps footing) (sym h.store) d) (valid_here f c v) r p q)

  -- `add_fact` of a hypothesis, behind `put_hypothesis`; L: the lists with its premises and generalised variables
  pub stands_hypothesis : {Q : Records} {f : Fact} {judgment premises general : ℕ} {L : List ℕ} (c : Counts) (e : ℕ) →
      Assumes S.made S f n judgment premises general B.lists L → Valid S.made (with_fact S f c) → (r : Result ℕ Row) →
      HypothesisPut (records B.facts B.footings L) Q n judgment premises general r → r ≡ Ok e →
      Stands X T (board B.vars B.index B.words B.defs B.goals Q.facts Q.footings Q.lists) (facts_now n (n.facts + 1) e) m
      (with_fact S f c)
  stands_hypothesis {f = f} {judgment = judgment} {premises = premises} {general = general} {L = L} c e d v r p q =
      stands_fact f c e
      (recorded_hypothesis c e h.recorded (subst (λ M. Assumes M S f n judgment premises general B.lists L) (sym h.store) d) (valid_here f c v) r p q)
