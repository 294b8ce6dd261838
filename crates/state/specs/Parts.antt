-- One part of the state anew, in the tables that it does not touch: what names stand for and what is recorded, beside a variable, an abbreviation,
-- a goal or a fact more. Assumes nothing.
use Rattle.std.specs.Prelude.{◌≡◌, refl, ℕ, zero, suc, ◌+◌, ◌*◌, ◌<◌, ◌≤◌, List, [], ◌∷◌, ◌++◌}
use Rattle.std.proofs.Math.Path.{sym, ap}
use Rattle.std.proofs.Common.{◌∙◌, append-nil, arith}
use Rattle.std.proofs.Math.ListN.{length, length-append}
use Rattle.std.proofs.Math.Seq.{sets}
use Rattle.rules.specs.Limits.{VARIABLES, DEFS, GOALS, FACTS, ENTRIES}
use Rattle.rules.specs.Find.{change}
use Rattle.rules.specs.Tree.{count_trees}
use Rattle.rules.specs.Store.{Made}
use Rattle.rules.specs.State.{State, Var, Def, Goal, Fact, Counts, goal_entries, all_entries, entries}
use Rattle.rules.specs.Forms.{with_vars, with_defs, with_goals, with_facts, taken_goal}
use Rattle.rules.specs.TheoryTables.{filled}
use Rattle.rules.specs.StateTables.{numbers, goal_list, fact_list, fact_cells}
use Rattle.rules.specs.Laws.Theory.{All, all_map, all_snoc}
use Rattle.rules.proofs.Laws.Appends.{Behind}
use Rattle.rules.specs.Laws.Entry.{change_length, change_all}
use Rattle.rules.specs.Laws.Sound.{sound}
use Rattle.rules.specs.Laws.Ready.{FactIn, GoalIn}
use Rattle.state.specs.declared.sizes.Sizes.{Sizes}
use Rattle.state.specs.Held.{VarsHeld, DefsHeld, Names, names, Spelling, Records, records, listed, Recorded}
use Rattle.state.specs.Used.{vars_now, defs_now, goals_now, facts_now}
use Rattle.state.specs.Filled.{filled_more}
use Rattle.state.specs.Numbered.{in_sound, length_numbers}
use Rattle.state.specs.RowTables.{length_one_more}
use Rattle.state.specs.Entries.{goal_list_snoc}
use Rattle.state.specs.FactLaws.{length_listed, entries_fit}

-- What names stand for ------------------------------------------------------------------------------------------------------------

module _ {K : Names} {n : Sizes} {M : Made} {S : State} (h : Spelling K n M S) where
  pub spelling_vars : {vars : List ℕ} {us : List Var} (k : ℕ) → VarsHeld K.goals K.text vars k us →
      Spelling (names K.theory K.goals K.text K.symbols K.inputs vars K.defs) (vars_now n k) M (with_vars S us)
  spelling_vars k v =
      record {
        formed = h.formed;
        held = h.held;
        symbols = h.symbols;
        vars = v;
        defs = h.defs;
        trees = record { good = h.trees.good; defs = h.trees.defs; goals = h.trees.goals; facts = h.trees.facts };
        short = h.short;
      }

  pub spelling_defs : {defs : List ℕ} {ds : List Def} (k : ℕ) → DefsHeld K.text defs k M ds →
      Spelling (names K.theory K.goals K.text K.symbols K.inputs K.vars defs) (defs_now n k) M (with_defs S ds)
  spelling_defs k d =
      record {
        formed = h.formed;
        held = h.held;
        symbols = h.symbols;
        vars = h.vars;
        defs = d;
        trees = record {
          good = h.trees.good;
          defs = all_map (λ x i. in_sound M x.term i) d.terms;
          goals = h.trees.goals;
          facts = h.trees.facts;
        };
        short = h.short;
      }

  pub spelling_goals : {gs : List Goal} (k e : ℕ) → All (GoalIn sound M) gs → Spelling K (goals_now n k e) M (with_goals S gs)
  spelling_goals k e a =
      record {
        formed = h.formed;
        held = h.held;
        symbols = h.symbols;
        vars = h.vars;
        defs = h.defs;
        trees = record { good = h.trees.good; defs = h.trees.defs; goals = a; facts = h.trees.facts };
        short = h.short;
      }

  pub spelling_facts : {fs : List Fact} (k e : ℕ) (c : Counts) → All (FactIn sound M) fs → Spelling K (facts_now n k e) M (with_facts S fs c)
  spelling_facts k e c a =
      record {
        formed = h.formed;
        held = h.held;
        symbols = h.symbols;
        vars = h.vars;
        defs = h.defs;
        trees = record { good = h.trees.good; defs = h.trees.defs; goals = h.trees.goals; facts = a };
        short = h.short;
      }

-- Entries of goals ------------------------------------------------------------------------------------------------------------------

-- these two are private laws of `rules` too, which stays as it is
goals_snoc : (gs : List Goal) (g : Goal) → goal_entries (gs ++ (g ∷ [])) ≡ goal_entries gs + count_trees g.hyps
unfolding goal_entries
goals_snoc [] g = omega arith
goals_snoc (x ∷ gs) g = omega (arith, goals_snoc gs g)

taken_entries : (gs : List Goal) (k : ℕ) → goal_entries (change gs k taken_goal) ≡ goal_entries gs
unfolding change goal_entries
taken_entries [] k = refl
taken_entries (g ∷ gs) zero = refl
taken_entries (g ∷ gs) (suc k) = ap (λ e. count_trees g.hyps + e) (taken_entries gs k)

taken_list : (M : Made) (gs : List Goal) (k : ℕ) → goal_list M (change gs k taken_goal) ≡ goal_list M gs
unfolding change goal_list
taken_list M [] k = refl
taken_list M (g ∷ gs) zero = refl
taken_list M (g ∷ gs) (suc k) = ap (λ l. numbers M g.hyps ++ l) (taken_list M gs k)

-- What is recorded ------------------------------------------------------------------------------------------------------------------

module _ {R : Records} {n : Sizes} {M : Made} {S : State} (h : Recorded R n M S) where
  pub recorded_vars : {us : List Var} (k : ℕ) → Behind S.vars us → length us ≤ VARIABLES → Recorded R (vars_now n k) M (with_vars S us)
  unfolding entries
  recorded_vars {us} k b l =
      record {
        many = h.many;
        used = h.used;
        facts = h.facts;
        footings = h.footings;
        lists = h.lists;
        rows = record { row7 = l; row10 = h.rows.row10; row11 = h.rows.row11; row12 = h.rows.row12; row13 = h.rows.row13 };
        trees = record { good = h.trees.good; defs = h.trees.defs; goals = h.trees.goals; facts = h.trees.facts };
        shaped = h.shaped;
        general = all_map (λ f a. all_map (λ v m. omega (arith, length-append S.vars b.new, ap length b.is)) a) h.general;
        rules = h.rules;
      }

  pub recorded_defs : {ds : List Def} (k : ℕ) → length ds ≤ DEFS → All (λ d. sound.Has M d.term) ds → Recorded R (defs_now n k) M (with_defs S ds)
  unfolding entries
  recorded_defs {ds} k l a =
      record {
        many = h.many;
        used = h.used;
        facts = h.facts;
        footings = h.footings;
        lists = h.lists;
        rows = record { row7 = h.rows.row7; row10 = l; row11 = h.rows.row11; row12 = h.rows.row12; row13 = h.rows.row13 };
        trees = record { good = h.trees.good; defs = a; goals = h.trees.goals; facts = h.trees.facts };
        shaped = h.shaped;
        general = h.general;
        rules = h.rules;
      }

  -- a goal more, while there are no facts: its hypotheses come behind the entries
  pub recorded_goal : (g : Goal) (e : ℕ) → S.facts ≡ [] → length S.goals < GOALS → e ≡ n.entries + count_trees g.hyps → e ≤ ENTRIES → GoalIn sound M g →
      Recorded (records R.facts R.footings (sets R.lists n.entries (numbers M g.hyps))) (goals_now n (n.goals + 1) e) M
      (with_goals S (S.goals ++ (g ∷ [])))
  unfolding entries all_entries fact_cells fact_list
  recorded_goal g e z l q m i =
      let none_yet = ap all_entries z in
      let s = goals_snoc S.goals g in
      let w = length_numbers M g.hyps in
      let k = length_listed h in
      record {
        many = h.many;
        used = q ∙ (let y : n.entries + count_trees g.hyps ≡ goal_entries (S.goals ++ (g ∷ [])) + all_entries S.facts = omega (arith, h.used) in y);
        facts = h.facts
            ∙ ap (λ fs. filled (6 * FACTS) (fact_cells M (goal_entries S.goals) fs)) z
            ∙ sym (ap (λ fs. filled (6 * FACTS) (fact_cells M (goal_entries (S.goals ++ (g ∷ []))) fs)) z);
        footings = h.footings;
        lists = ap (λ l. sets l n.entries (numbers M g.hyps)) h.lists
            ∙ filled_more ENTRIES (listed M S) (omega (arith, entries_fit h)) n.entries (numbers M g.hyps) (sym k) (omega arith)
            ∙ ap (filled ENTRIES) (ap (λ fs. (goal_list M S.goals ++ fact_list M fs) ++ numbers M g.hyps) z
            ∙ ap (λ l. l ++ numbers M g.hyps) (append-nil (goal_list M S.goals)) ∙ sym (goal_list_snoc M S.goals g)
            ∙ sym (append-nil (goal_list M (S.goals ++ (g ∷ [])))) ∙ sym (ap (λ fs. goal_list M (S.goals ++ (g ∷ [])) ++ fact_list M fs) z));
        rows = record {
          row7 = h.rows.row7;
          row10 = h.rows.row10;
          row11 = omega (arith, length_one_more S.goals g);
          row12 = h.rows.row12;
          row13 = omega (arith, h.used);
        };
        trees = record { good = h.trees.good; defs = h.trees.defs; goals = all_snoc h.trees.goals i; facts = h.trees.facts };
        shaped = h.shaped;
        general = h.general;
        rules = h.rules;
      }

  -- a goal that is taken
  pub recorded_taken : (k : ℕ) → Recorded R n M (with_goals S (change S.goals k taken_goal))
  unfolding entries
  recorded_taken k =
      let e = taken_entries S.goals k in
      record {
        many = h.many;
        used = h.used ∙ ap (λ j. j + all_entries S.facts) (sym e);
        facts = h.facts ∙ ap (λ j. filled (6 * FACTS) (fact_cells M j S.facts)) (sym e);
        footings = h.footings;
        lists = h.lists ∙ ap (λ l. filled ENTRIES (l ++ fact_list M S.facts)) (sym (taken_list M S.goals k));
        rows = record {
          row7 = h.rows.row7;
          row10 = h.rows.row10;
          row11 = omega (arith, h.rows.row11, change_length S.goals k taken_goal);
          row12 = h.rows.row12;
          row13 = omega (arith, h.rows.row13);
        };
        trees = record {
          good = h.trees.good;
          defs = h.trees.defs;
          goals = change_all S.goals k taken_goal (λ g i. record { judgment = i.judgment; hyps = i.hyps }) h.trees.goals;
          facts = h.trees.facts;
        };
        shaped = h.shaped;
        general = h.general;
        rules = h.rules;
      }
