-- Trees are made behind those that there are: the tables stand as they are for the same abbreviations, goals and facts, whose trees keep their
-- numbers. Assumes nothing.
use Rattle.std.specs.Prelude.{◌≡◌, ℕ, ◌+◌, ◌*◌}
use Rattle.std.proofs.Math.Path.{refl}
use Rattle.std.proofs.Common.{sym, ap, ◌∙◌, arith}
use mathlib.Core.List.{List, [], ◌∷◌, ◌++◌}
use Rattle.std.proofs.Math.ListN.{length}
use Rattle.rules.specs.Limits.{DEFS, GOALS, FACTS, ENTRIES}
use Rattle.rules.specs.Out.{Out, ok, refuse}
use Rattle.rules.specs.Tree.{Tree, count_trees}
use Rattle.rules.specs.Store.{Made}
use Rattle.rules.specs.State.{State, Def, Goal, Fact, goal_entries, fact_entries, entries}
use Rattle.rules.specs.Forms.{with_made}
use Rattle.rules.specs.TheoryTables.{filled, name_cells}
use Rattle.rules.specs.StateTables.{def_cells, goal_cells, fact_cells, goal_list, fact_list, bit}
use Rattle.rules.specs.Laws.Theory.{All, both, all_map}
use Rattle.rules.specs.Laws.Keeping.{Invariant, Grows, Keeps, fine, off}
use Rattle.rules.specs.Laws.Sound.{In, sound, in_front}
use Rattle.rules.proofs.Laws.ReadWalk.{ready_on}
use Rattle.rules.specs.Laws.Ready.{FactIn, GoalIn}
use Rattle.state.specs.declared.sizes.Sizes.{Sizes}
use Rattle.state.specs.Held.{DefsHeld, GoalsHeld, Names, Spelling, Records, Recorded}
use Rattle.state.specs.Numbered.{sound_in, number_on, numbers_on}

-- What an action has made ----------------------------------------------------------------------------------------------------------

-- by the laws of the definition, as `term_keeps`, and the answer that a contract gives
pub grows_ok : {K : Invariant} {M U : Made} {A : Type 0} {P : A → Made → Type 0} {o : Out Made A} {a : A} → Keeps K M P o → o ≡ ok a U → Grows K M U × P a U
grows_ok {U = U} {a = a} (fine {a = b} {u = w} g p) e =
    let q : b ≡ a = cc in
    let r : w ≡ U = cc in
    (rw r at g, rw (q, r) at p)
grows_ok (off g) e = absurd (let z : ◌≡◌ {A = ℕ} 0 1 = cc in omega arith)

pub grows_refuse : {K : Invariant} {M U : Made} {A : Type 0} {P : A → Made → Type 0} {o : Out Made A} {n d : ℕ} → Keeps K M P o → o ≡ refuse n d U →
    Grows K M U
grows_refuse (fine g p) e = absurd (let z : ◌≡◌ {A = ℕ} 0 1 = cc in omega arith)
grows_refuse {U = U} (off {u = w} g) e = let r : w ≡ U = cc in rw r at g

module _ {M U : Made} (g : Grows sound M U) where
  in_on : (t : Tree) → In t M → In t U
  in_on t i = rw g.is (in_front M g.new t i)

  -- Cells --------------------------------------------------------------------------------------------------------------------------

  def_cells_on : (ds : List Def) → All (λ d. In d.term M) ds → def_cells U ds ≡ def_cells M ds
  unfolding def_cells
  def_cells_on [] a = refl
  def_cells_on (d ∷ ds) (both p a) = λ i. (name_cells d.name ++ (number_on g d.term p i ∷ [])) ++ def_cells_on ds a i

  goal_cells_on : (at : ℕ) (gs : List Goal) → All (GoalIn sound M) gs → goal_cells U at gs ≡ goal_cells M at gs
  unfolding goal_cells
  goal_cells_on at [] a = refl
  goal_cells_on at (x ∷ gs) (both p a) = λ i.
      (name_cells x.name ++ (number_on g x.judgment (sound_in M x.judgment p.judgment) i ∷ at ∷ count_trees x.hyps ∷ bit x.taken ∷ []))
      ++ goal_cells_on (at + count_trees x.hyps) gs a i

  fact_cells_on : (at : ℕ) (fs : List Fact) → All (FactIn sound M) fs → fact_cells U at fs ≡ fact_cells M at fs
  unfolding fact_cells
  fact_cells_on at [] a = refl
  fact_cells_on at (f ∷ fs) (both p a) = λ i.
      (number_on g f.judgment (sound_in M f.judgment p.judgment) i ∷ bit f.assumed ∷ at ∷ length f.hyps ∷ count_trees f.premises
      ∷ length f.general ∷ []) ++ fact_cells_on (at + fact_entries f) fs a i

  goal_list_on : (gs : List Goal) → All (GoalIn sound M) gs → goal_list U gs ≡ goal_list M gs
  unfolding goal_list
  goal_list_on [] a = refl
  goal_list_on (x ∷ gs) (both p a) = λ i. numbers_on g x.hyps p.hyps i ++ goal_list_on gs a i

  fact_list_on : (fs : List Fact) → All (FactIn sound M) fs → fact_list U fs ≡ fact_list M fs
  unfolding fact_list
  fact_list_on [] a = refl
  fact_list_on (f ∷ fs) (both p a) = λ i. (f.hyps ++ numbers_on g f.premises p.premises i ++ f.general) ++ fact_list_on fs a i

  -- Tables -------------------------------------------------------------------------------------------------------------------------

  pub defs_on : {text defs : List ℕ} {count : ℕ} {ds : List Def} → DefsHeld text defs count M ds → DefsHeld text defs count U ds
  defs_on {ds = ds} h =
      record {
        many = h.many;
        few = h.few;
        cells = h.cells ∙ ap (filled (3 * DEFS)) (sym (def_cells_on ds h.terms));
        names = h.names;
        terms = all_map (λ d i. in_on d.term i) h.terms;
      }

  pub goals_on : {text rows : List ℕ} {count : ℕ} {gs : List Goal} → All (GoalIn sound M) gs → GoalsHeld text rows count M gs →
      GoalsHeld text rows count U gs
  goals_on {gs = gs} a h =
      record { many = h.many; few = h.few; cells = h.cells ∙ ap (filled (6 * GOALS)) (sym (goal_cells_on 0 gs a)); names = h.names }

  pub spelling_on : {K : Names} {n : Sizes} {S : State} → Spelling K n M S → Spelling K n U S
  spelling_on h =
      record {
        formed = h.formed;
        held = h.held;
        symbols = h.symbols;
        vars = h.vars;
        defs = defs_on h.defs;
        trees = ready_on h.trees g;
        short = h.short;
      }

  pub recorded_on : {R : Records} {n : Sizes} {S : State} → Recorded R n M S → Recorded R n U S
  recorded_on {R} {n} {S} h =
      record {
        many = h.many;
        used = h.used;
        facts = h.facts ∙ ap (filled (6 * FACTS)) (sym (fact_cells_on (goal_entries S.goals) S.facts h.trees.facts));
        footings = h.footings;
        lists = h.lists ∙ ap (filled ENTRIES) (λ i. sym (goal_list_on S.goals h.trees.goals) i ++ sym (fact_list_on S.facts h.trees.facts) i);
        rows = h.rows;
        trees = ready_on h.trees g;
        shaped = h.shaped;
        general = h.general;
        rules = h.rules;
      }

-- The state that has these trees -----------------------------------------------------------------------------------------------------

module _ {M : Made} (U : Made) {n : Sizes} {S : State} where
  pub spelling_made : {K : Names} → Spelling K n M S → Spelling K n M (with_made S U)
  spelling_made h =
      record {
        formed = h.formed;
        held = h.held;
        symbols = h.symbols;
        vars = h.vars;
        defs = h.defs;
        trees = record { good = h.trees.good; defs = h.trees.defs; goals = h.trees.goals; facts = h.trees.facts };
        short = h.short;
      }

  pub recorded_made : {R : Records} → Recorded R n M S → Recorded R n M (with_made S U)
  unfolding entries
  recorded_made h =
      record {
        many = h.many;
        used = h.used;
        facts = h.facts;
        footings = h.footings;
        lists = h.lists;
        rows = record { row7 = h.rows.row7; row10 = h.rows.row10; row11 = h.rows.row11; row12 = h.rows.row12; row13 = h.rows.row13 };
        trees = record { good = h.trees.good; defs = h.trees.defs; goals = h.trees.goals; facts = h.trees.facts };
        shaped = h.shaped;
        general = h.general;
        rules = h.rules;
      }
