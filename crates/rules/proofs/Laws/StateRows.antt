-- Rows 7 and 10 to 13 of question 60 hold in every state that a check reaches (rows 8 and 9: Laws/Made). A form that stored without its
-- question, or put it to another list, would be caught here. Assumes nothing.
use Rattle.std.specs.Prelude.{ℕ, zero, suc, ◌+◌, ◌≤◌, ◌≡◌, refl, List, [], ◌∷◌, ◌++◌, length}
use Rattle.std.proofs.Common.{ap, arith, length-append}
use Rattle.rules.specs.Limits.{VARIABLES, DEFS, GOALS, FACTS, ENTRIES}
use Rattle.rules.specs.Find.{change}
use Rattle.rules.specs.Sexp.{Sexp}
use Rattle.rules.specs.Tree.{count_trees}
use Rattle.rules.specs.Theory.{Theory}
use Rattle.rules.specs.State.{State, Goal, Fact, Counts, begin, goal_entries, fact_entries, all_entries, entries}
use Rattle.rules.specs.Forms.{take_goal, take_form, taken_goal}
use Rattle.rules.specs.Check.{check}
use Rattle.rules.specs.Laws.Out.{Ok, weaken}
use Rattle.rules.specs.Laws.Entry.{change_length}
use Rattle.rules.proofs.Laws.Form.{Posed, posed_var, posed_goal, Taken, new_var, new_def, new_fact, got_result, take_goal_takes, take_form_takes}
use Rattle.rules.proofs.Laws.Appends.{anything, ready_any}
use Rattle.rules.specs.Laws.Reached.{check_reaches}

pub record Rows (S : State) : Type 0 where
  pub row7 : length S.vars ≤ VARIABLES
  pub row10 : length S.defs ≤ DEFS
  pub row11 : length S.goals ≤ GOALS
  pub row12 : length S.facts ≤ FACTS
  pub row13 : entries S ≤ ENTRIES

-- One entry more --------------------------------------------------------------------------------------------------------------------

goal_entries_snoc : (gs : List Goal) (g : Goal) → goal_entries (gs ++ (g ∷ [])) ≡ goal_entries gs + count_trees g.hyps
unfolding goal_entries
goal_entries_snoc [] g = omega arith
goal_entries_snoc (h ∷ gs) g = omega (arith, goal_entries_snoc gs g)

all_entries_snoc : (fs : List Fact) (f : Fact) → all_entries (fs ++ (f ∷ [])) ≡ all_entries fs + fact_entries f
unfolding all_entries
all_entries_snoc [] f = omega arith
all_entries_snoc (g ∷ fs) f = omega (arith, all_entries_snoc fs f)

-- a goal that is taken keeps its entries
change_entries : (gs : List Goal) (k : ℕ) → goal_entries (change gs k taken_goal) ≡ goal_entries gs
unfolding change goal_entries
change_entries [] k = refl
change_entries (g ∷ gs) zero = refl
change_entries (g ∷ gs) (suc k) = ap (λ n. count_trees g.hyps + n) (change_entries gs k)

-- Reached states ----------------------------------------------------------------------------------------------------------------------

begins_rows : (T : Theory) → Rows (begin T)
unfolding entries goal_entries all_entries
begins_rows T = record { row7 = omega arith; row10 = omega arith; row11 = omega arith; row12 = omega arith; row13 = omega arith }

posed_rows : {S U : State} → Rows S → Posed anything S U → Rows U
unfolding entries
posed_rows {S} h (posed_var v l) =
    record { row7 = omega (arith, length-append S.vars (v ∷ [])); row10 = h.row10; row11 = h.row11; row12 = h.row12; row13 = h.row13 }
posed_rows {S} h (posed_goal m g k i l r) =
    record {
      row7 = h.row7;
      row10 = h.row10;
      row11 = omega (arith, length-append S.goals (g ∷ []));
      row12 = h.row12;
      row13 = omega (arith, r, goal_entries_snoc S.goals g);
    }

taken_rows : {S : State} {c : Counts} {U : State} → Rows S → Taken anything S c U → Rows U
unfolding entries
taken_rows {S} h (new_var v l) =
    record { row7 = omega (arith, length-append S.vars (v ∷ [])); row10 = h.row10; row11 = h.row11; row12 = h.row12; row13 = h.row13 }
taken_rows {S} h (new_def m d g p l) =
    record { row7 = h.row7; row10 = omega (arith, length-append S.defs (d ∷ [])); row11 = h.row11; row12 = h.row12; row13 = h.row13 }
taken_rows {S} h (new_fact vs m f c l g p n k r) =
    record {
      row7 = l.row h.row7;
      row10 = h.row10;
      row11 = h.row11;
      row12 = omega (arith, length-append S.facts (f ∷ []));
      row13 = omega (arith, r, all_entries_snoc S.facts f);
    }
taken_rows {S} h (got_result m k d g e t) =
    record {
      row7 = h.row7;
      row10 = h.row10;
      row11 = omega (arith, h.row11, change_length S.goals k taken_goal);
      row12 = h.row12;
      row13 = omega (arith, h.row13, change_entries S.goals k);
    }

pub take_goal_rows : (x : Sexp) (S : State) → Rows S → Ok (λ a U. Rows U) (take_goal x S)
take_goal_rows x S h = weaken (take_goal_takes x S (ready_any S S.made)) (λ a U p. posed_rows h p)

pub take_form_rows : (x : Sexp) (S : State) → Rows S → Ok (λ a U. Rows U) (take_form x S)
take_form_rows x S h = weaken (take_form_takes x S (ready_any S S.made)) (λ a U p. taken_rows h p)

pub rows : (t g f : List ℕ) → Rows (check t g f).state
rows = check_reaches Rows begins_rows take_goal_rows take_form_rows
