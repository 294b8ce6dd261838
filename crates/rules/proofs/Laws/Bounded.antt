-- In every state that a check reaches, whatever the texts, every variable of every made tree, abbreviation, goal and fact is below the number
-- of variables; each form that is taken keeps this, and BelowRead and BelowCases have it of each action of a form. A form that made a tree
-- over a variable which is not there, or forgot the variables that `invert` makes, would be caught here. Unification counts its steps by
-- that number, so that it ends for no other reason than the trees. Assumes nothing.
use Rattle.std.specs.Prelude.{ℕ, ◌+◌, ◌≤◌, ◌<◌, ◌≡◌, refl, ◌&&◌, not, List, [], ◌∷◌, ◌++◌, ltb, length}
use Rattle.std.proofs.Common.{subst, sym, inl, inr, arith, length-append}
use Rattle.std.proofs.Math.Dec.{leb}
use Rattle.rules.specs.Limits.{VARIABLES, DEFS, GOALS, FACTS, ENTRIES}
use Rattle.rules.specs.Out.{Out, ok, refuse, then, Act}
use Rattle.rules.specs.Sexp.{Sexp, Sexps, Text, count, item, marked}
use Rattle.rules.specs.Tags.{Tag, a_var, a_def, a_step, a_hyp, a_rule_hyp, an_induct, an_induct_with, an_apply, an_invert, a_result, proof_tag, GoalForm, a_variable, a_goal, a_goal_with, goal_form}
use Rattle.rules.specs.Find.{entry, all, change}
use Rattle.rules.specs.Tree.{Tree, Trees, none, more, same_tree, count_trees}
use Rattle.rules.specs.Store.{Made}
use Rattle.rules.specs.Theory.{Theory}
use Rattle.rules.specs.Declare.{is_new}
use Rattle.rules.specs.State.{State, Var, Def, Goal, Fact, Counts, no_counts, begin, abbreviated, goal_named, fact_entries, entries}
use Rattle.rules.specs.Read.{term, judgment, judgments}
use Rattle.rules.specs.Reference.{reference}
use Rattle.rules.specs.Step.{step}
use Rattle.rules.specs.Apply.{apply}
use Rattle.rules.specs.Induct.{induct, induct_with}
use Rattle.rules.specs.Invert.{invert}
use Rattle.rules.specs.Loop.{through, whole}
use Rattle.rules.specs.Forms.{with_made, with_vars, with_defs, with_goals, making, add_def, add_goal, goal, take_goal, add_fact, one_hypothesis, one_induction, one_inversion}
use Rattle.rules.specs.Forms.{some_instances, add_hyp, add_rule_hyp, add_step, add_apply, add_induct, add_induct_with, add_invert, listed, taken_goal, result, perform, take_form}
use Rattle.rules.specs.Check.{check}
use Rattle.rules.specs.Laws.Out.{Ok, fine, off, by_name, by_items, by_ask, by_room, by_found}
use Rattle.rules.specs.Laws.Theory.{empty, both, all_snoc, all_map, WellFormed}
use Rattle.rules.specs.Laws.Entry.{change_all}
use Rattle.rules.specs.Laws.Keeping.{Each}
use Rattle.rules.proofs.Laws.Still.{vars_list_still}
use Rattle.rules.specs.Laws.Ready.{Ready}
use Rattle.rules.specs.Laws.Sound.{In, sound}
use Rattle.rules.proofs.Laws.CaseWalk.{Longer, same_vars}
use Rattle.rules.proofs.Laws.Form.{grown, entries_so_far, go_on, from_still, next_still, add_var_takes}
use Rattle.rules.proofs.Laws.Appends.{take_goal_appends, take_form_appends}
use Rattle.rules.specs.Laws.Reached.{end_of, through_reaches, whole_reaches, check_reaches_formed}
use Rattle.rules.proofs.Laws.Below.{Below, Belows, MadeBelow, Leaves, made_up}
use Rattle.rules.proofs.Laws.Below as below
use Rattle.rules.proofs.Laws.BelowRead.{FactBelow, GoalBelow, StateBelow, state_up, term_below, judgment_below, judgments_below, reference_below, step_below, apply_below}
use Rattle.rules.proofs.Laws.BelowCases.{longer_length, induct_below, induct_with_below, invert_below}

-- n: the number of the state's variables
pub record BoundedState (S : State) : Type 0 where
  pub row7 : length S.vars ≤ VARIABLES
  pub made : MadeBelow (length S.vars) S.made
  pub trees : StateBelow (length S.vars) S

-- Trees among the made ones ---------------------------------------------------------------------------------------------------------

pub made_in : (n : ℕ) (m : Made) (t : Tree) → MadeBelow n m → In t m → Below n t
unfolding In
made_in n [] t h i = absurd i
made_in n (u ∷ m) t (both p h) (inl e) = subst (Below n) (sym e) p
made_in n (u ∷ m) t (both p h) (inr i) = made_in n m t h i

each_in : (n : ℕ) (m : Made) (ts : Trees) → MadeBelow n m → Each (λ t. In t m) ts → Belows n ts
unfolding Each Below
each_in n m none h i = tt
each_in n m (more t ts) h i = (made_in n m t h i.0, each_in n m ts h i.1)

-- a state whose trees are among the made ones
pub ready_below : (n : ℕ) (S : State) (m : Made) → Ready sound S m → length S.vars ≤ n → MadeBelow n m → StateBelow n S
unfolding sound
ready_below n S m r l h = record {
  vars = l;
  defs = all_map (λ d i. made_in n m d.term h i) r.defs;
  goals = all_map (λ g i. record { judgment = made_in n m g.judgment h i.judgment; hyps = each_in n m g.hyps h i.hyps }) r.goals;
  facts = all_map (λ f i. record { judgment = made_in n m f.judgment h i.judgment; premises = each_in n m f.premises h i.premises }) r.facts;
}

-- The state with one part anew --------------------------------------------------------------------------------------------------------

more_vars : (S : State) (vs : List Var) (m : Made) → Longer S.vars vs → BoundedState S → MadeBelow (length vs) m → BoundedState (grown S vs m)
more_vars S vs m l h g =
    let up = state_up (length S.vars) (length vs) (longer_length l) S h.trees in
    record { row7 = l.row h.row7; made = g; trees = record { vars = omega arith; defs = up.defs; goals = up.goals; facts = up.facts } }

one_var : (S : State) (v : Var) → length S.vars < VARIABLES → BoundedState S → BoundedState (with_vars S (S.vars ++ (v ∷ [])))
one_var S v l h =
    more_vars S (S.vars ++ (v ∷ [])) S.made longer h (made_up (length S.vars) (length (S.vars ++ (v ∷ []))) (longer_length longer) S.made h.made)
  where
    longer : Longer S.vars (S.vars ++ (v ∷ []))
    longer = record { new = v ∷ []; is = refl; row = λ k. omega (arith, length-append S.vars (v ∷ [])) }

module _ (S : State) (h : BoundedState S) (m : Made) (g : MadeBelow (length S.vars) m) where
  one_def : (d : Def) → Below (length S.vars) d.term → BoundedState (with_defs (with_made S m) (S.defs ++ (d ∷ [])))
  one_def d p =
      let t = h.trees in
      record { row7 = h.row7; made = g; trees = record { vars = t.vars; defs = all_snoc t.defs p; goals = t.goals; facts = t.facts } }

  one_goal : (x : Goal) → GoalBelow (length S.vars) x → BoundedState (with_goals (with_made S m) (S.goals ++ (x ∷ [])))
  one_goal x p =
      let t = h.trees in
      record { row7 = h.row7; made = g; trees = record { vars = t.vars; defs = t.defs; goals = all_snoc t.goals p; facts = t.facts } }

  one_result : (k : ℕ) → BoundedState (with_goals (with_made S m) (change S.goals k taken_goal))
  one_result k =
      let t = h.trees in
      record {
        row7 = h.row7;
        made = g;
        trees = record {
          vars = t.vars;
          defs = t.defs;
          goals = change_all S.goals k taken_goal (λ x p. record { judgment = p.judgment; hyps = p.hyps }) t.goals;
          facts = t.facts;
        };
      }

-- Forms -------------------------------------------------------------------------------------------------------------------------------

abbrev Keeps : Out State (Unit {0}) → Type 0
Keeps o = Ok (λ a U. BoundedState U) o

module _ {A B : Type 0} {P : B → State → Type 0} {Q : A → Made → Type 0} {R : Made → Type 0} where
  told_making : (T : State) (f : A → State → Out State B) (o : Out Made A) → Leaves Q R o → ((a : A) (u : Made) → Q a u → Ok P (f a (with_made T u)))
      → Ok P (then (elim o [ ok a u ↦ ok a (with_made T u) | refuse n d u ↦ refuse n d (with_made T u) ]) f)
  unfolding then
  told_making T f (ok a u) (below.fine q) k = k a u q
  told_making T f (refuse n d u) (below.off r) k = off

  -- an action on the made trees
  by_making : (act : Act Made A) (T : State) (f : A → State → Out State B) → Leaves Q R (act T.made)
      → ((a : A) (u : Made) → Q a u → Ok P (f a (with_made T u))) → Ok P (then (making act T) f)
  unfolding making
  by_making act T f h k = told_making T f (act T.made) h k

add_fact_bounded : (f : Fact) (c : Counts) (S : State) → BoundedState S → FactBelow (length S.vars) f → Keeps (add_fact f c S)
unfolding add_fact
add_fact_bounded f c S h p =
    let t = h.trees in
    go_on _ (by_room 12 (ltb (length S.facts) FACTS) S _ λ e. by_room 13 (leb (entries S + fact_entries f) ENTRIES) S _ λ d.
    fine (record { row7 = h.row7; made = h.made; trees = record { vars = t.vars; defs = t.defs; goals = t.goals; facts = all_snoc t.facts p } }))

module _ (S : State) (h : BoundedState S) where
  abbrev n : ℕ
  n = length S.vars

  -- behind an action that made these trees
  new_made : (m : Made) → MadeBelow (length S.vars) m → BoundedState (with_made S m)
  new_made m g = more_vars S S.vars m (same_vars S.vars) h g

  add_def_bounded : (xs : Sexps) → Keeps (add_def xs S)
  unfolding add_def
  add_def_bounded xs =
      go_on _ (by_name 33 (item xs 1) S _ λ a e. by_ask 33 (marked a.bytes && leb 2 (length a.bytes)) S _ λ e.
      by_making (term S (item xs 2)) S _ (term_below n S h.trees (item xs 2) S.made h.made) λ t u p.
      by_ask 33 (is_new (abbreviated S.defs a.bytes)) _ _ λ e. by_room 10 (ltb (length S.defs) DEFS) _ _ λ e.
      go_on _ (fine (one_def S h u p.0 _ p.1)))

  add_goal_bounded : (x : Sexp) (hs : Trees) (j : Tree) (m : Made) → MadeBelow n m → Belows n hs → Below n j → Keeps (add_goal x hs j (with_made S m))
  unfolding add_goal entries
  add_goal_bounded x hs j m g p q =
      go_on _ (by_name 24 x _ _ λ a e. by_ask 24 (is_new (goal_named S.goals a.bytes)) _ _ λ e.
      by_room 11 (ltb (length S.goals) GOALS) _ _ λ e. by_room 13 (leb (entries_so_far S + count_trees hs) ENTRIES) _ _ λ f.
      fine (one_goal S h m g _ (record { judgment = q; hyps = p })))

  goal_bounded : (t : GoalForm) (xs : Sexps) → Keeps (goal t xs S)
  unfolding goal Below
  goal_bounded a_variable xs = add_var_takes 2 xs S (λ v l. one_var S v l h)
  goal_bounded a_goal xs =
      go_on _ (by_making (judgment S (item xs 2)) S _ (judgment_below n S h.trees (item xs 2) S.made h.made) λ j u p.
      add_goal_bounded (item xs 1) none j u p.0 tt p.1)
  goal_bounded a_goal_with xs =
      go_on _ (by_making (judgments S (item xs 2)) S _ (judgments_below n S h.trees (item xs 2) S.made h.made) λ hs u p.
      by_making (judgment S (item xs 3)) (with_made S u) _ (judgment_below n S h.trees (item xs 3) u p.0) λ j w q.
      add_goal_bounded (item xs 1) hs j w q.0 p.1 q.1)

  add_hyp_bounded : (xs : Sexps) → Keeps (add_hyp xs S)
  unfolding add_hyp Below
  add_hyp_bounded xs =
      go_on _ (by_making (judgment S (item xs 2)) S _ (judgment_below n S h.trees (item xs 2) S.made h.made) λ j u p.
      add_fact_bounded _ one_hypothesis (with_made S u) (new_made u p.0) (record { judgment = p.1; premises = tt }))

  add_rule_hyp_bounded : (xs : Sexps) → Keeps (add_rule_hyp xs S)
  unfolding add_rule_hyp
  add_rule_hyp_bounded xs =
      go_on _ (by_making (judgments S (item xs 2)) S _ (judgments_below n S h.trees (item xs 2) S.made h.made) λ ps u p.
      by_making (judgment S (item xs 3)) (with_made S u) _ (judgment_below n S h.trees (item xs 3) u p.0) λ j w q.
      from_still _ _ (vars_list_still 36 S (item xs 4)) λ vs e.
      add_fact_bounded _ one_hypothesis (with_made S w) (new_made w q.0) (record { judgment = q.1; premises = p.1 }))

  add_step_bounded : (xs : Sexps) → Keeps (add_step xs S)
  unfolding add_step
  add_step_bounded xs =
      go_on _ (by_making (step S xs) S _ (step_below n S h.trees xs S.made h.made) λ r u p.
      add_fact_bounded r.0 (some_instances r.1) (with_made S u) (new_made u p.0) p.1)

  add_apply_bounded : (xs : Sexps) → Keeps (add_apply xs S)
  unfolding add_apply
  add_apply_bounded xs =
      go_on _ (by_making (apply S xs) S _ (apply_below n S h.trees xs S.made h.made) λ f u p.
      add_fact_bounded f no_counts (with_made S u) (new_made u p.0) p.1)

  add_induct_bounded : (xs : Sexps) → Keeps (add_induct xs S)
  unfolding add_induct
  add_induct_bounded xs =
      go_on _ (by_making (induct S xs) S _ (induct_below n S h.trees xs S.made h.made) λ f u p.
      add_fact_bounded f one_induction (with_made S u) (new_made u p.0) p.1)

  add_induct_with_bounded : (xs : Sexps) → Keeps (add_induct_with xs S)
  unfolding add_induct_with
  add_induct_with_bounded xs =
      go_on _ (by_making (induct_with S xs) S _ (induct_with_below n S h.trees xs S.made h.made) λ f u p.
      add_fact_bounded f one_induction (with_made S u) (new_made u p.0) p.1)

  add_invert_bounded : WellFormed S.theory → (xs : Sexps) → Keeps (add_invert xs S)
  unfolding add_invert
  add_invert_bounded wf xs =
      go_on _ (by_making (invert S xs) S _ (invert_below S wf h.row7 h.trees xs S.made h.made) λ r u p.
      go_on _ (go_on _ (add_fact_bounded r.0 one_inversion (grown S r.1 u) (more_vars S r.1 u p.2 h p.0) p.1)))

  result_bounded : (xs : Sexps) → Keeps (result xs S)
  unfolding result
  result_bounded xs =
      go_on _ (by_name 50 (item xs 1) S _ λ a e. by_found 50 (goal_named S.goals a.bytes) S _ λ k e. by_found 50 (entry S.goals k) S _ λ d e.
      by_ask 50 (not d.taken) S _ λ e. by_making (reference S (item xs 2)) S _ (reference_below n S h.trees (item xs 2) S.made h.made) λ r u p.
      by_ask 51 (all (λ h. listed d.hyps (entry S.facts h)) r.hyps) _ _ λ e. by_ask 52 (same_tree r.judgment d.judgment) _ _ λ e.
      go_on _ (fine (one_result S h u p.0 k)))

  perform_bounded : WellFormed S.theory → (t : Tag) (xs : Sexps) → Keeps (perform t xs S)
  unfolding perform
  perform_bounded wf a_var xs = add_var_takes 3 xs S (λ v l. one_var S v l h)
  perform_bounded wf a_def xs = add_def_bounded xs
  perform_bounded wf a_step xs = from_still _ _ (next_still xs S) λ a e. add_step_bounded xs
  perform_bounded wf a_hyp xs = from_still _ _ (next_still xs S) λ a e. add_hyp_bounded xs
  perform_bounded wf a_rule_hyp xs = from_still _ _ (next_still xs S) λ a e. add_rule_hyp_bounded xs
  perform_bounded wf an_induct xs = from_still _ _ (next_still xs S) λ a e. add_induct_bounded xs
  perform_bounded wf an_induct_with xs = from_still _ _ (next_still xs S) λ a e. add_induct_with_bounded xs
  perform_bounded wf an_apply xs = from_still _ _ (next_still xs S) λ a e. add_apply_bounded xs
  perform_bounded wf an_invert xs = from_still _ _ (next_still xs S) λ a e. add_invert_bounded wf xs
  perform_bounded wf a_result xs = result_bounded xs

-- Reached states ------------------------------------------------------------------------------------------------------------------------

-- a form of the goals that is taken
pub take_goal_bounded : (x : Sexp) (S : State) → BoundedState S → Ok (λ a U. BoundedState U) (take_goal x S)
unfolding take_goal
take_goal_bounded x S h =
    by_items 20 x S _ λ xs e. by_name 20 (item xs 0) S _ λ a e. by_found 20 (goal_form a.bytes (count xs)) S _ λ t e. goal_bounded S h t xs

-- a form of the proof that is taken
pub take_form_bounded : (x : Sexp) (S : State) → WellFormed S.theory → BoundedState S → Ok (λ a U. BoundedState U) (take_form x S)
unfolding take_form
take_form_bounded x S wf h =
    by_items 30 x S _ λ xs e. by_name 30 (item xs 0) S _ λ a e. by_found 30 (proof_tag a.bytes (count xs)) S _ λ t e. perform_bounded S h wf t xs

pub begins_bounded : (T : Theory) → BoundedState (begin T)
begins_bounded T = record { row7 = omega arith; made = empty; trees = record { vars = omega arith; defs = empty; goals = empty; facts = empty } }

-- the theory stays
pub record BoundedCheck (S : State) : Type 0 where
  pub theory : WellFormed S.theory
  pub bounded : BoundedState S

with_theory : (S : State) (o : Out State (Unit {0})) → WellFormed S.theory → ((U : State) → o ≡ ok tt U → U.theory ≡ S.theory)
    → Ok (λ a U. BoundedState U) o → Ok (λ a U. BoundedCheck U) o
with_theory S (ok a U) w e (fine h) = fine (record { theory = subst WellFormed (sym (e U refl)) w; bounded = h })
with_theory S (refuse n d U) w e off = off

pub take_goal_checked : (x : Sexp) (S : State) → BoundedCheck S → Ok (λ a U. BoundedCheck U) (take_goal x S)
take_goal_checked x S h =
    with_theory S (take_goal x S) h.theory (λ U e. (take_goal_appends x S U e).theory) (take_goal_bounded x S h.bounded)

pub take_form_checked : (x : Sexp) (S : State) → BoundedCheck S → Ok (λ a U. BoundedCheck U) (take_form x S)
take_form_checked x S h =
    with_theory S (take_form x S) h.theory (λ U e. (take_form_appends x S U e).theory) (take_form_bounded x S h.theory h.bounded)

-- behind goals and forms that are gone through, a refused one at the end included
pub goals_bounded : (T : Theory) → WellFormed T → (goals : Text) → BoundedCheck (end_of (whole take_goal goals (begin T)))
goals_bounded T w goals = whole_reaches BoundedCheck take_goal take_goal_checked goals (begin T) (record { theory = w; bounded = begins_bounded T })

pub forms_bounded : (S : State) → BoundedCheck S → (forms : Text) (k : ℕ) → BoundedCheck (end_of (through take_form forms k S))
forms_bounded S h forms k = through_reaches BoundedCheck take_form take_form_checked forms k S h

-- of the state that an answer is given in, whatever the answer
pub check_bounded : (t g f : List ℕ) → BoundedState (check t g f).state
check_bounded t g f =
    (check_reaches_formed BoundedCheck (λ T w. record { theory = w; bounded = begins_bounded T }) take_goal_checked take_form_checked t g f).bounded
