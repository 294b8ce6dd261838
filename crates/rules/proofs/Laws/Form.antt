-- What a form that is taken has done to the state, case by case: one new variable, abbreviation, goal or fact behind those there were, or a
-- result; trees are made behind the others. The theorems on reached states (Appends, Laws/Made, Laws/Count) go by these cases. Assumes nothing.
use Rattle.std.specs.Prelude.{ℕ, ◌+◌, ◌≤◌, ◌<◌, ◌≡◌, Bool, true, false, ◌&&◌, not, List, [], ◌∷◌, ◌++◌, eqb, ltb, length, Some as some}
use Rattle.std.proofs.Math.Path.{refl, subst}
use Rattle.std.proofs.Common.{sym, ltb-true, leb-true}
use Rattle.std.proofs.lemmas.Bool.{false≢true}
use Rattle.std.proofs.Math.Dec.{leb}
use Rattle.rules.specs.Limits.{VARIABLES, DEFS, GOALS, FACTS, ENTRIES}
use Rattle.rules.specs.Out.{Out, ok, refuse, then, Act, ask}
use Rattle.rules.specs.Sexp.{Sexp, Sexps, count, item, marked}
use Rattle.rules.specs.Tags.{Tag, a_var, a_def, a_step, a_hyp, a_rule_hyp, an_induct, an_induct_with, an_apply, an_invert, a_result, proof_tag, GoalForm, a_variable, a_goal, a_goal_with, goal_form}
use Rattle.rules.specs.Find.{entry, all, change}
use Rattle.rules.specs.Tree.{Tree, Trees, none, same_tree, count_trees}
use Rattle.rules.specs.Store.{Made}
use Rattle.rules.specs.Theory.{sort_named, constructor_named, predicate_named}
use Rattle.rules.specs.Declare.{is_new}
use Rattle.rules.specs.State.{State, Var, Def, Goal, Fact, Counts, no_counts, var_named, abbreviated, goal_named, goal_entries, fact_entries, all_entries, entries}
use Rattle.rules.specs.Read.{term, judgment, judgments}
use Rattle.rules.specs.Reference.{reference}
use Rattle.rules.specs.Step.{step}
use Rattle.rules.specs.Apply.{apply}
use Rattle.rules.specs.Induct.{induct, induct_with}
use Rattle.rules.specs.Invert.{invert}
use Rattle.rules.specs.Forms.{with_made, with_vars, with_defs, with_goals, with_facts, making, add_var, add_def, add_goal, goal, take_goal, plus, add_fact, hypothesis, one_hypothesis}
use Rattle.rules.specs.Forms.{one_induction, one_inversion, some_instances, add_hyp, add_rule_hyp, add_step, add_apply, add_induct, add_induct_with, add_invert, listed, taken_goal, result, next, perform, take_form}
use Rattle.rules.specs.Laws.Out.{Ok, fine, off, of_ok, by_name, by_items, by_ask, by_room, by_found}
use Rattle.rules.specs.Laws.Keeping.{Each, Invariant, Grows, each_on, Still, answers, refuses}
use Rattle.rules.specs.Laws.Keeping as keeping
use Rattle.rules.proofs.Laws.Still.{still_then, index_still, vars_list_still}
use Rattle.rules.proofs.Laws.ReadWalk.{ready_on, term_keeps, judgment_keeps, judgments_keeps, reference_keeps}
use Rattle.rules.specs.Laws.Ready.{FactIn, GoalIn, Ready}
use Rattle.rules.proofs.Laws.StepWalk.{step_keeps, apply_keeps}
use Rattle.rules.proofs.Laws.CaseWalk.{Longer, same_vars, induct_keeps, induct_with_keeps, invert_keeps}
use Rattle.rules.specs.Laws.Shape.{ShapedIn, DerivedIn, Shape, stated, derived, step_shape, apply_shape, induct_shape, induct_with_shape, invert_shape}
use Rattle.rules.specs.Laws.Tally.{counted, counted_form, counted_form_lem, brackets_in, step_counts}

-- What a form does ----------------------------------------------------------------------------------------------------------------

-- 1 for an assumed fact
unfoldable pub assumed_one : Fact → ℕ
assumed_one f = elim f.assumed [ true ↦ 1 | false ↦ 0 ]

-- entries of a state's lists
abbrev pub entries_so_far : State → ℕ
entries_so_far S = goal_entries S.goals + all_entries S.facts

-- a new fact over shaped ones
pub record NewFact (S : State) (f : Fact) (c : Counts) : Type 0 where
  pub shape : Shape (length S.theory.rules) S.facts f
  pub weighs : c.hypotheses ≡ assumed_one f

-- the state with further variables and trees
abbrev pub grown : State → List Var → Made → State
grown S vs m = record { theory = S.theory; vars = vs; made = m; defs = S.defs; goals = S.goals; facts = S.facts; counts = S.counts }

-- a form of the goals has led from state S to the state named last
pub data Posed (K : Invariant) (S : State) : State → Type 0 where
  posed_var : (v : Var) → length S.vars < VARIABLES → Posed K S (with_vars S (S.vars ++ (v ∷ [])))
  posed_goal : (m : Made) (g : Goal) → Grows K S.made m → GoalIn K m g → length S.goals < GOALS → entries_so_far S + count_trees g.hyps ≤ ENTRIES →
      Posed K S (with_goals (with_made S m) (S.goals ++ (g ∷ [])))

-- so has a form of the proof with these counts
pub data Taken (K : Invariant) (S : State) : Counts → State → Type 0 where
  new_var : (v : Var) → length S.vars < VARIABLES → Taken K S no_counts (with_vars S (S.vars ++ (v ∷ [])))
  new_def : (m : Made) (d : Def) → Grows K S.made m → K.Has m d.term → length S.defs < DEFS →
      Taken K S no_counts (with_defs (with_made S m) (S.defs ++ (d ∷ [])))
  new_fact : (vs : List Var) (m : Made) (f : Fact) (c : Counts) → Longer S.vars vs → Grows K S.made m → FactIn K m f →
      (ShapedIn S → NewFact S f c) → length S.facts < FACTS → entries_so_far S + fact_entries f ≤ ENTRIES →
      Taken K S c (with_facts (grown S vs m) (S.facts ++ (f ∷ [])) (plus S.counts c))
  got_result : (m : Made) (k : ℕ) (g : Goal) → Grows K S.made m → entry S.goals k ≡ some g → g.taken ≡ false →
      Taken K S no_counts (with_goals (with_made S m) (change S.goals k taken_goal))

-- Laws of the actions on states -------------------------------------------------------------------------------------------------

-- behind an answer that is known
pub go_on : {S A B : Type 0} {P : B → S → Type 0} {a : A} {s : S} (f : A → S → Out S B) → Ok P (f a s) → Ok P (then (ok a s) f)
unfolding then
go_on f h = h

pub from_still : {S A B : Type 0} {P : B → S → Type 0} {s : S} (o : Out S A) (f : A → S → Out S B) → Still s o → ((a : A) → o ≡ ok a s → Ok P (f a s)) →
    Ok P (then o f)
unfolding then
from_still (ok a s) f answers k = k a refl
from_still (refuse n d s) f refuses k = off

module _ {K : Invariant} {A B : Type 0} {P : B → State → Type 0} {Q : A → Made → Type 0} where
  told_making : (T : State) (f : A → State → Out State B) (o : Out Made A) → keeping.Keeps K T.made Q o →
      ((a : A) (u : Made) → o ≡ ok a u → Grows K T.made u → Q a u → Ok P (f a (with_made T u))) →
      Ok P (then (elim o [ ok a u ↦ ok a (with_made T u) | refuse n d u ↦ refuse n d (with_made T u) ]) f)
  unfolding then
  told_making T f (ok a u) (keeping.fine g q) k = k a u refl g q
  told_making T f (refuse n d u) (keeping.off g) k = off

  -- an action on the made trees
  pub by_making : (act : Act Made A) (T : State) (f : A → State → Out State B) → keeping.Keeps K T.made Q (act T.made) →
      ((a : A) (u : Made) → act T.made ≡ ok a u → Grows K T.made u → Q a u → Ok P (f a (with_made T u))) → Ok P (then (making act T) f)
  unfolding making
  by_making act T f h k = told_making T f (act T.made) h k

-- a hypothesis
assumes : (S : State) (j : Tree) (ps : Trees) (vs : List ℕ) → NewFact S (hypothesis (length S.facts) j ps vs) one_hypothesis
unfolding assumed_one
assumes S j ps vs = record { shape = stated refl refl refl; weighs = refl }

-- a fact that is derived
derives : {S : State} {f : Fact} {c : Counts} → c.hypotheses ≡ 0 → DerivedIn S f → NewFact S f c
unfolding assumed_one
derives e d = record { shape = derived d; weighs = rw d.assumed e }

pub next_still : (xs : Sexps) (S : State) → Still S (next xs S)
unfolding next then
next_still xs S = still_then _ _ (index_still 31 (item xs 1)) λ i. asked (eqb i (length S.facts))
  where
    asked : (b : Bool) → Still S (ask {S = State} 32 b S)
    asked true = answers
    asked false = refuses

not-true : (b : Bool) → not b ≡ true → b ≡ false
not-true true e = absurd (false≢true e)
not-true false e = refl

-- Variables, abbreviations, goals -------------------------------------------------------------------------------------------------

pub add_var_takes : {P : Unit {0} → State → Type 0} (text : ℕ) (xs : Sexps) (S : State) →
    ((v : Var) → length S.vars < VARIABLES → P tt (with_vars S (S.vars ++ (v ∷ [])))) → Ok P (add_var text xs S)
unfolding add_var
add_var_takes text xs S h =
    go_on _ (by_name 21 (item xs 1) S _ λ n e. by_name 21 (item xs 2) S _ λ s e.
    by_found 21 (sort_named S.theory s.bytes) S _ λ k e.
    by_ask 21 (not (marked n.bytes) && (is_new (constructor_named S.theory n.bytes)
    && (is_new (predicate_named S.theory n.bytes) && is_new (var_named S.vars n.bytes)))) S _ λ e.
    by_room 7 (ltb (length S.vars) VARIABLES) S _ λ e. fine (h _ (ltb-true _ VARIABLES e)))

module _ {K : Invariant} where
  add_def_takes : (xs : Sexps) (S : State) → Ready K S S.made → Ok (λ a U. Taken K S no_counts U) (add_def xs S)
  unfolding add_def
  add_def_takes xs S h =
      go_on _ (by_name 33 (item xs 1) S _ λ n e. by_ask 33 (marked n.bytes && leb 2 (length n.bytes)) S _ λ e.
      by_making (term S (item xs 2)) S _ (term_keeps S (item xs 2) S.made h) λ t u e g p.
      by_ask 33 (is_new (abbreviated S.defs n.bytes)) _ _ λ e. by_room 10 (ltb (length S.defs) DEFS) _ _ λ e.
      go_on _ (fine (new_def u _ g p (ltb-true _ DEFS e))))

  add_goal_takes : (x : Sexp) (hs : Trees) (j : Tree) (S : State) (m : Made) → Grows K S.made m → Each (K.Has m) hs → K.Has m j →
      Ok (λ a U. Posed K S U) (add_goal x hs j (with_made S m))
  unfolding add_goal entries
  add_goal_takes x hs j S m g h p =
      go_on _ (by_name 24 x _ _ λ n e. by_ask 24 (is_new (goal_named S.goals n.bytes)) _ _ λ e.
      by_room 11 (ltb (length S.goals) GOALS) _ _ λ e. by_room 13 (leb (entries_so_far S + count_trees hs) ENTRIES) _ _ λ f.
      fine (posed_goal m _ g (record { judgment = p; hyps = h }) (ltb-true _ GOALS e) (leb-true _ ENTRIES f)))

  goal_takes : (t : GoalForm) (xs : Sexps) (S : State) → Ready K S S.made → Ok (λ a U. Posed K S U) (goal t xs S)
  unfolding goal Each
  goal_takes a_variable xs S h = add_var_takes 2 xs S (λ v l. posed_var v l)
  goal_takes a_goal xs S h =
      go_on _ (by_making (judgment S (item xs 2)) S _ (judgment_keeps S (item xs 2) S.made h) λ j u e g p.
      add_goal_takes (item xs 1) none j S u g tt p)
  goal_takes a_goal_with xs S h =
      go_on _ (by_making (judgments S (item xs 2)) S _ (judgments_keeps S (item xs 2) S.made h) λ hs u e g p.
      by_making (judgment S (item xs 3)) (with_made S u) _ (judgment_keeps S (item xs 3) u (ready_on h g)) λ j w f k q.
      add_goal_takes (item xs 1) hs j S w (keeping.further g k) (each_on hs k p) q)

  pub take_goal_takes : (x : Sexp) (S : State) → Ready K S S.made → Ok (λ a U. Posed K S U) (take_goal x S)
  unfolding take_goal
  take_goal_takes x S h =
      by_items 20 x S _ λ xs e. by_name 20 (item xs 0) S _ λ t e. by_found 20 (goal_form t.bytes (count xs)) S _ λ g e. goal_takes g xs S h

  -- Facts -----------------------------------------------------------------------------------------------------------------------

  add_fact_takes : (f : Fact) (c : Counts) (S : State) (vs : List Var) (m : Made) → Longer S.vars vs → Grows K S.made m → FactIn K m f →
      (ShapedIn S → NewFact S f c) → Ok (λ a U. Taken K S c U) (add_fact f c (grown S vs m))
  unfolding add_fact entries
  add_fact_takes f c S vs m l g p n =
      go_on _ (by_room 12 (ltb (length S.facts) FACTS) _ _ λ e. by_room 13 (leb (entries_so_far S + fact_entries f) ENTRIES) _ _ λ d.
      fine (new_fact vs m f c l g p n (ltb-true _ FACTS e) (leb-true _ ENTRIES d)))

  add_hyp_takes : (xs : Sexps) (S : State) → Ready K S S.made → Ok (λ a U. Taken K S one_hypothesis U) (add_hyp xs S)
  unfolding add_hyp Each
  add_hyp_takes xs S h =
      go_on _ (by_making (judgment S (item xs 2)) S _ (judgment_keeps S (item xs 2) S.made h) λ j u e g p.
      add_fact_takes _ _ S S.vars u (same_vars S.vars) g (record { judgment = p; premises = tt }) (λ w. assumes S j none []))

  add_rule_hyp_takes : (xs : Sexps) (S : State) → Ready K S S.made → Ok (λ a U. Taken K S one_hypothesis U) (add_rule_hyp xs S)
  unfolding add_rule_hyp
  add_rule_hyp_takes xs S h =
      go_on _ (by_making (judgments S (item xs 2)) S _ (judgments_keeps S (item xs 2) S.made h) λ ps u e g p.
      by_making (judgment S (item xs 3)) (with_made S u) _ (judgment_keeps S (item xs 3) u (ready_on h g)) λ j w f k q.
      from_still _ _ (vars_list_still 36 S (item xs 4)) λ vs e.
      add_fact_takes _ _ S S.vars w (same_vars S.vars) (keeping.further g k) (record { judgment = q; premises = each_on ps k p })
      (λ v. assumes S j ps vs))

  add_step_takes : (xs : Sexps) (S : State) → Ready K S S.made → Ok (λ a U. Taken K S (some_instances (brackets_in (item xs 3))) U) (add_step xs S)
  unfolding add_step
  add_step_takes xs S h =
      go_on _ (by_making (step S xs) S _ (step_keeps S xs S.made h) λ r u e g p.
      subst (λ n. Ok (λ a U. Taken K S (some_instances n) U) (add_fact r.0 (some_instances r.1) (with_made S u))) (of_ok (step_counts S xs S.made) e)
      (add_fact_takes r.0 (some_instances r.1) S S.vars u (same_vars S.vars) g p (λ w. derives refl (of_ok (step_shape S w xs S.made) e))))

  add_apply_takes : (xs : Sexps) (S : State) → Ready K S S.made → Ok (λ a U. Taken K S no_counts U) (add_apply xs S)
  unfolding add_apply
  add_apply_takes xs S h =
      go_on _ (by_making (apply S xs) S _ (apply_keeps S xs S.made h) λ f u e g p.
      add_fact_takes f no_counts S S.vars u (same_vars S.vars) g p (λ w. derives refl (of_ok (apply_shape S w xs S.made) e)))

  add_induct_takes : (xs : Sexps) (S : State) → Ready K S S.made → Ok (λ a U. Taken K S one_induction U) (add_induct xs S)
  unfolding add_induct
  add_induct_takes xs S h =
      go_on _ (by_making (induct S xs) S _ (induct_keeps S xs S.made h) λ f u e g p.
      add_fact_takes f one_induction S S.vars u (same_vars S.vars) g p (λ w. derives refl (of_ok (induct_shape S w xs S.made) e)))

  add_induct_with_takes : (xs : Sexps) (S : State) → Ready K S S.made → Ok (λ a U. Taken K S one_induction U) (add_induct_with xs S)
  unfolding add_induct_with
  add_induct_with_takes xs S h =
      go_on _ (by_making (induct_with S xs) S _ (induct_with_keeps S xs S.made h) λ f u e g p.
      add_fact_takes f one_induction S S.vars u (same_vars S.vars) g p (λ w. derives refl (of_ok (induct_with_shape S w xs S.made) e)))

  add_invert_takes : (xs : Sexps) (S : State) → Ready K S S.made → Ok (λ a U. Taken K S one_inversion U) (add_invert xs S)
  unfolding add_invert
  add_invert_takes xs S h =
      go_on _ (by_making (invert S xs) S _ (invert_keeps S xs S.made h) λ r u e g p.
      go_on _ (go_on _ (add_fact_takes r.0 one_inversion S r.1 u p.1 g p.0 (λ w. derives refl (of_ok (invert_shape S w xs S.made) e)))))

  -- Results ---------------------------------------------------------------------------------------------------------------------

  result_takes : (xs : Sexps) (S : State) → Ready K S S.made → Ok (λ a U. Taken K S no_counts U) (result xs S)
  unfolding result
  result_takes xs S h =
      go_on _ (by_name 50 (item xs 1) S _ λ n e. by_found 50 (goal_named S.goals n.bytes) S _ λ k e. by_found 50 (entry S.goals k) S _ λ d y.
      by_ask 50 (not d.taken) S _ λ z. by_making (reference S (item xs 2)) S _ (reference_keeps S (item xs 2) S.made h) λ r u e g p.
      by_ask 51 (all (λ h. listed d.hyps (entry S.facts h)) r.hyps) _ _ λ e. by_ask 52 (same_tree r.judgment d.judgment) _ _ λ e.
      go_on _ (fine (got_result u k d g y (not-true d.taken z))))

  -- The proof ---------------------------------------------------------------------------------------------------------------------

  perform_takes : (t : Tag) (xs : Sexps) (S : State) → Ready K S S.made → Ok (λ a U. Taken K S (counted t xs) U) (perform t xs S)
  unfolding perform counted
  perform_takes a_var xs S h = add_var_takes 3 xs S (λ v l. new_var v l)
  perform_takes a_def xs S h = add_def_takes xs S h
  perform_takes a_step xs S h = from_still _ _ (next_still xs S) λ a e. add_step_takes xs S h
  perform_takes a_hyp xs S h = from_still _ _ (next_still xs S) λ a e. add_hyp_takes xs S h
  perform_takes a_rule_hyp xs S h = from_still _ _ (next_still xs S) λ a e. add_rule_hyp_takes xs S h
  perform_takes an_induct xs S h = from_still _ _ (next_still xs S) λ a e. add_induct_takes xs S h
  perform_takes an_induct_with xs S h = from_still _ _ (next_still xs S) λ a e. add_induct_with_takes xs S h
  perform_takes an_apply xs S h = from_still _ _ (next_still xs S) λ a e. add_apply_takes xs S h
  perform_takes an_invert xs S h = from_still _ _ (next_still xs S) λ a e. add_invert_takes xs S h
  perform_takes a_result xs S h = result_takes xs S h

  pub take_form_takes : (x : Sexp) (S : State) → Ready K S S.made → Ok (λ a U. Taken K S (counted_form x) U) (take_form x S)
  unfolding take_form
  take_form_takes x S h =
      by_items 30 x S _ λ xs e. by_name 30 (item xs 0) S _ λ t f. by_found 30 (proof_tag t.bytes (count xs)) S _ λ g k.
      subst (λ c. Ok (λ a U. Taken K S c U) (perform g xs S)) (sym (counted_form_lem x xs S t g e f k)) (perform_takes g xs S h)
