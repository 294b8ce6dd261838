-- The forms of goals and proof, each as an action on the state: `var`, `def`, `goal`, `hyp` and `result` here, the others by the files before.
-- A form stores at its end, when every question was put. Assumes nothing.
use Rattle.std.specs.Prelude.{ℕ, ◌+◌, Bool, true, false, ◌&&◌, not, List, [], ◌∷◌, ◌++◌, eqb, leb, ltb, length, Option, Some as some, None as nothing}
use Rattle.rules.specs.Limits.{VARIABLES, DEFS, GOALS, FACTS, ENTRIES}
use Rattle.rules.specs.Out.{ok, refuse, Act, ◌>>=◌, ask, room, found, get, put}
use Rattle.rules.specs.Sexp.{Sexp, Sexps, count, item, name, items, marked}
use Rattle.rules.specs.Tags.{Tag, a_var, a_def, a_step, a_hyp, a_rule_hyp, an_induct, an_induct_with, an_apply, an_invert, a_result, proof_tag, GoalForm, a_variable, a_goal, a_goal_with, goal_form, tagging}
use Rattle.rules.specs.Find.{entry, all, change}
use Rattle.rules.specs.Tree.{Tree, Trees, none, same_tree, count_trees, among}
use Rattle.rules.specs.Store.{Made}
use Rattle.rules.specs.Theory.{sort_named, constructor_named, predicate_named}
use Rattle.rules.specs.Declare.{is_new}
use Rattle.rules.specs.State.{State, Var, Def, Goal, Fact, Counts, no_counts, var_named, abbreviated, goal_named, is_plain, fact_entries, entries}
use Rattle.rules.specs.Read.{index, term, judgment, judgments, vars_list}
use Rattle.rules.specs.Reference.{reference}
use Rattle.rules.specs.Step.{step}
use Rattle.rules.specs.Apply.{apply, applying}
use Rattle.rules.specs.Induct.{induct, induct_with}
use Rattle.rules.specs.Invert.{invert, inverting}

-- The state with one part anew ----------------------------------------------------------------------------------------------------

abbrev pub with_made : State → Made → State
with_made S m = record { theory = S.theory; vars = S.vars; made = m; defs = S.defs; goals = S.goals; facts = S.facts; counts = S.counts }

abbrev pub with_vars : State → List Var → State
with_vars S vs = record { theory = S.theory; vars = vs; made = S.made; defs = S.defs; goals = S.goals; facts = S.facts; counts = S.counts }

abbrev pub with_defs : State → List Def → State
with_defs S ds = record { theory = S.theory; vars = S.vars; made = S.made; defs = ds; goals = S.goals; facts = S.facts; counts = S.counts }

abbrev pub with_goals : State → List Goal → State
with_goals S gs = record { theory = S.theory; vars = S.vars; made = S.made; defs = S.defs; goals = gs; facts = S.facts; counts = S.counts }

abbrev pub with_facts : State → List Fact → Counts → State
with_facts S fs c = record { theory = S.theory; vars = S.vars; made = S.made; defs = S.defs; goals = S.goals; facts = fs; counts = c }

-- an action on the made trees
unfoldable pub making : {A : Type 0} → Act Made A → Act State A
making m S = elim (m S.made) [ ok a u ↦ ok a (with_made S u) | refuse n d u ↦ refuse n d (with_made S u) ]

-- Variables and abbreviations -----------------------------------------------------------------------------------------------------

-- `declare`: (var NAME SORT) in text 2 or 3
unfoldable pub add_var : ℕ → Sexps → Act State (Unit {0})
add_var text xs = do
  S ← get
  n ← name 21 (item xs 1)
  s ← name 21 (item xs 2)
  k ← found 21 (sort_named S.theory s.bytes)
  _ ← ask 21 (not (marked n.bytes) && (is_new (constructor_named S.theory n.bytes)
      && (is_new (predicate_named S.theory n.bytes) && is_new (var_named S.vars n.bytes))))
  _ ← room 7 (ltb (length S.vars) VARIABLES)
  put (with_vars S (S.vars ++ (record { sort = k; text = text; name = n } ∷ [])))

-- (def ?NAME TERM); the name is compared behind the term
unfoldable pub add_def : Sexps → Act State (Unit {0})
add_def xs = do
  S ← get
  n ← name 33 (item xs 1)
  _ ← ask 33 (marked n.bytes && leb 2 (length n.bytes))
  t ← making (term S (item xs 2))
  _ ← ask 33 (is_new (abbreviated S.defs n.bytes))
  _ ← room 10 (ltb (length S.defs) DEFS)
  U ← get
  put (with_defs U (U.defs ++ (record { name = n; term = t } ∷ [])))

-- Goals -----------------------------------------------------------------------------------------------------------------------------

-- behind its judgments, a goal's name; then rows 11 and 13
unfoldable pub add_goal : Sexp → Trees → Tree → Act State (Unit {0})
add_goal x hs j = do
  S ← get
  n ← name 24 x
  _ ← ask 24 (is_new (goal_named S.goals n.bytes))
  _ ← room 11 (ltb (length S.goals) GOALS)
  _ ← room 13 (leb (entries S + count_trees hs) ENTRIES)
  put (with_goals S (S.goals ++ (record { name = n; judgment = j; hyps = hs; taken = false } ∷ [])))

unfoldable pub goal : GoalForm → Sexps → Act State (Unit {0})
goal a_variable xs = add_var 2 xs
goal a_goal xs = do
  S ← get
  j ← making (judgment S (item xs 2))
  add_goal (item xs 1) none j
goal a_goal_with xs = do
  S ← get
  hs ← making (judgments S (item xs 2))
  j ← making (judgment S (item xs 3))
  add_goal (item xs 1) hs j

-- a form of the goals
unfoldable pub take_goal : Sexp → Act State (Unit {0})
take_goal x = do
  xs ← items 20 x
  t ← name 20 (item xs 0)
  g ← found 20 (goal_form t.bytes (count xs))
  goal g xs

-- Facts -----------------------------------------------------------------------------------------------------------------------------

unfoldable pub plus : Counts → Counts → Counts
plus c d = record {
  hypotheses = c.hypotheses + d.hypotheses;
  inductions = c.inductions + d.inductions;
  inversions = c.inversions + d.inversions;
  instances = c.instances + d.instances;
}

-- rows 12 and 13; the form's own counts are added
unfoldable pub add_fact : Fact → Counts → Act State (Unit {0})
add_fact f c = do
  S ← get
  _ ← room 12 (ltb (length S.facts) FACTS)
  _ ← room 13 (leb (entries S + fact_entries f) ENTRIES)
  put (with_facts S (S.facts ++ (f ∷ [])) (plus S.counts c))

-- a hypothesis rests on itself
abbrev pub hypothesis : ℕ → Tree → Trees → List ℕ → Fact
hypothesis n j ps vs = record { judgment = j; hyps = n ∷ []; assumed = true; premises = ps; general = vs; footing = [] }

abbrev pub one_hypothesis : Counts
one_hypothesis = record { hypotheses = 1; inductions = 0; inversions = 0; instances = 0 }

abbrev pub one_induction : Counts
one_induction = record { hypotheses = 0; inductions = 1; inversions = 0; instances = 0 }

abbrev pub one_inversion : Counts
one_inversion = record { hypotheses = 0; inductions = 0; inversions = 1; instances = 0 }

abbrev pub some_instances : ℕ → Counts
some_instances k = record { hypotheses = 0; inductions = 0; inversions = 0; instances = k }

-- (hyp N JUDGMENT)
unfoldable pub add_hyp : Sexps → Act State (Unit {0})
add_hyp xs = do
  S ← get
  j ← making (judgment S (item xs 2))
  add_fact (hypothesis (length S.facts) j none []) one_hypothesis

-- `rule_hyp`: (hyp N (PREMISE...) JUDGMENT (VAR...))
unfoldable pub add_rule_hyp : Sexps → Act State (Unit {0})
add_rule_hyp xs = do
  S ← get
  ps ← making (judgments S (item xs 2))
  j ← making (judgment S (item xs 3))
  vs ← vars_list 36 S (item xs 4)
  add_fact (hypothesis (length S.facts) j ps vs) one_hypothesis

unfoldable pub add_step : Sexps → Act State (Unit {0})
add_step xs = do
  S ← get
  r ← making (step S xs)
  add_fact r.0 (some_instances r.1)

unfoldable pub add_apply : Sexps → Act State (Unit {0})
add_apply xs = do
  S ← get
  f ← making (apply S xs)
  add_fact f no_counts

unfoldable pub add_induct : Sexps → Act State (Unit {0})
add_induct xs = do
  S ← get
  f ← making (induct S xs)
  add_fact f one_induction

unfoldable pub add_induct_with : Sexps → Act State (Unit {0})
add_induct_with xs = do
  S ← get
  f ← making (induct_with S xs)
  add_fact f one_induction

-- variables that were made stay
unfoldable pub add_invert : Sexps → Act State (Unit {0})
add_invert xs = do
  S ← get
  r ← making (invert S xs)
  U ← get
  _ ← put (with_vars U r.1)
  add_fact r.0 one_inversion

-- Results ---------------------------------------------------------------------------------------------------------------------------

-- a plain hypothesis with a judgment that the goal lists
unfoldable pub listed : Trees → Option Fact → Bool
listed hs nothing = false
listed hs (some f) = is_plain f && among hs f.judgment

abbrev pub taken_goal : Goal → Goal
taken_goal g = record { name = g.name; judgment = g.judgment; hyps = g.hyps; taken = true }

-- (result NAME REF)
unfoldable pub result : Sexps → Act State (Unit {0})
result xs = do
  S ← get
  n ← name 50 (item xs 1)
  k ← found 50 (goal_named S.goals n.bytes)
  g ← found 50 (entry S.goals k)
  _ ← ask 50 (not g.taken)
  r ← making (reference S (item xs 2))
  _ ← ask 51 (all (λ h. listed g.hyps (entry S.facts h)) r.hyps)
  _ ← ask 52 (same_tree r.judgment g.judgment)
  U ← get
  put (with_goals U (change U.goals k taken_goal))

-- The proof -------------------------------------------------------------------------------------------------------------------------

-- the form's own index, which must be the next
unfoldable pub next : Sexps → Act State (Unit {0})
next xs = do
  S ← get
  i ← index 31 (item xs 1)
  ask 32 (eqb i (length S.facts))

unfoldable pub perform : Tag → Sexps → Act State (Unit {0})
perform a_var xs = add_var 3 xs
perform a_def xs = add_def xs
perform a_step xs = do
  _ ← next xs
  add_step xs
perform a_hyp xs = do
  _ ← next xs
  add_hyp xs
perform a_rule_hyp xs = do
  _ ← next xs
  add_rule_hyp xs
perform an_induct xs = do
  _ ← next xs
  add_induct xs
perform an_induct_with xs = do
  _ ← next xs
  add_induct_with xs
perform an_apply xs = do
  _ ← next xs
  add_apply xs
perform an_invert xs = do
  _ ← next xs
  add_invert xs
perform a_result xs = result xs

-- a form of the proof
unfoldable pub take_form : Sexp → Act State (Unit {0})
take_form x = do
  xs ← items 30 x
  t ← name 30 (item xs 0)
  g ← found 30 (proof_tag t.bytes (count xs))
  perform g xs

-- `unfolding taking` opens all of the above, for a computation
unfoldable pub taking : Unit {0}
unfolding tagging applying inverting making is_new add_var add_def add_goal goal take_goal plus add_fact add_hyp add_rule_hyp add_step add_apply add_induct add_induct_with add_invert listed result next perform take_form
taking = tt
