-- One rule of `invert`: its renaming, its unification, its case; and what is carried from rule to rule. Variables that are made come into a table of
-- sorts, from which their rows are written at the end. Assumes nothing.
use Rattle.std.specs.Prelude.{◌≡◌, true, false, ◌&&◌, not, List, [], ◌∷◌, ◌++◌, ℕ, ◌+◌, ◌-◌, ◌*◌, ◌^◌, ◌<◌, ◌≤◌, ltb, length, get_or, take, drop, replicate, Option, Some as some, None as nothing, Result, Ok, Err}
use Rattle.rules.specs.Limits.{VARIABLES, RULEVARS, TERMS, PAIRS, TERMWORDS}
use Rattle.rules.specs.Out.{Out, ok, refuse, Act, ◌>>=◌, pure, stop, ask}
use Rattle.rules.specs.Sexp.{Sexp, Sexps, cons, count as count_items, item}
use Rattle.rules.specs.Find.{Set, union, has, all, entry}
use Rattle.rules.specs.Tree.{Tree, Trees, same_tree}
use Rattle.rules.specs.Store.{Made, substitute}
use Rattle.rules.specs.Unify.{Binding, along, unify}
use Rattle.rules.specs.Theory.{Theory, Rule, RuleVar, no_name, rule}
use Rattle.rules.specs.State.{State, Var}
use Rattle.rules.specs.Induct.{keep_vars}
use Rattle.rules.specs.Invert.{Case, Inversion, Names, suit, make_vars, up_from, renaming, taken_vars, rule_premises, context_facts, allowed_in}
use Rattle.rules.specs.Reference.{fact_at}
use Rattle.rules.specs.Laws.Theory.{All}
use Rattle.rules.proofs.Laws.Below.{Below}
use Rattle.sexp.specs.Items.{Holds}
use Rattle.questions.specs.declared.Row.{Row}
use Rattle.questions.specs.declared.Question.{Question}
use Rattle.questions.specs.declared.Question.TheVariants.{Earlier, CaseVariables, CaseJudgment, CaseHypotheses}
use Rattle.questions.specs.Numbers.{row_number, number_of, detail_of}
use Rattle.terms.specs.declared.store.Mark.{Mark}
use Rattle.terms.specs.Table.{made, tree, Good}
use Rattle.terms.specs.Sets.{holds}
use Rattle.terms.specs.Theta.{bindings, Theta}
use Rattle.terms.specs.Patterns.{cells_of, bound_of, Cells}
use Rattle.terms.specs.On.{Went, Stopped}
use Rattle.kernel.specs.HeldRules.{RulesHeld}
use Rattle.kernel.specs.Readers.{FormedRules}
use Rattle.state.specs.declared.sizes.Sizes.{Sizes}
use Rattle.cells.specs.declared.Span.{Span}
use Rattle.state.specs.Rows.{hyps_span}
use Rattle.state.specs.Entries.{part}
use Rattle.state.specs.Held.{VarsHeld, Names as Texts, RuleLists, Ruled}
use Rattle.referring.specs.Recall.{Refers, Recalls, fact_of}
use Rattle.casework.specs.Cases.{CaseItem, no_case}
use Rattle.inversion.specs.declared.inverting.CaseVars.{CaseVars}
-- beside `Below` of trees
use Rattle.terms.specs.Table.{Below as There}
use Rattle.referring.specs.Ids.{IDS}
use Rattle.casework.specs.Context.{RenamedRule, RestsGiven, rests_by}

-- Variables ------------------------------------------------------------------------------------------------------------------------------

-- the variables of a rule in their table
pub record RuleVarsGiven (rulevars : List ℕ) (r need : ℕ) : Type 0 where
  pub T : Theory
  pub text : List ℕ
  pub rules : List ℕ
  pub patterns : List ℕ
  pub known : ℕ
  pub words : ℕ
  pub held : RulesHeld text rules rulevars patterns known words T.rules
  pub there : r < known
  pub many : need ≡ length (rule T r).vars
  pub small : All (λ v. v.sort < 2 ^ 32) (rule T r).vars

-- made variables, by their sorts
unfoldable pub nameless : List ℕ → List Var
nameless [] = []
nameless (s ∷ ss) = record { sort = s; text = 0; name = no_name } ∷ nameless ss

-- the variables before, and those made since: so many in all
abbrev pub vars_with : List Var → List ℕ → ℕ → List Var
vars_with vs sorts k = vs ++ nameless (take (k - length vs) (drop (length vs) sorts))

-- cells of sorts are zero but for those of the variables made, from `base` on
pub record Unmade (base count : ℕ) (sorts : List ℕ) : Type 0 where
  pub before : (v : ℕ) → v < base → get_or sorts v 0 ≡ 0
  pub behind : (v : ℕ) → count ≤ v → get_or sorts v 0 ≡ 0

-- a variable more for each of the rule's, and their numbers are in the first cells
pub record VarsMade (vs : List Var) (rs : List RuleVar) (sorts sorts' : List ℕ) (old : ℕ) (list : List ℕ) (new : ℕ) : Type 0 where
  pub makes : (M : Made) → make_vars rs (vars_with vs sorts old) M ≡ ok (vars_with vs sorts' new) M
  pub many : new ≡ old + length rs
  pub few : new ≤ VARIABLES
  pub numbers : take (length rs) list ≡ up_from old (length rs)
  pub long : length sorts' ≡ VARIABLES
  pub others : (base : ℕ) → base ≤ old → Unmade base old sorts → Unmade base new sorts'

abbrev pub MadeBy : List Var → List RuleVar → List ℕ → List ℕ → ℕ → ℕ → Result (List ℕ) Row → Type 0
MadeBy vs rs sorts sorts' old new (Ok list) = VarsMade vs rs sorts sorts' old list new
MadeBy vs rs sorts sorts' old new (Err row) = (M : Made) → make_vars rs (vars_with vs sorts old) M ≡ refuse 60 (row_number row) M

-- the case in front of the cells, and the rule that it is of
pub record CaseVarsGiven (goals text vars rulevars : List ℕ) (count : ℕ) (cells : List ℕ) (r need : ℕ) : Type 0 where
  pub S : State
  pub c : Case
  pub x : Sexp
  pub ys : Sexps
  pub vars_are : VarsHeld goals text vars count S.vars
  pub rule_vars_lem : RuleVarsGiven rulevars r need
  pub theory : rule_vars_lem.T ≡ S.theory
  pub few : need ≤ RULEVARS
  pub holds : Holds text cells (cons x ys)
  pub case : CaseItem S.vars x c

-- the case's variables suit the rule, and none is taken
pub record CaseVarsAre (S : State) (rs : List RuleVar) (c : Case) (taken taken' list : List ℕ) (fact : ℕ) : Type 0 where
  pub suits : suit S.vars c.vars rs ≡ true
  pub new : all (λ v. not (holds taken v)) c.vars ≡ true
  pub fact_is : fact ≡ c.fact
  pub many : length c.vars ≡ length rs
  pub numbers : take (length rs) list ≡ c.vars
  pub takes : holds taken' ≡ union (holds taken) (has c.vars)

abbrev pub CaseVarsAs : State → List RuleVar → Case → List ℕ → List ℕ → Result CaseVars Question → Type 0
CaseVarsAs S rs c taken taken' (Ok own) = CaseVarsAre S rs c taken taken' own.list own.fact
CaseVarsAs S rs c taken taken' (Err q) = (q ≡ CaseVariables) × (suit S.vars c.vars rs && all (λ v. not (holds taken v)) c.vars ≡ false)

-- variables as terms, in cells
pub record VarsKept (I W J X : List ℕ) (old : Mark) (list bound : List ℕ) (new : Mark) : Type 0 where
  pub trees : Trees
  pub went : Went I W J X old (keep_vars list (made I W old)) trees new
  pub binds : (i : ℕ) → i < length list → bound_of (made J X new) bound i ≡ some (renaming list i)
  pub cells : Cells new.terms bound

abbrev pub KeptBy : List ℕ → List ℕ → List ℕ → List ℕ → Mark → Mark → List ℕ → Result (List (Option ℕ)) Row → Type 0
KeptBy I W J X old new list (Ok bound) = VarsKept I W J X old list (cells_of bound) new
KeptBy I W J X old new list (Err row) = Stopped I W J X old (keep_vars list (made I W old)) 60 (row_number row) new

-- The rule meets the hypothesis ------------------------------------------------------------------------------------------------------------

-- scratch, all of it zero
pub record Empty (map memo pairs seen : List ℕ) : Type 0 where
  pub maps : map ≡ replicate VARIABLES 0
  pub memos : memo ≡ replicate TERMS 0
  pub many : pairs ≡ replicate (2 * PAIRS) 0
  pub visits : seen ≡ replicate TERMWORDS 0

pub record Meeting (symbols rules patterns : List ℕ) (n : Sizes) (I W : List ℕ) (m : Mark) (r s count : ℕ) (list : List ℕ) : Type 0 where
  pub T : Theory
  pub formed : FormedRules symbols rules patterns n.rules T
  pub known : r < n.rules
  pub good : Good I W m
  pub there : s < m.terms
  pub below : Below count (tree I W m s)
  pub few : count ≤ VARIABLES
  pub many : length list ≡ length (rule T r).vars
  pub names : There count list

-- the renamed conclusion and the hypothesis are unified
abbrev pub meets : List ℕ → ℕ → Tree → Rule → Act Made (Option (List Binding))
meets xs k t R = do
  _ ← keep_vars xs
  u ← substitute (renaming xs) R.conclusion
  unify k t u

-- they have a unifier
pub record Met (I W J X : List ℕ) (old : Mark) (K : Out Made (Option (List Binding))) (list bound theta : List ℕ) (new : Mark) : Type 0 where
  pub went : Went I W J X old K (some (bindings (made J X new) theta 0)) new
  pub theta_is : Theta new theta
  pub binds : (i : ℕ) → i < length list → bound_of (made J X new) bound i ≡ some (renaming list i)
  pub cells : Cells new.terms bound

-- theta: the cells afterwards, zero unless there is one
abbrev pub MetBy : List ℕ → List ℕ → List ℕ → List ℕ → Mark → Mark → Out Made (Option (List Binding)) → List ℕ → List ℕ → Result (Option (List (Option ℕ))) Question → Type 0
MetBy I W J X old new K list theta (Ok (some bound)) = Met I W J X old K list (cells_of bound) theta new
MetBy I W J X old new K list theta (Ok nothing) = Went I W J X old K nothing new × (theta ≡ replicate VARIABLES 0)
MetBy I W J X old new K list theta (Err q) = Stopped I W J X old K (number_of q) (detail_of q) new × (theta ≡ replicate VARIABLES 0)

-- A case is judged -------------------------------------------------------------------------------------------------------------------------

pub record Judging (symbols rules patterns facts lists : List ℕ) (n : Sizes) (I W : List ℕ) (m : Mark) (r j : ℕ) (cells theta memo context ids : List ℕ) : Type 0 where
  pub recalls : Recalls facts lists n I W m
  pub renamed : RenamedRule symbols rules patterns n I W m r cells
  pub theory : renamed.T ≡ recalls.S.theory
  pub theta_is : Theta m theta
  pub empty : memo ≡ replicate TERMS 0
  pub there : j < m.terms
  pub known : There n.facts context
  pub zero : ids ≡ replicate IDS 0

-- the rest of a case behind its judgment t, which is under the unifier; context, i: the facts of the context, and the case's
abbrev pub judged : State → Rule → (ℕ → Tree) → List Binding → List ℕ → ℕ → Tree → Act Made (Unit {0})
judged S R ρ θ context i t = do
  az ← rule_premises ρ (along θ) R.premises
  bs ← context_facts S θ context
  f ← fact_at S i
  _ ← ask 43 (same_tree f.judgment t)
  ask 44 (all (λ h. allowed_in (az ++ bs) (entry S.facts h)) f.hyps)

-- the whole case
abbrev pub judges : State → Rule → (ℕ → Tree) → List Binding → List ℕ → ℕ → Tree → Act Made (Unit {0})
judges S R ρ θ context i j = do
  t ← substitute (along θ) j
  judged S R ρ θ context i t

-- where fact i's hypotheses are listed
abbrev pub own_span : List ℕ → Sizes → ℕ → Span
own_span facts n i = elim (ltb i n.facts) [ true ↦ hyps_span facts i | false ↦ record { from = 0; end = 0 } ]

-- facts, the case's fact with its hypotheses, and the term that it should conclude
pub record Verdict (facts : List ℕ) (n : Sizes) (i t : ℕ) (own : List ℕ) : Type 0 where
  pub given : RestsGiven facts n
  pub there : t < length given.trees
  pub owns : own ≡ part given.lists (own_span facts n i)

-- question 34, 43 or 44, by the sets
unfoldable pub verdict_of : State → Made → ℕ → Tree → Set → Set → Result (Unit {0}) Question
verdict_of S M i t plain fine = elim (entry S.facts i) [
  | nothing ↦ Err Earlier
  | some f ↦ elim (same_tree f.judgment t) [
    | false ↦ Err CaseJudgment
    | true ↦ elim (all (λ h. rests_by M (fact_of S h) h plain fine) f.hyps) [ true ↦ Ok tt | false ↦ Err CaseHypotheses ]
  ]
]

-- A rule without a case, and one with it ---------------------------------------------------------------------------------------------------

-- need: how many variables the rule has
pub record Lacking (symbols rules rulevars patterns : List ℕ) (n : Sizes) (I W : List ℕ) (m : Mark) (r need s : ℕ) (sorts : List ℕ) (count : ℕ) : Type 0 where
  pub T : Theory
  pub vs : List Var
  pub formed : FormedRules symbols rules patterns n.rules T
  pub rule_vars_lem : RuleVarsGiven rulevars r need
  pub theory : rule_vars_lem.T ≡ T
  pub known : r < n.rules
  pub good : Good I W m
  pub there : s < m.terms
  pub below : Below (length vs) (tree I W m s)
  pub more : length vs ≤ count
  pub few : count ≤ VARIABLES
  pub long : length sorts ≡ VARIABLES
  pub others : Unmade (length vs) count sorts

-- variables are made, and there must be no unifier
abbrev pub lacks : List Var → Tree → Rule → Act Made (List Var)
lacks vs t R = do
  us ← make_vars R.vars vs
  θ ← meets (up_from (length vs) (length R.vars)) (length us) t R
  elim θ [ nothing ↦ pure us | some ζ ↦ stop 47 ]

pub record Lacked (I W J X : List ℕ) (old : Mark) (vs : List Var) (K : Out Made (List Var)) (sorts : List ℕ) (base count : ℕ) (new : Mark) : Type 0 where
  pub went : Went I W J X old K (vars_with vs sorts count) new
  pub more : base ≤ count
  pub few : count ≤ VARIABLES
  pub long : length sorts ≡ VARIABLES
  pub others : Unmade (length vs) count sorts

abbrev pub LackedBy : List ℕ → List ℕ → List ℕ → List ℕ → Mark → Mark → List Var → Out Made (List Var) → List ℕ → ℕ → ℕ → Result (Unit {0}) Question → Type 0
LackedBy I W J X old new vs K sorts base count (Ok _) = Lacked I W J X old vs K sorts base count new
LackedBy I W J X old new vs K sorts base count (Err q) = Stopped I W J X old K (number_of q) (detail_of q) new

pub record Having (symbols rules patterns facts lists : List ℕ) (n : Sizes) (I W : List ℕ) (m : Mark) (r s j : ℕ) (list context : List ℕ) (count : ℕ) (ids : List ℕ) : Type 0 where
  pub recalls : Recalls facts lists n I W m
  pub meeting : Meeting symbols rules patterns n I W m r s count list
  pub theory : meeting.T ≡ recalls.S.theory
  pub there : j < m.terms
  pub known : There n.facts context
  pub zero : ids ≡ replicate IDS 0

-- there must be a unifier, and the case is judged under it
abbrev pub has_case : State → List ℕ → ℕ → Tree → Rule → List ℕ → ℕ → Tree → Act Made (Unit {0})
has_case S xs k t R context i j = do
  θ ← meets xs k t R
  elim θ [ nothing ↦ stop 46 | some ζ ↦ judges S R (renaming xs) ζ context i j ]

-- From rule to rule ------------------------------------------------------------------------------------------------------------------------

-- s, j: the hypothesis and the judgment by their numbers; taken: variables that a case must not have; count: all variables so far
pub record Turning (K : Texts) (P : RuleLists) (facts lists : List ℕ) (n : Sizes) (I W : List ℕ) (m : Mark) (cells : List ℕ) (s j : ℕ) (context taken sorts : List ℕ) (count : ℕ) : Type 0 where
  pub S : State
  pub footings : List ℕ
  pub xs : Sexps
  pub inversion : Inversion
  pub names : Names
  pub refers : Refers K facts footings lists n I W m S
  pub ruled : Ruled P n S.theory
  pub holds_items : Holds K.text cells xs
  pub cases_are : length inversion.cases ≡ count_items xs
  pub cases : (k : ℕ) → k < count_items xs → CaseItem S.vars (item xs k) (get_or inversion.cases k no_case)
  pub hypothesis : inversion.hypothesis ≡ tree I W m s
  pub hypothesis_there : s < m.terms
  pub judgment : inversion.judgment ≡ tree I W m j
  pub judgment_there : j < m.terms
  pub context_is : inversion.context ≡ context
  pub context_there : There n.facts context
  pub taken_is : holds taken ≡ union (taken_vars S inversion) (has names.seen)
  pub vars_are : names.vars ≡ vars_with S.vars sorts count
  pub more : length S.vars ≤ count
  pub few : count ≤ VARIABLES
  pub sorts_long : length sorts ≡ VARIABLES
  pub others : Unmade (length S.vars) count sorts
  pub low : Below (length S.vars) inversion.hypothesis

-- what the next rule is given
pub record Turned (I W J X : List ℕ) (old : Mark) (S : State) (Y : Inversion) (K : Out Made Names) (taken sorts : List ℕ) (base count : ℕ) (new : Mark) : Type 0 where
  pub names : Names
  pub went : Went I W J X old K names new
  pub taken_is : holds taken ≡ union (taken_vars S Y) (has names.seen)
  pub vars_are : names.vars ≡ vars_with S.vars sorts count
  pub more : base ≤ count
  pub few : count ≤ VARIABLES
  pub sorts_long : length sorts ≡ VARIABLES
  pub others : Unmade (length S.vars) count sorts

abbrev pub TurnedBy : List ℕ → List ℕ → List ℕ → List ℕ → Mark → Mark → State → Inversion → Out Made Names → List ℕ → List ℕ → ℕ → ℕ → Result (Unit {0}) Question → Type 0
TurnedBy I W J X old new S Y K taken sorts base count (Ok _) = Turned I W J X old S Y K taken sorts base count new
TurnedBy I W J X old new S Y K taken sorts base count (Err q) = Stopped I W J X old K (number_of q) (detail_of q) new
