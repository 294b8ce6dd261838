-- `(invert N K (HYP...) JUDGMENT (CASE...))`: the plain hypothesis K was derived by some rule of its predicate. For each rule whose conclusion
-- unifies with K there is a case `(RULE INDEX (VAR...))`, a fact that concludes the judgment under the unifier, the rule renamed to the case's
-- variables. Cases that name no rule of the predicate are read and ignored. Assumes nothing.
use Rattle.std.specs.Prelude.{ℕ, zero, suc, Bool, true, false, ◌&&◌, ◌||◌, not, List, [], ◌∷◌, ◌++◌, eqb, ltb, length, get_or, Option, Some as some, None as nothing}
use Rattle.rules.specs.Limits.{VARIABLES}
use Rattle.rules.specs.Text.{same}
use Rattle.rules.specs.Out.{Act, ◌>>=◌, pure, stop, ask, room}
use Rattle.rules.specs.Sexp.{Sexp, Sexps, nil, cons, count, item, name, items}
use Rattle.rules.specs.Find.{Set, entry, any, all, has, union, rising}
use Rattle.rules.specs.Tree.{Tree, Trees, var, app, none, more, same_tree, same_trees, variables}
use Rattle.rules.specs.Store.{Made, substitute, substitutes}
use Rattle.rules.specs.Unify.{Binding, along, unify}
use Rattle.rules.specs.Theory.{Rule, RuleVar, no_name, rule, rules_of}
use Rattle.rules.specs.State.{State, Var, Fact, sort_of_var, is_plain, mentioned}
use Rattle.rules.specs.Read.{index, vars_list, judgment}
use Rattle.rules.specs.Reference.{fact_at, hyp_list}
use Rattle.rules.specs.Induct.{keep_vars, inducting}

-- The cases as given --------------------------------------------------------------------------------------------------------------

pub record Case : Type 0 where
  pub name : List ℕ
  pub fact : ℕ
  pub vars : List ℕ

unfoldable pub case_named : List Case → List ℕ → Option Case
case_named [] n = nothing
case_named (c ∷ cs) n = elim (same c.name n) [ true ↦ some c | false ↦ case_named cs n ]

unfoldable pub read_case : State → Sexp → Act Made Case
read_case S x = do
  ys ← items 41 x
  _ ← ask 41 (eqb (count ys) 3)
  n ← name 41 (item ys 0)
  i ← index 41 (item ys 1)
  vs ← vars_list 42 S (item ys 2)
  pure (record { name = n.bytes; fact = i; vars = vs })

-- one case a name; these are there already
unfoldable pub read_cases : State → Sexps → List Case → Act Made (List Case)
read_cases S nil cs = pure cs
read_cases S (cons x xs) cs = do
  c ← read_case S x
  _ ← ask 41 (not (any (λ d. same d.name c.name) cs))
  read_cases S xs (cs ++ (c ∷ []))

-- What is inverted ------------------------------------------------------------------------------------------------------------------

-- context: facts, rising
pub record Inversion : Type 0 where
  pub hypothesis : Tree
  pub judgment : Tree
  pub context : List ℕ
  pub cases : List Case

unfoldable pub mentioned_at : Option Fact → Set
mentioned_at nothing v = false
mentioned_at (some f) v = mentioned f v

-- the variables of the context's facts
unfoldable pub context_vars : List Fact → List ℕ → Set
context_vars fs [] v = false
context_vars fs (h ∷ hs) v = mentioned_at (entry fs h) v || context_vars fs hs v

-- those that a case's variables must be new to
unfoldable pub taken_vars : State → Inversion → Set
taken_vars S I = union (union (variables I.hypothesis) (variables I.judgment)) (context_vars S.facts I.context)

-- The renaming of a rule ------------------------------------------------------------------------------------------------------------

-- all variables so far, made ones included, and the variables of cases so far
pub record Names : Type 0 where
  pub vars : List Var
  pub seen : List ℕ

-- as many variables as the rule has, each of its sort
unfoldable pub suit : List Var → List ℕ → List RuleVar → Bool
suit vs [] [] = true
suit vs [] (r ∷ rs) = false
suit vs (v ∷ ws) [] = false
suit vs (v ∷ ws) (r ∷ rs) = elim (eqb (sort_of_var vs v) r.sort) [ true ↦ suit vs ws rs | false ↦ false ]

-- a variable without a name for each of the rule's
unfoldable pub make_vars : List RuleVar → List Var → Act Made (List Var)
make_vars [] vs = pure vs
make_vars (r ∷ rs) vs = do
  _ ← room 7 (ltb (length vs) VARIABLES)
  make_vars rs (vs ++ (record { sort = r.sort; text = 0; name = no_name } ∷ []))

-- n numbers from k on
unfoldable pub up_from : ℕ → ℕ → List ℕ
up_from k zero = []
up_from k (suc n) = k ∷ up_from (suc k) n

-- the case's variables, or made ones where there is no case; and the names from then on
unfoldable pub renamed : State → Inversion → Rule → Option Case → Names → Act Made (List ℕ × Names)
renamed S I R (some c) N = do
  _ ← ask 42 (suit S.vars c.vars R.vars)
  _ ← ask 42 (all (λ v. not (taken_vars S I v) && not (has N.seen v)) c.vars)
  pure (c.vars, record { vars = N.vars; seen = N.seen ++ c.vars })
renamed S I R nothing N = do
  vs ← make_vars R.vars N.vars
  pure (up_from (length N.vars) (length R.vars), record { vars = vs; seen = N.seen })

-- rule variable i is xs's i-th
unfoldable pub renaming : List ℕ → ℕ → Tree
renaming xs i = var (get_or xs i 0)

-- What a case may rest on -----------------------------------------------------------------------------------------------------------

pub record Allowed : Type 0 where
  pub premises : Trees
  pub judgment : Tree
  pub general : List ℕ

-- the rule's premises, renamed, then under the unifier
unfoldable pub rule_premises : (ℕ → Tree) → (ℕ → Tree) → Trees → Act Made (List Allowed)
rule_premises ρ θ none = pure []
rule_premises ρ θ (more p ps) = do
  t ← substitute ρ p
  u ← substitute θ t
  us ← rule_premises ρ θ ps
  pure (record { premises = none; judgment = u; general = [] } ∷ us)

-- the bindings of variables that are not among these
unfoldable pub without : List ℕ → List Binding → List Binding
without vs [] = []
without vs (b ∷ θ) = elim (has vs b.variable) [ true ↦ without vs θ | false ↦ b ∷ without vs θ ]

-- no value holds one of the variables
unfoldable pub clear : List ℕ → List Binding → Bool
clear vs θ = all (λ b. all (λ v. not (variables b.value v)) vs) θ

-- a fact of the context under the unifier, which leaves its generalised variables alone
unfoldable pub context_fact : List Binding → Fact → Act Made Allowed
context_fact θ f = do
  let ζ = without f.general θ
  _ ← ask 48 (clear f.general ζ)
  ps ← substitutes (along ζ) f.premises
  j ← substitute (along ζ) f.judgment
  pure (record { premises = ps; judgment = j; general = f.general })

unfoldable pub context_facts : State → List Binding → List ℕ → Act Made (List Allowed)
context_facts S θ [] = pure []
context_facts S θ (h ∷ hs) = do
  f ← fact_at S h
  a ← context_fact θ f
  az ← context_facts S θ hs
  pure (a ∷ az)

unfoldable pub is_allowed : Fact → Allowed → Bool
is_allowed h a = same_trees a.premises h.premises && (same_tree a.judgment h.judgment && same a.general h.general)

unfoldable pub allowed_in : List Allowed → Option Fact → Bool
allowed_in az nothing = false
allowed_in az (some h) = h.assumed && any (is_allowed h) az

-- Rules -----------------------------------------------------------------------------------------------------------------------------

-- the rule unifies: its case is judged
unfoldable pub invert_case : State → Inversion → Rule → (ℕ → Tree) → List Binding → Case → Act Made (Unit {0})
invert_case S I R ρ θ c = do
  j ← substitute (along θ) I.judgment
  az ← rule_premises ρ (along θ) R.premises
  bs ← context_facts S θ I.context
  f ← fact_at S c.fact
  _ ← ask 43 (same_tree f.judgment j)
  ask 44 (all (λ h. allowed_in (az ++ bs) (entry S.facts h)) f.hyps)

-- a case just where the rule unifies
unfoldable pub case_or_not : State → Inversion → Rule → (ℕ → Tree) → Option (List Binding) → Option Case → Act Made (Unit {0})
case_or_not S I R ρ nothing nothing = pure tt
case_or_not S I R ρ nothing (some c) = stop 46
case_or_not S I R ρ (some θ) nothing = stop 47
case_or_not S I R ρ (some θ) (some c) = invert_case S I R ρ θ c

unfoldable pub invert_rule : State → Inversion → Rule → Names → Act Made Names
invert_rule S I R N = do
  let c = case_named I.cases R.name.bytes
  r ← renamed S I R c N
  _ ← keep_vars r.0
  t ← substitute (renaming r.0) R.conclusion
  θ ← unify (length r.1.vars) I.hypothesis t
  _ ← case_or_not S I R (renaming r.0) θ c
  pure r.1

unfoldable pub invert_rules : State → Inversion → List ℕ → Names → Act Made Names
invert_rules S I [] N = pure N
invert_rules S I (r ∷ rs) N = do
  M ← invert_rule S I (rule S.theory r) N
  invert_rules S I rs M

-- the head's number
unfoldable pub predicate_of : Tree → ℕ
predicate_of (var v) = 0
predicate_of (app p ts) = p

-- a fact, and the variables with those made
unfoldable pub invert : State → Sexps → Act Made (Fact × List Var)
invert S xs = do
  i ← index 34 (item xs 2)
  k ← fact_at S i
  _ ← ask 40 (is_plain k)
  hs ← hyp_list (λ f. f.assumed) S (item xs 3)
  j ← judgment S (item xs 4)
  ys ← items 41 (item xs 5)
  cs ← read_cases S ys []
  N ← invert_rules S (record { hypothesis = k.judgment; judgment = j; context = hs; cases = cs })
      (rules_of S.theory (predicate_of k.judgment)) (record { vars = S.vars; seen = [] })
  pure (
    record {
      judgment = j;
      hyps = rising (length S.facts) (union (has (i ∷ [])) (has hs));
      assumed = false;
      premises = none;
      general = [];
      footing = [];
    },
    N.vars,
  )

-- `unfolding inverting` opens all of the above, for a computation
unfoldable pub inverting : Unit {0}
unfolding inducting case_named read_case read_cases mentioned_at context_vars taken_vars suit make_vars up_from renamed renaming rule_premises without clear context_fact context_facts is_allowed allowed_in invert_case case_or_not invert_rule invert_rules predicate_of invert
inverting = tt
