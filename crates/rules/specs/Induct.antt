-- `(induct N X (HYP...) JUDGMENT (CASE...))`, HYPs or none: structural induction on the variable X. One case a constructor of its sort, in
-- order: `(INDEX VAR...)`, a fact that concludes the judgment at the constructor over the case's variables. Assumes nothing.
use Rattle.std.specs.Prelude.{ℕ, suc, Bool, true, false, ◌&&◌, ◌||◌, not, List, [], ◌∷◌, ◌++◌, eqb, length, Option, Some as some, None as nothing}
use Rattle.rules.specs.Out.{Act, ◌>>=◌, pure, ask}
use Rattle.rules.specs.Sexp.{Sexp, Sexps, nil, cons, count, item, rest, items}
use Rattle.rules.specs.Find.{Set, entry, any, all, has, union}
use Rattle.rules.specs.Tree.{Tree, Trees, var, app, none, more, same_tree, same_trees, single, variables, variables_of, among}
use Rattle.rules.specs.Store.{Made, keep, substitute, substitutes}
use Rattle.rules.specs.Theory.{inputs, constructors}
use Rattle.rules.specs.State.{State, Fact, sort_of_var, is_none, is_plain}
use Rattle.rules.specs.Read.{index, variable, judgment}
use Rattle.rules.specs.Reference.{fact_at, hyp_list, judgments_at, referring}

-- what is proved by induction on the variable, of that sort
pub record Motive : Type 0 where
  pub variable : ℕ
  pub sort : ℕ
  pub judgment : Tree
  pub premises : Trees

-- its variables
unfoldable pub motive_vars : Motive → Set
motive_vars M = union (variables M.judgment) (variables_of M.premises)

-- A case's terms ------------------------------------------------------------------------------------------------------------------

-- the case's variables: of the argument sorts, new to the motive and to each other
unfoldable pub case_vars : State → Motive → Sexps → List ℕ → List ℕ → Act Made (List ℕ)
case_vars S M nil ss vs = pure vs
case_vars S M (cons x xs) [] vs = pure vs
case_vars S M (cons x xs) (s ∷ ss) vs = do
  v ← variable 42 S x
  _ ← ask 42 (eqb (sort_of_var S.vars v) s && (not (motive_vars M v) && not (has vs v)))
  case_vars S M xs ss (vs ++ (v ∷ []))

-- variables as terms
unfoldable pub keep_vars : List ℕ → Act Made Trees
keep_vars [] = pure none
keep_vars (v ∷ vs) = do
  t ← keep (var v)
  ts ← keep_vars vs
  pure (more t ts)

-- an induction hypothesis: the motive at a case variable
pub record Hyp : Type 0 where
  pub premises : Trees
  pub judgment : Tree

unfoldable pub hypothesis_at : Motive → ℕ → Act Made Hyp
hypothesis_at M v = do
  y ← keep (var v)
  ps ← substitutes (single M.variable y) M.premises
  j ← substitute (single M.variable y) M.judgment
  pure (record { premises = ps; judgment = j })

-- one for each argument of the motive's own sort
unfoldable pub hypotheses : Motive → List ℕ → List ℕ → Act Made (List Hyp)
hypotheses M [] ss = pure []
hypotheses M (v ∷ vs) [] = pure []
hypotheses M (v ∷ vs) (s ∷ ss) =
    elim (eqb s M.sort) [
      | true ↦ do
        h ← hypothesis_at M v
        hs ← hypotheses M vs ss
        pure (h ∷ hs)
      | false ↦ hypotheses M vs ss
    ]

-- What a case may rest on -----------------------------------------------------------------------------------------------------------

-- ps: the motive's premises at the constructor
unfoldable pub allowed_plain : Motive → Trees → List Hyp → Fact → Bool
allowed_plain M ps ihs h = among ps h.judgment || (is_none M.premises && any (λ i. same_tree i.judgment h.judgment) ihs)

-- a rule hypothesis generalises only other variables of the motive
unfoldable pub allowed_rule : Motive → List Hyp → Fact → Bool
allowed_rule M ihs h =
    h.assumed
    && (all (λ g. motive_vars M g && not (eqb g M.variable)) h.general
    && any (λ i. same_trees i.premises h.premises && same_tree i.judgment h.judgment) ihs)

unfoldable pub allowed_hyp : Motive → Trees → List Hyp → Option Fact → Bool
allowed_hyp M ps ihs nothing = false
allowed_hyp M ps ihs (some h) = elim (is_plain h) [ true ↦ allowed_plain M ps ihs h | false ↦ allowed_rule M ihs h ]

-- Cases -----------------------------------------------------------------------------------------------------------------------------

-- the case of constructor c
unfoldable pub induct_case : State → Motive → Sexp → ℕ → Act Made (Unit {0})
induct_case S M x c = do
  ys ← items 41 x
  i ← index 41 (item ys 0)
  _ ← ask 41 (eqb (count ys) (suc (length (inputs S.theory c))))
  vs ← case_vars S M (rest ys 1) (inputs S.theory c) []
  ts ← keep_vars vs
  t ← keep (app c ts)
  j ← substitute (single M.variable t) M.judgment
  ps ← substitutes (single M.variable t) M.premises
  ihs ← hypotheses M vs (inputs S.theory c)
  f ← fact_at S i
  _ ← ask 43 (same_tree f.judgment j)
  ask 44 (all (λ h. allowed_hyp M ps ihs (entry S.facts h)) f.hyps)

-- paired by position
unfoldable pub induct_cases : State → Motive → Sexps → List ℕ → Act Made (Unit {0})
induct_cases S M nil cs = pure tt
induct_cases S M (cons x xs) [] = pure tt
induct_cases S M (cons x xs) (c ∷ cs) = do
  _ ← induct_case S M x c
  induct_cases S M xs cs

-- the rest of the form behind its variable and hypotheses
unfoldable pub induct_on : State → ℕ → List ℕ → Sexp → Sexp → Act Made Fact
induct_on S x hs y z = do
  j ← judgment S y
  let M : Motive = record { variable = x; sort = sort_of_var S.vars x; judgment = j; premises = judgments_at S.facts hs }
  cs ← items 41 z
  _ ← ask 41 (eqb (count cs) (length (constructors S.theory M.sort)))
  _ ← ask 45 (motive_vars M x)
  _ ← induct_cases S M cs (constructors S.theory M.sort)
  pure (record { judgment = j; hyps = hs; assumed = false; premises = none; general = []; footing = [] })

unfoldable pub induct : State → Sexps → Act Made Fact
induct S xs = do
  x ← variable 36 S (item xs 2)
  induct_on S x [] (item xs 3) (item xs 4)

unfoldable pub induct_with : State → Sexps → Act Made Fact
induct_with S xs = do
  x ← variable 36 S (item xs 2)
  hs ← hyp_list is_plain S (item xs 3)
  induct_on S x hs (item xs 4) (item xs 5)

-- `unfolding inducting` opens all of the above, for a computation
unfoldable pub inducting : Unit {0}
unfolding referring motive_vars case_vars keep_vars hypothesis_at hypotheses allowed_plain allowed_rule allowed_hyp induct_case induct_cases induct_on induct induct_with
inducting = tt
