-- Naming facts: by index, or as an instance with bindings; lists of hypotheses; and question 39. Assumes nothing.
use Rattle.std.specs.Prelude.{ℕ, zero, suc, Bool, not, List, [], ◌∷◌, eqb, length, Option, Some as some, None as nothing}
use Rattle.rules.specs.Out.{refuse, Act, ◌>>=◌, pure, ask, found}
use Rattle.rules.specs.Sexp.{Sexp, Sexps, atom, list, nil, cons, count, item, rest, items}
use Rattle.rules.specs.Find.{Set, entry, any, has, union, minus, rising, least}
use Rattle.rules.specs.Tree.{Tree, Trees, var, none, more, variables}
use Rattle.rules.specs.Store.{Made, substitute}
use Rattle.rules.specs.Unify.{Binding, along, insert, unifying}
use Rattle.rules.specs.State.{State, Fact, sort_of_var, is_empty, hyp_vars}
use Rattle.rules.specs.Read.{index, variable, term_of, term_reading}

-- the fact of a number, which must be earlier
unfoldable pub fact_at : {S : Type 0} → State → ℕ → Act S Fact
fact_at S i = found 34 (entry S.facts i)

-- Bindings ----------------------------------------------------------------------------------------------------------------------

unfoldable pub binding : State → Sexp → Act Made Binding
binding S x = do
  ys ← items 36 x
  _ ← ask 36 (eqb (count ys) 2)
  v ← variable 36 S (item ys 0)
  t ← term_of S (item ys 1) (sort_of_var S.vars v)
  pure (record { variable = v; value = t })

unfoldable pub is_bound : List Binding → Set
is_bound bs v = any (λ b. eqb b.variable v) bs

-- `(VAR TERM)`s, each variable once, kept by rising variable; these are there already
unfoldable pub bindings : State → Sexps → List Binding → Act Made (List Binding)
bindings S nil bs = pure bs
bindings S (cons x xs) bs = do
  b ← binding S x
  _ ← ask 36 (not (is_bound bs b.variable))
  bindings S xs (insert b bs)

-- References --------------------------------------------------------------------------------------------------------------------

-- what a reference gives; instances: 1 where it is bracketed
pub record Ref : Type 0 where
  pub judgment : Tree
  pub hyps : List ℕ
  pub footing : List ℕ
  pub instances : ℕ

unfoldable pub instance : State → Sexps → Act Made Ref
instance S xs = do
  i ← index 34 (item xs 0)
  f ← fact_at S i
  _ ← ask 35 (is_empty f.hyps)
  bs ← bindings S (rest xs 1) []
  t ← substitute (along bs) f.judgment
  pure (record { judgment = t; hyps = []; footing = f.footing; instances = 1 })

unfoldable pub reference : State → Sexp → Act Made Ref
reference S (atom p bs) = do
  i ← index 34 (atom p bs)
  f ← fact_at S i
  pure (record { judgment = f.judgment; hyps = f.hyps; footing = f.footing; instances = 0 })
reference S (list xs) = instance S xs

-- Hypotheses --------------------------------------------------------------------------------------------------------------------

-- each an earlier fact that passes the test of question 40
unfoldable pub hyp_each : {S : Type 0} → (Fact → Bool) → State → Sexps → Act S (List ℕ)
hyp_each p S nil = pure []
hyp_each p S (cons x xs) = do
  i ← index 34 x
  f ← fact_at S i
  _ ← ask 40 (p f)
  is ← hyp_each p S xs
  pure (i ∷ is)

-- `plain_hyps`, `any_hyps`: by rising number
unfoldable pub hyp_list : {S : Type 0} → (Fact → Bool) → State → Sexp → Act S (List ℕ)
hyp_list p S x = do
  xs ← items 34 x
  is ← hyp_each p S xs
  pure (rising (length S.facts) (has is))

unfoldable pub judgment_of : Option Fact → Tree
judgment_of (some f) = f.judgment
judgment_of nothing = var 0

-- the judgments of facts by number
unfoldable pub judgments_at : List Fact → List ℕ → Trees
judgments_at fs [] = none
judgments_at fs (h ∷ hs) = more (judgment_of (entry fs h)) (judgments_at fs hs)

-- Question 39 -------------------------------------------------------------------------------------------------------------------

-- the detail is the lowest variable that is outside
unfoldable pub outside : {S : Type 0} → ℕ → Act S (Unit {0})
outside zero = pure tt
outside (suc v) = λ s. refuse 39 (suc v) s

-- what is used must be in the conclusion or free in the hypotheses
unfoldable pub scoped : {S : Type 0} → State → Set → Tree → List ℕ → Act S (Unit {0})
scoped S used j hs = outside (least (length S.vars) (minus used (union (variables j) (hyp_vars S.facts hs))))

-- `unfolding referring` opens all of the above, for a computation
unfoldable pub referring : Unit {0}
unfolding unifying term_reading fact_at binding is_bound bindings instance reference hyp_each hyp_list judgment_of judgments_at outside scoped
referring = tt
