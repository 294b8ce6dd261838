-- Reading terms, judgments, variables and indices of goals and proof: questions 22 and 23, and the number of whoever asks. What is read is
-- made on the way, each argument before the term. Assumes nothing.
use Rattle.std.specs.Prelude.{ℕ, true, false, not, List, [], ◌∷◌, ◌++◌, eqb, leb, Some as some, None as nothing}
use Rattle.rules.specs.Out.{then, Act, ◌>>=◌, pure, stop, ask, found}
use Rattle.rules.specs.Sexp.{Sexp, Sexps, atom, list, nil, cons, count, item, rest, name, items, marked, reading}
use Rattle.rules.specs.Index.{index_of, indexing}
use Rattle.rules.specs.Find.{has}
use Rattle.rules.specs.Tree.{Tree, Trees, var, app, none, more}
use Rattle.rules.specs.Store.{Made, keep, storing}
use Rattle.rules.specs.Theory.{inputs, constructor_named, predicate_named}
use Rattle.rules.specs.State.{State, sort_of, fit, var_named, abbreviated, is_empty, states}

-- question n reads an index
unfoldable pub index : {S : Type 0} → ℕ → Sexp → Act S ℕ
index n x = do
  a ← name n x
  found n (index_of a.bytes)

-- question n reads a variable's name
unfoldable pub variable : {S : Type 0} → ℕ → State → Sexp → Act S ℕ
variable n S x = do
  a ← name n x
  found n (var_named S.vars a.bytes)

-- `vars_list`: each given once; these are there already
unfoldable pub others : {S : Type 0} → ℕ → State → Sexps → List ℕ → Act S (List ℕ)
others n S nil vs = pure vs
others n S (cons x xs) vs = do
  v ← variable n S x
  _ ← ask n (not (has vs v))
  others n S xs (vs ++ (v ∷ []))

unfoldable pub vars_list : {S : Type 0} → ℕ → State → Sexp → Act S (List ℕ)
vars_list n S x = do
  xs ← items n x
  others n S xs []

-- Terms -------------------------------------------------------------------------------------------------------------------------

-- a variable's name, or else a constructor without arguments
unfoldable pub named : State → List ℕ → Act Made Tree
named S n =
    elim (var_named S.vars n) [
      | some v ↦ keep (var v)
      | nothing ↦ do
        c ← found 22 (constructor_named S.theory n)
        _ ← ask 23 (is_empty (inputs S.theory c))
        keep (app c none)
    ]

-- counts and sorts are asked behind the arguments
unfoldable mutual
  pub term : State → Sexp → Act Made Tree
  term S (atom p bs) = elim (marked bs) [ true ↦ found 22 (abbreviated S.defs bs) | false ↦ named S bs ]
  term S (list xs) = compound S xs

  pub compound : State → Sexps → Act Made Tree
  compound S nil = stop 22
  compound S (cons x xs) = do
    n ← name 22 x
    c ← found 22 (constructor_named S.theory n.bytes)
    _ ← ask 23 (leb 1 (count xs))
    ts ← terms S xs
    _ ← ask 23 (fit S.theory S.vars ts (inputs S.theory c))
    keep (app c ts)

  pub terms : State → Sexps → Act Made Trees
  terms S nil = pure none
  terms S (cons x xs) = do
    t ← term S x
    ts ← terms S xs
    pure (more t ts)

-- where a sort is expected
unfoldable pub term_of : State → Sexp → ℕ → Act Made Tree
term_of S x s = do
  t ← term S x
  _ ← ask 23 (eqb (sort_of S.theory S.vars t) s)
  pure t

-- Judgments ---------------------------------------------------------------------------------------------------------------------

unfoldable pub judgment : State → Sexp → Act Made Tree
judgment S x = do
  xs ← items 22 x
  n ← name 22 (item xs 0)
  p ← found 22 (predicate_named S.theory n.bytes)
  ts ← terms S (rest xs 1)
  _ ← ask 23 (fit S.theory S.vars ts (inputs S.theory p))
  keep (app p ts)

unfoldable pub judgment_each : State → Sexps → Act Made Trees
judgment_each S nil = pure none
judgment_each S (cons x xs) = do
  t ← judgment S x
  ts ← judgment_each S xs
  pure (more t ts)

unfoldable pub judgments : State → Sexp → Act Made Trees
judgments S x = do
  xs ← items 22 x
  judgment_each S xs

-- `unfolding term_reading` opens all of the above, for a computation
unfoldable pub term_reading : Unit {0}
unfolding reading indexing storing states then index variable others vars_list named term term_of judgment judgment_each judgments
term_reading = tt
