-- What one item spells, whatever the question: an index, a variable, a list of variables; the definition's actions answer just this. Assumes nothing.
use Rattle.std.specs.Prelude.{◌≡◌, refl, true, false, List, [], ◌∷◌, ◌++◌, ℕ, Option, Some as some, None as nothing}
use Rattle.rules.specs.Out.{then, found}
use Rattle.rules.specs.Sexp.{Sexp, Sexps, atom, list, nil, cons, name}
use Rattle.rules.specs.Index.{index_of}
use Rattle.rules.specs.Find.{has}
use Rattle.rules.specs.State.{State, Var, var_named}
use Rattle.rules.specs.Read.{index, variable}
use Rattle.sexp.specs.Items.{Holds}

-- the cells begin with an item of the text
pub record FirstItem (text cells : List ℕ) : Type 0 where
  pub x : Sexp
  pub ys : Sexps
  pub holds : Holds text cells (cons x ys)

-- An index -------------------------------------------------------------------------------------------------------------------------

unfoldable pub index_in : Sexp → Option ℕ
index_in (atom p bs) = index_of bs
index_in (list xs) = nothing

pub index_found : {A : Type 0} (q : ℕ) (x : Sexp) (s : A) → index q x s ≡ found q (index_in x) s
unfolding index index_in name then
index_found q (atom p bs) s = refl
index_found q (list xs) s = refl

-- A variable -----------------------------------------------------------------------------------------------------------------------

unfoldable pub variable_in : List Var → Sexp → Option ℕ
variable_in vs (atom p bs) = var_named vs bs
variable_in vs (list xs) = nothing

pub variable_found : {A : Type 0} (q : ℕ) (S : State) (x : Sexp) (s : A) → variable q S x s ≡ found q (variable_in S.vars x) s
unfolding variable variable_in name then
variable_found q S (atom p bs) s = refl
variable_found q S (list xs) s = refl

-- Variables, each given once -------------------------------------------------------------------------------------------------------

-- one more behind these
unfoldable pub one_more : List ℕ → Option ℕ → Option (List ℕ)
one_more us nothing = nothing
one_more us (some v) = elim (has us v) [ true ↦ nothing | false ↦ some (us ++ (v ∷ [])) ]

-- these are there already
unfoldable pub others_in : List Var → Sexps → List ℕ → Option (List ℕ)
others_in vs nil us = some us
others_in vs (cons x xs) us = elim (one_more us (variable_in vs x)) [ nothing ↦ nothing | some ws ↦ others_in vs xs ws ]

unfoldable pub vars_in : List Var → Sexp → Option (List ℕ)
vars_in vs (atom p bs) = nothing
vars_in vs (list xs) = others_in vs xs []
