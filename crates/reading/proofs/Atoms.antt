-- An item that is an atom, by its bytes: the index that it spells, the variable that it names. Assumes nothing.
use mathlib.Core.Path.{◌≡◌, sym, ap, ◌∙◌}
use Rattle.std.specs.Prelude.{Option, None as nothing}
use mathlib.Core.List.{List}
use Prim.Native.Nat.{ℕ}
use Rattle.rules.specs.Sexp.{Sexp, Sexps, atom, list, cons, item}
use Rattle.rules.specs.Index.{index_of}
use Rattle.rules.specs.State.{Var, var_named}
use Rattle.reading.specs.Items.{index_in, variable_in}

module _ (x : Sexp) (ys : Sexps) where
  -- it is a list
  module _ (l : (xs : Sexps) × (item (cons x ys) 0 ≡ list xs)) where
    pub no_index : nothing ≡ index_in x
    unfolding item index_in
    no_index = ap index_in (sym l.1)

    pub no_variable : (vs : List Var) → nothing ≡ variable_in vs x
    unfolding item variable_in
    no_variable vs = ap (variable_in vs) (sym l.1)

  -- it is an atom with these bytes
  module _ {name : List ℕ} (a : (p : ℕ) × (item (cons x ys) 0 ≡ atom p name)) {r : Option ℕ} where
    pub index_spelt : r ≡ index_of name → r ≡ index_in x
    unfolding item index_in
    index_spelt s = s ∙ ap index_in (sym a.1)

    pub variable_named : (vs : List Var) → r ≡ var_named vs name → r ≡ variable_in vs x
    unfolding item variable_in
    variable_named vs s = s ∙ ap (variable_in vs) (sym a.1)
