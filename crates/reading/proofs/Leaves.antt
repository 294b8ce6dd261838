-- What the parts of reading a term cite: the sort of a term of the store, an abbreviation, a variable or a constructor without arguments.
-- Assumes nothing.
use mathlib.Core.Path.{◌≡◌, refl, sym, ap, ◌∙◌, subst}
use mathlib.Core.Bool.{Bool, true, false}
use Rattle.std.specs.Prelude.{Option, Some as some, None as nothing, Result}
use mathlib.Core.List.{List, [], ◌∷◌, ◌++◌}
use Prim.Native.Nat.{ℕ, ◌-◌, ◌*◌, ◌<◌, ◌≤◌}
use native.Mathlib.Omega.{arith}
use native.Mathlib.Decide.{dec_lt, dec_le}
use lib.ListN.{length, get_or, take, replicate, get_or-eq_default}
use lib.Seq.{get_or-take}
use Rattle.rules.specs.Limits.{SYMBOLS, VARIABLES}
use Rattle.rules.specs.Out.{Out, ok, refuse, then, Act, ◌>>=◌, ask, found}
use Rattle.rules.specs.Tree.{Tree, var, app, none}
use Rattle.rules.specs.Store.{Made, keep}
use Rattle.rules.specs.Theory.{Theory, Symbol, no_symbol, inputs, output, constructor_named}
use Rattle.rules.specs.State.{State, Def, no_var, sort_of, sort_of_var, var_named, abbreviated, is_empty}
use Rattle.rules.specs.Read.{named}
use Rattle.rules.specs.TheoryTables.{filled, rows, symbol_row, symbol_table}
use Rattle.rules.specs.Laws.Row.{length_filled, length_rows, row_cell, append-nil}
use Rattle.rules.specs.Laws.Store.{then_ok, then_refuse}
use Rattle.sexp.specs.FoundLaws.{found_at, found_missing, found_entry}
use Rattle.kernel.specs.Held.{SymbolsHeld}
use Rattle.kernel.specs.Readers.{KnownSymbol}
use Rattle.kernel.specs.SignatureRows.{symbols_few, symbol_row_four}
use Rattle.terms.specs.declared.store.Mark.{Mark}
use Rattle.terms.specs.Table.{start, made, tree, tree_at, args_of, Good, Node, Stored}
use Rattle.terms.specs.Node.{HeadIs}
use Rattle.terms.specs.On.{Stopped, pure_went, pure_stopped}
use Rattle.terms.specs.Laws.Variable.{leaf_node}
use Rattle.reading.specs.Laws.Lists.{empty_is, empty_not}
use Rattle.terms.specs.Laws.Tables.{tree_app}
use Rattle.terms.specs.Laws.Terms.{head_tree, term_app, term_var, variable_small}
use Rattle.terms.specs.Laws.Numbers.{stored_is}
use Rattle.terms.specs.Laws.Growth.{made_length}
use Rattle.state.specs.Rows.{cell, DefFound}
use Rattle.state.specs.Filled.{filled_at}
use Rattle.state.specs.VarLaws.{vars_long, var_sort_is}
use Rattle.state.specs.declared.sizes.Sizes.{Sizes}
use Rattle.reading.specs.declared.term.Typed.{Typed}
use Rattle.reading.specs.Given.{ReadsTerm, ReadsDefs, ReadsNames}
use Rattle.questions.specs.declared.Question.{Question}
use Rattle.reading.specs.Answers.{TypedRead, TypedBy}

-- The table of symbols ----------------------------------------------------------------------------------------------------------------

-- a cell of a table is that of what it was filled with
filled_cell : (n : ℕ) (xs : List ℕ) (i : ℕ) → i < n → get_or (filled n xs) i 0 ≡ get_or xs i 0
unfolding filled
filled_cell n xs i l = elim (dec_le (length xs) n) [
  | yes p ↦ filled_at n xs p i
  | no q ↦
      let z : n - length xs ≡ 0 = omega arith in
      ap (λ k. get_or (take n xs ++ replicate k 0) i 0) z ∙ ap (λ l. get_or l i 0) (append-nil (take n xs)) ∙ get_or-take n xs i 0 l
]

symbol_output : (ss : List Symbol) (c : ℕ) → get_or (rows symbol_row ss) (4 * c) 0 ≡ (get_or ss c no_symbol).output
unfolding symbol_row
symbol_output ss c = elim (dec_lt c (length ss)) [
  | yes p ↦
      ap (λ l. get_or l (4 * c) 0) (sym (append-nil (rows symbol_row ss)))
      ∙ row_cell symbol_row 4 symbol_row_four ss [] c 0 (4 * c) no_symbol p (omega arith) (omega arith)
  | no q ↦
      get_or-eq_default (rows symbol_row ss) 0 {n = 4 * c} (omega (arith, length_rows symbol_row 4 symbol_row_four ss))
      ∙ sym (ap (λ (s : Symbol). s.output) (get_or-eq_default ss no_symbol {n = c} (omega arith)))
]

module _ (T : Theory) (symbols : List ℕ) (e : symbols ≡ symbol_table T) where
  table_long : length symbols ≡ 4 * SYMBOLS
  unfolding symbol_table
  table_long = ap length e ∙ length_filled (4 * SYMBOLS) (rows symbol_row T.symbols)

  table_output : (c : ℕ) → c < SYMBOLS → get_or symbols (4 * c) 0 ≡ output T c
  unfolding symbol_table output
  table_output c l =
      ap (λ l. get_or l (4 * c) 0) e ∙ filled_cell (4 * SYMBOLS) (rows symbol_row T.symbols) (4 * c) (omega arith) ∙ symbol_output T.symbols c

-- The sort of a term of the store -------------------------------------------------------------------------------------------------------

module _ {symbols vars I W : List ℕ} {id : ℕ} (g : ReadsTerm symbols vars I W id) (word : ℕ) (h : HeadIs I W id word) where
  head_word : word ≡ get_or W (start I id) 0
  head_word = h g.mark g.good g.there ∙ sym (head_tree I W g.mark g.good id g.there (start I id) refl)

  pub sort_place : word < SYMBOLS → 4 * word < length symbols
  sort_place l = omega (arith, table_long g.S.theory symbols g.symbols_are)

  pub sort_app : word < SYMBOLS → get_or symbols (4 * word) 0 ≡ sort_of g.S.theory g.S.vars (tree I W g.mark id)
  unfolding sort_of
  sort_app l =
      let k : get_or W (start I id) 0 < SYMBOLS = omega (arith, head_word) in
      table_output g.S.theory symbols g.symbols_are word l ∙ ap (output g.S.theory) head_word
      ∙ sym (ap (sort_of g.S.theory g.S.vars) (term_app I W g.mark g.good id g.there (start I id) refl k))

  module _ (l : SYMBOLS ≤ word) where
    variable_word : SYMBOLS ≤ get_or W (start I id) 0
    variable_word = omega (arith, head_word, l)

    pub sort_asks : (length vars ≡ 4 * VARIABLES) × (word - SYMBOLS < VARIABLES)
    sort_asks =
        let s = variable_small I W g.mark g.good id g.there (start I id) refl variable_word in (vars_long g.vars_are, omega (arith, head_word))

    pub sort_var : {r : ℕ} → r ≡ cell 4 vars (word - SYMBOLS) 0 → r ≡ sort_of g.S.theory g.S.vars (tree I W g.mark id)
    unfolding sort_of
    sort_var e =
        e ∙ var_sort_is g.vars_are (word - SYMBOLS) ∙ ap (λ w. sort_of_var g.S.vars (w - SYMBOLS)) head_word
        ∙ sym (ap (sort_of g.S.theory g.S.vars) (term_var I W g.mark g.good id g.there (start I id) refl variable_word))

-- A node that came into the store -------------------------------------------------------------------------------------------------------

pub kept_typed : {I W J X : List ℕ} {old new : Mark} {t : Tree} {K : Out Made Tree} {n sort : ℕ} (S : State) →
    Stored I W J X old t K n new → sort ≡ sort_of S.theory S.vars t → TypedRead I W J X old S K n sort new
kept_typed {I} {W} {J} {X} {old} {new} {t} {K} {n} {sort} S s e =
    let i : tree J X new n ≡ t = stored_is s in
    record {
      read = record { went = record { grown = s.grown; makes = s.makes ∙ ap (λ u. ok u (made J X new)) (sym i) }; there = s.there };
      sorted = e ∙ ap (sort_of S.theory S.vars) (sym i);
    }

-- Abbreviations -------------------------------------------------------------------------------------------------------------------------

module _ (M : Made) (ds : List Def) (name : List ℕ) (r : Option ℕ) (d : DefFound M ds name r) where
  def_found : {t : ℕ} → r ≡ some t → (abbreviated ds name ≡ some (get_or M t (var 0))) × (t < length M)
  def_found e = subst (DefFound M ds name) e d

  def_missing : r ≡ nothing → abbreviated ds name ≡ nothing
  def_missing e = subst (DefFound M ds name) e d

module _ {text symbols vars defs : List ℕ} {n : Sizes} {I W : List ℕ} {m : Mark} (g : ReadsDefs text symbols vars defs n I W m)
    (name : List ℕ) (r : Option ℕ) (d : DefFound (made I W m) g.S.defs name r) where
  pub found_def : {t : ℕ} → r ≡ some t → (abbreviated g.S.defs name ≡ some (tree I W m t)) × (t < length (made I W m))
  found_def e = def_found (made I W m) g.S.defs name r d e

  abbrev pub def_known : {t : ℕ} → r ≡ some t → ReadsTerm symbols vars I W t
  def_known e =
      record {
        S = g.S;
        mark = m;
        count = n.vars;
        symbols_are = g.symbols_are;
        vars_are = g.vars_are;
        good = g.good;
        there = omega (arith, (found_def e).1, made_length I W m);
      }

  pub def_typed : {t sort : ℕ} → r ≡ some t → sort ≡ sort_of g.S.theory g.S.vars (tree I W m t) →
      TypedRead I W I W m g.S (found 22 (abbreviated g.S.defs name) (made I W m)) t sort m
  def_typed e s =
      record {
        read = record {
          went = pure_went g.good (ap (λ (o : Option Tree). found 22 o (made I W m)) (found_def e).0);
          there = omega (arith, (found_def e).1, made_length I W m);
        };
        sorted = s;
      }

  pub def_none : r ≡ nothing → Stopped I W I W m (found 22 (abbreviated g.S.defs name) (made I W m)) 22 0 m
  def_none e = pure_stopped g.good (ap (λ (o : Option Tree). found 22 o (made I W m)) (def_missing (made I W m) g.S.defs name r d e))

-- Names -----------------------------------------------------------------------------------------------------------------------------------

-- a constructor without arguments
abbrev constant : State → List ℕ → Act Made Tree
constant S n = do
  c ← found 22 (constructor_named S.theory n)
  _ ← ask 23 (is_empty (inputs S.theory c))
  keep (app c none)

module _ (S : State) (n : List ℕ) (M : Made) where
  named_is : (o : Option ℕ) → var_named S.vars n ≡ o → named S n M ≡ (elim o as (λ (z : Option ℕ). Act Made Tree) [ some v ↦ keep (var v) | nothing ↦ constant S n ]) M
  unfolding named
  named_is o e = ap (λ (o : Option ℕ). (elim o as (λ (z : Option ℕ). Act Made Tree) [ some v ↦ keep (var v) | nothing ↦ constant S n ]) M) e

  named_var : (v : ℕ) → var_named S.vars n ≡ some v → named S n M ≡ keep (var v) M
  named_var v e = named_is (some v) e

  module _ (e : var_named S.vars n ≡ nothing) where
    pub named_unknown : constructor_named S.theory n ≡ nothing → named S n M ≡ refuse 22 0 M
    named_unknown f =
        named_is nothing e ∙ then_refuse (found 22 (constructor_named S.theory n) M) 22 0 M _ (ap (λ (o : Option ℕ). found 22 o M) f)

    module _ (c : ℕ) (f : constructor_named S.theory n ≡ some c) where
      named_asks : named S n M ≡ then (ask 23 (is_empty (inputs S.theory c)) M) (λ _ m. keep (app c none) m)
      named_asks = named_is nothing e ∙ then_ok (found 22 (constructor_named S.theory n) M) c M _ (ap (λ (o : Option ℕ). found 22 o M) f)

      pub named_many : is_empty (inputs S.theory c) ≡ false → named S n M ≡ refuse 23 0 M
      named_many q = named_asks ∙ then_refuse (ask 23 (is_empty (inputs S.theory c)) M) 23 0 M _ (ap (λ (b : Bool). ask 23 b M) q)

      pub named_app : is_empty (inputs S.theory c) ≡ true → c < SYMBOLS → named S n M ≡ keep (tree_at M (c ∷ [])) M
      unfolding args_of
      named_app q l =
          named_asks ∙ then_ok (ask 23 (is_empty (inputs S.theory c)) M) tt M _ (ap (λ (b : Bool). ask 23 b M) q)
          ∙ ap (λ t. keep t M) (sym (tree_app M c [] l))

-- a node without arguments
module _ {theory goals text symbols vars : List ℕ} {n : Sizes} {I W : List ℕ} {m : Mark} (g : ReadsNames theory goals text symbols vars n I W m)
    (name : List ℕ) where
  -- The variable of that name
  module _ {r : Option ℕ} (a : r ≡ (var_named g.S.vars name)) where
    module _ (v : ℕ) (e : r ≡ some v) where
      pub var_small : v < VARIABLES
      unfolding var_named
      var_small = omega (arith, (found_entry _ g.S.vars no_var r v a e).inside, g.vars_are.stand.many, g.vars_are.stand.few)

      pub var_asks : (length vars ≡ 4 * VARIABLES) × (v < VARIABLES)
      var_asks = (vars_long g.vars_are.stand, var_small)

      pub var_kept : Good I W m × (v < VARIABLES)
      var_kept = (g.good, var_small)

      pub var_sorted : {s : ℕ} → s ≡ cell 4 vars v 0 → s ≡ sort_of g.S.theory g.S.vars (var v)
      unfolding sort_of
      var_sorted f = f ∙ var_sort_is g.vars_are.stand v

      pub var_kept_is : named g.S name (made I W m) ≡ keep (var v) (made I W m)
      var_kept_is = named_var g.S name (made I W m) v (found_at _ r v a e)

    -- The constructor of that name
    module _ (e : r ≡ nothing) {k : Option ℕ} (b : k ≡ (constructor_named g.S.theory name)) where
      no_var_lem : var_named g.S.vars name ≡ nothing
      no_var_lem = found_missing _ r a e

      pub name_unknown : k ≡ nothing → Stopped I W I W m (named g.S name (made I W m)) 22 0 m
      name_unknown f = pure_stopped g.good (named_unknown g.S name (made I W m) no_var_lem (found_missing _ k b f))

      module _ (c : ℕ) (f : k ≡ some c) where
        constant_there : c < n.symbols
        unfolding constructor_named
        constant_there = omega (arith, (found_entry _ g.S.theory.symbols no_symbol k c b f).inside, g.held.many)

        pub constant_small : c < SYMBOLS
        constant_small = omega (arith, constant_there, symbols_few g.held)

        pub constant_known : KnownSymbol symbols c
        constant_known = record { text = theory; inputs = g.inputs; count = n.symbols; held = (g.S.theory.symbols, g.held); known = constant_there }

        pub constant_kept : Good I W m × Node m.terms (c ∷ [])
        constant_kept = (g.good, leaf_node m.terms c constant_small)

        module _ {s : ℕ} (p : (T : Theory) (text ins : List ℕ) (count : ℕ) → SymbolsHeld text symbols ins count T.symbols → c < count → s ≡ output T c)
          where
            pub constant_sorted : s ≡ sort_of g.S.theory g.S.vars (tree_at (made I W m) (c ∷ []))
            unfolding sort_of
            constant_sorted =
                p g.S.theory theory g.inputs n.symbols g.held constant_there
                ∙ sym (ap (sort_of g.S.theory g.S.vars) (tree_app (made I W m) c [] constant_small))

        module _ {s : ℕ} (p : (T : Theory) (text ins : List ℕ) (count : ℕ) → SymbolsHeld text symbols ins count T.symbols → c < count →
            s ≡ length (inputs T c)) where
          arity_is : s ≡ length (inputs g.S.theory c)
          arity_is = p g.S.theory theory g.inputs n.symbols g.held constant_there

          pub name_many : (s ≡ 0 → ⊥) → Stopped I W I W m (named g.S name (made I W m)) 23 0 m
          name_many q =
              pure_stopped g.good
              (named_many g.S name (made I W m) no_var_lem c (found_at _ k c b f) (empty_not (inputs g.S.theory c) (λ z. q (arity_is ∙ z))))

          pub constant_typed : s ≡ 0 → (J X : List ℕ) (new : Mark) (q : Result Typed Question) →
              TypedBy I W J X m new g.S (keep (tree_at (made I W m) (c ∷ [])) (made I W m)) q →
              TypedBy I W J X m new g.S (named g.S name (made I W m)) q
          constant_typed z J X new q t =
              subst (λ (K : Out Made Tree). TypedBy I W J X m new g.S K q)
              (sym (named_app g.S name (made I W m) no_var_lem c (found_at _ k c b f) (empty_is (inputs g.S.theory c) (sym arity_is ∙ z)) constant_small)) t
