-- One binding, `(VAR TERM)`: what the item is for each answer, and what its parts are given. Assumes nothing.
use mathlib.Core.Path.{◌≡◌, refl, sym, ap, ◌∙◌, subst}
use Rattle.std.specs.Prelude.{Some as some, None as nothing, Option, Result, Ok, Err}
use mathlib.Core.List.{List}
use Prim.Native.Nat.{ℕ, ◌*◌, ◌<◌}
use native.Mathlib.Omega.{arith}
use lib.ListN.{length, drop}
use borrow.Author.Tests.{ne_eqb}
use Rattle.rules.specs.Limits.{VARIABLES}
use Rattle.rules.specs.Out.{Out, ok, then, found}
use Rattle.rules.specs.Sexp.{Sexp, Sexps, list, nil, cons, count, item, items, rest}
use Rattle.rules.specs.Store.{Made}
use Rattle.rules.specs.Unify.{Binding}
use Rattle.rules.specs.State.{State, Var, sort_of_var}
use Rattle.rules.specs.Read.{term_of}
use Rattle.rules.specs.Reference.{binding}
use Rattle.sexp.specs.Encode.{encodes}
use Rattle.sexp.specs.Items.{Holds, place}
use Rattle.sexp.specs.WalkLaws.{AtomIs, Walk, rest_walk}
use Rattle.sexp.specs.Each.{ListOf}
use Rattle.sexp.specs.FoundLaws.{found_at, found_missing}
use Rattle.terms.specs.declared.store.Mark.{Mark}
use Rattle.terms.specs.Table.{made}
use Rattle.terms.specs.On.{On, Stopped, on_start, on_is, on_ok, on_no, on_pure, on_stop, on_done, on_ask_no, on_found_some, on_found_none}
use Rattle.state.specs.declared.sizes.Sizes.{Sizes}
use Rattle.state.specs.Held.{Names, VarsHeld}
use Rattle.state.specs.Rows.{SomeVars, cell}
use Rattle.state.specs.VarLaws.{vars_long, var_sort_is}
use Rattle.reading.specs.Laws.Lists.{variable_below}
use Rattle.reading.specs.Items.{FirstItem, variable_in, variable_found}
use Rattle.reading.specs.Given.{ReadsItem}
use Rattle.reading.specs.Answers.{ReadBy, TermRead, PairRead}
use Rattle.reading.specs.Laws.Reading.{reads_vars}
use Rattle.questions.specs.Numbers.{number_of, detail_of}
use Rattle.questions.specs.declared.Question.{Question}

-- Two items --------------------------------------------------------------------------------------------------------------------------

-- the item is a list of two, and these are their cells
pub record Two (text part : List ℕ) (x : Sexp) : Type 0 where
  pub first : Sexp
  pub second : Sexp
  pub is : x ≡ list (cons first (cons second nil))
  pub holds : Holds text part (cons first (cons second nil))

two_items : {text cells part : List ℕ} {x : Sexp} (l : ListOf text cells x part) → count l.items ≡ 2 → Two text part x
unfolding count
two_items {text} {part = part} {x} l e = go l.items e l.is l.holds
  where
    go : (ys : Sexps) → count ys ≡ 2 → x ≡ list ys → Holds text part ys → Two text part x
    go nil e i h = absurd (omega arith)
    go (cons y nil) e i h = absurd (omega arith)
    go (cons y (cons z nil)) e i h = record { first = y; second = z; is = i; holds = h }
    go (cons y (cons z (cons w ws))) e i h = absurd (omega arith)

-- The definition ---------------------------------------------------------------------------------------------------------------------

-- behind the variable
abbrev valued : State → Sexp → ℕ → Made → Out Made Binding
valued S y v M = then (term_of S y (sort_of_var S.vars v) M) (λ t U. ok (record { variable = v; value = t }) U)

binding_two_is : (S : State) (x y : Sexp) (M : Made) → binding S (list (cons x (cons y nil))) M ≡ then (found 36 (variable_in S.vars x) M) (valued S y)
unfolding binding items count item then
binding_two_is S x y M = ap (λ (o : Out Made ℕ). then o (valued S y)) (variable_found 36 S x M)

-- Answers ----------------------------------------------------------------------------------------------------------------------------

module _ {K : Names} {n : Sizes} {I W : List ℕ} {m : Mark} {cells : List ℕ} (g : ReadsItem K n I W m cells) where
  pub binding_atom_lem : {p : ℕ} → AtomIs K.text g.x p → Stopped I W I W m (binding g.S g.x (made I W m)) 36 0 m
  unfolding binding items
  binding_atom_lem a = on_stop _ (on_start g.reads.good) (ap (λ (z : Sexp). items 36 z (made I W m)) a.is)

  module _ {part : List ℕ} (l : ListOf K.text cells g.x part) {k : ℕ} (c : (ys : Sexps) → part ≡ encodes ys → k ≡ count ys) where
    pub binding_count : (k ≡ 2 → ⊥) → Stopped I W I W m (binding g.S g.x (made I W m)) 36 0 m
    unfolding binding items
    binding_count q =
        on_ask_no _ 36 (on_pure _ (on_start g.reads.good) (ap (λ (z : Sexp). items 36 z (made I W m)) l.is))
        (ne_eqb _ _ (λ z. q (c l.items l.holds.cells ∙ z)))

    pub binding_two : k ≡ 2 → Two K.text part g.x
    binding_two q = two_items l (sym (c l.items l.holds.cells) ∙ q)

  -- the variable and the term
  module _ {part : List ℕ} (p : Two K.text part g.x) where
    pub first_given : FirstItem K.text part × SomeVars K.goals K.text K.vars n.vars
    first_given = (record { x = p.first; ys = cons p.second nil; holds = p.holds }, reads_vars g.reads)

    on_two : On I W m (binding g.S g.x (made I W m)) I W m (then (found 36 (variable_in g.S.vars p.first) (made I W m)) (valued g.S p.second))
    on_two =
        on_is (on_start g.reads.good) (ap (λ (z : Sexp). binding g.S z (made I W m)) p.is ∙ binding_two_is g.S p.first p.second (made I W m))

    module _ {r : Option ℕ} (h : (vs : List Var) (x : Sexp) (ys : Sexps) → VarsHeld K.goals K.text K.vars n.vars vs →
        Holds K.text part (cons x ys) → r ≡ (variable_in vs x)) where
      answer : r ≡ (variable_in g.S.vars p.first)
      answer = h g.S.vars p.first (cons p.second nil) g.reads.spelling.vars p.holds

      pub binding_unnamed : r ≡ nothing → Stopped I W I W m (binding g.S g.x (made I W m)) 36 0 m
      binding_unnamed e = on_found_none _ 36 on_two (found_missing (variable_in g.S.vars p.first) r answer e)

      module _ {v : ℕ} (e : r ≡ some v) where
        is_found : variable_in g.S.vars p.first ≡ some v
        is_found = found_at (variable_in g.S.vars p.first) r v answer e

        pub variable_small : v < VARIABLES
        variable_small =
            omega (arith, variable_below g.S.vars p.first v is_found, g.reads.spelling.vars.stand.many, g.reads.spelling.vars.stand.few)

        pub sort_given : (length K.vars ≡ 4 * VARIABLES) × (v < VARIABLES)
        sort_given = (vars_long g.reads.spelling.vars.stand, variable_small)

        module _ {behind : List ℕ} (q : (xs : Sexps) → part ≡ encodes xs → behind ≡ drop (place xs 1) part) where
          pub second_there : Holds K.text behind (cons p.second nil)
          unfolding rest
          second_there =
              let w : Walk K.text part (place (cons p.first (cons p.second nil)) 1) (cons p.second nil) = rest_walk p.holds 1 _ refl in
              record { cells = q _ p.holds.cells ∙ w.here.lies; spelt = w.spelt }

          abbrev pub second_given : ReadsItem K n I W m behind
          second_given = record { S = g.S; x = p.second; ys = nil; reads = g.reads; holds = second_there }

          module _ {s : ℕ} (sorted : s ≡ cell 4 K.vars v 0) where
            on_found : On I W m (binding g.S g.x (made I W m)) I W m (then (term_of g.S p.second s (made I W m)) (λ t U. ok (record { variable = v; value = t }) U))
            on_found =
                on_is (on_found_some _ 36 on_two is_found)
                (ap (λ (k : ℕ). then (term_of g.S p.second k (made I W m)) (λ t U. ok (record { variable = v; value = t }) U))
                (sym (sorted ∙ var_sort_is g.reads.spelling.vars.stand v)))

            -- o is the answer for the term
            module _ (J X : List ℕ) (new : Mark) (o : Result ℕ Question)
                (t : (h : ReadsItem K n I W m behind) →
                ReadBy I W J X m new (term_of h.S h.x s (made I W m)) o) where
              pub binding_read : {id : ℕ} → o ≡ Ok id → PairRead I W J X m (binding g.S g.x (made I W m)) v id new
              binding_read {id} f =
                  let d : TermRead I W J X m (term_of g.S p.second s (made I W m)) id new =
                  subst (λ z. ReadBy I W J X m new (term_of g.S p.second s (made I W m)) z) f (t second_given) in
                  record { went = on_done (on_ok _ on_found d.went); small = variable_small; there = d.there }

              pub binding_refused : {q : Question} → o ≡ Err q → Stopped I W J X m (binding g.S g.x (made I W m)) (number_of q) (detail_of q) new
              binding_refused f =
                  on_no _ on_found (subst (λ z. ReadBy I W J X m new (term_of g.S p.second s (made I W m)) z) f (t second_given))
