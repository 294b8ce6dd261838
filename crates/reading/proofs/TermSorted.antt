-- A term of a sort that is expected. Assumes nothing.
use mathlib.Core.Path.{◌≡◌, sym, ◌∙◌}
use mathlib.Core.List.{List}
use Prim.Native.Nat.{ℕ}
use lib.Dec.{eqb}
use borrow.Author.Tests.{eq-eqb, ne_eqb}
use Rattle.rules.specs.Out.{Out, ok, then, ask}
use Rattle.rules.specs.Sexp.{Sexp}
use Rattle.rules.specs.Tree.{Tree}
use Rattle.rules.specs.Store.{Made}
use Rattle.rules.specs.State.{State, sort_of}
use Rattle.rules.specs.Read.{term, term_of}
use Rattle.terms.specs.declared.store.Mark.{Mark}
use Rattle.terms.specs.Table.{made, tree, Good}
use Rattle.terms.specs.On.{Stopped, On, on_start, on_ok, on_no, on_ask_yes, on_ask_no, on_done}
use Rattle.reading.specs.Answers.{TermRead, TypedRead}

module _ {I W : List ℕ} {m : Mark} (g : Good I W m) (S : State) (x : Sexp) (sort : ℕ) (J X : List ℕ) (new : Mark) where
  sorting : Tree → Made → Out Made Tree
  sorting t s = then (ask 23 (eqb (sort_of S.theory S.vars t) sort) s) (λ _ u. ok t u)

  begun : On I W m (term_of S x sort (made I W m)) I W m (then (term S x (made I W m)) sorting)
  unfolding term_of sorting
  begun = on_start g

  pub sorted_stops : (q d : ℕ) → Stopped I W J X m (term S x (made I W m)) q d new → Stopped I W J X m (term_of S x sort (made I W m)) q d new
  sorted_stops q d a = on_no sorting begun a

  module _ (id is : ℕ) (read_so : TypedRead I W J X m S (term S x (made I W m)) id is new) where
    asked : On I W m (term_of S x sort (made I W m)) J X new
        (then (ask 23 (eqb (sort_of S.theory S.vars (tree J X new id)) sort) (made J X new)) (λ _ u. ok (tree J X new id) u))
    unfolding sorting
    asked = on_ok sorting begun read_so.read.went

    pub sorted_misfit : (is ≡ sort → ⊥) → Stopped I W J X m (term_of S x sort (made I W m)) 23 0 new
    sorted_misfit y = on_ask_no (λ _ u. ok (tree J X new id) u) 23 asked (ne_eqb _ sort (λ e. y (read_so.sorted ∙ e)))

    pub sorted_read : is ≡ sort → TermRead I W J X m (term_of S x sort (made I W m)) id new
    sorted_read y =
        record {
          went = on_done (on_ask_yes (λ _ u. ok (tree J X new id) u) 23 asked (eq-eqb _ sort (sym read_so.sorted ∙ y)));
          there = read_so.read.there;
        }
