-- What a form is given that reads terms, whose state has the store's trees; and what it answers where a question is left. Assumes nothing.
use Rattle.std.specs.Prelude.{◌≡◌, List, ℕ, ◌≤◌}
use Rattle.rules.specs.Out.{Out, refuse}
use Rattle.rules.specs.Sexp.{Sexps, count}
use Rattle.rules.specs.State.{State}
use Rattle.rules.specs.Forms.{with_made}
use Rattle.rules.specs.Laws.Keeping.{Grows}
use Rattle.rules.specs.Laws.Sound.{sound}
use Rattle.sexp.specs.Items.{Holds}
use Rattle.terms.specs.declared.store.Mark.{Mark}
use Rattle.terms.specs.Table.{made, Grown}
use Rattle.state.specs.declared.sizes.Sizes.{Sizes}
use Rattle.state.specs.Held.{Names}
use Rattle.reading.specs.Given.{Reads}

-- terms are read, the state's trees are those of the store, and the cells hold the items of a form, at least so many
pub record ReadsForm (K : Names) (n : Sizes) (I W : List ℕ) (m : Mark) (cells : List ℕ) (least : ℕ) : Type 0 where
  pub S : State
  pub xs : Sexps
  pub reads : Reads K n I W m S
  pub store : made I W m ≡ S.made
  pub holds : Holds K.text cells xs
  pub many : least ≤ count xs

-- trees are made behind those of the store
pub record Makes (I W J X : List ℕ) (old new : Mark) : Type 0 where
  pub grown : Grown I W J X old new
  pub grows : Grows sound (made I W old) (made J X new)

-- the form refuses by question q: its state is the one before, with the trees that were made until then
pub record Halts (I W J X : List ℕ) (old : Mark) (S : State) (K : Out State (Unit {0})) (q d : ℕ) (new : Mark) : Type 0 where
  pub makes : Makes I W J X old new
  pub is : K ≡ refuse q d (with_made S (made J X new))
