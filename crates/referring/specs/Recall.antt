-- What the functions of this crate are given: texts and tables that stand for a state, with the items that the cells hold. Each record holds the
-- state and the items, so that a contract says its answer of whatever they are. Assumes nothing.
use Rattle.std.specs.Prelude.{◌≡◌, List, [], ◌∷◌, ℕ, ◌<◌, length, get_or}
use Rattle.rules.specs.Sexp.{Sexp, Sexps, cons}
use Rattle.rules.specs.Store.{Made}
use Rattle.rules.specs.State.{State, Fact}
use Rattle.sexp.specs.Items.{Holds}
use Rattle.terms.specs.declared.store.Mark.{Mark}
use Rattle.terms.specs.Table.{made, Good}
use Rattle.state.specs.declared.sizes.Sizes.{Sizes}
use Rattle.state.specs.Held.{Names, records, Recorded}
use Rattle.state.specs.RowCells.{no_fact}
use Rattle.state.specs.Rows.{cell}
use Rattle.reading.specs.Given.{Reads}

-- fact i
abbrev pub fact_of : State → ℕ → Fact
fact_of S i = get_or S.facts i no_fact

-- the judgments of facts, by their numbers
unfoldable pub judgment_cells : List ℕ → List ℕ → List ℕ
judgment_cells facts [] = []
judgment_cells facts (h ∷ hs) = cell 6 facts h 0 ∷ judgment_cells facts hs

-- the facts in their tables, beside the store
pub record Recalls (facts lists : List ℕ) (n : Sizes) (I W : List ℕ) (m : Mark) : Type 0 where
  pub S : State
  pub footings : List ℕ
  pub many : length S.vars ≡ n.vars
  pub recorded : Recorded (records facts footings lists) n (made I W m) S
  pub good : Good I W m

-- one fact in the tables
pub record RecallsFact (facts footings lists : List ℕ) (i : ℕ) : Type 0 where
  pub S : State
  pub n : Sizes
  pub trees : Made
  pub recorded : Recorded (records facts footings lists) n trees S
  pub there : i < n.facts

-- the facts in their tables, beside the store, and the cells begin with an item
pub record BareItem (text facts : List ℕ) (n : Sizes) (m : Mark) (cells : List ℕ) : Type 0 where
  pub S : State
  pub index : List ℕ
  pub words : List ℕ
  pub footings : List ℕ
  pub lists : List ℕ
  pub x : Sexp
  pub ys : Sexps
  pub recorded : Recorded (records facts footings lists) n (made index words m) S
  pub good : Good index words m
  pub holds : Holds text cells (cons x ys)

-- the texts and tables from which references are read: terms, and facts
pub record Refers (K : Names) (facts footings lists : List ℕ) (n : Sizes) (I W : List ℕ) (m : Mark) (S : State) : Type 0 where
  pub reads : Reads K n I W m S
  pub recorded : Recorded (records facts footings lists) n (made I W m) S

-- and the cells begin with an item
pub record RefersItem (K : Names) (facts : List ℕ) (n : Sizes) (I W : List ℕ) (m : Mark) (cells : List ℕ) : Type 0 where
  pub S : State
  pub footings : List ℕ
  pub lists : List ℕ
  pub x : Sexp
  pub ys : Sexps
  pub refers : Refers K facts footings lists n I W m S
  pub holds : Holds K.text cells (cons x ys)

-- and the cells hold some items
pub record RefersItems (K : Names) (facts : List ℕ) (n : Sizes) (I W : List ℕ) (m : Mark) (cells : List ℕ) : Type 0 where
  pub S : State
  pub footings : List ℕ
  pub lists : List ℕ
  pub xs : Sexps
  pub refers : Refers K facts footings lists n I W m S
  pub holds : Holds K.text cells xs

-- terms of the store, by their numbers
pub record ReadableAll (I W : List ℕ) (m : Mark) (ids : List ℕ) : Type 0 where
  pub good : Good I W m
  pub there : (k : ℕ) → k < length ids → get_or ids k 0 < m.terms
