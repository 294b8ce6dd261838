-- What the functions of this crate are given: texts and tables that stand for a state, with the items that the cells hold. Each record holds the
-- state and the items, so that a contract says its answer of whatever they are. Assumes nothing.
use Rattle.std.specs.Prelude.{◌≡◌, List, ℕ, ◌<◌}
use Rattle.rules.specs.Sexp.{Sexp, Sexps, cons}
use Rattle.rules.specs.Store.{Made}
use Rattle.rules.specs.State.{State}
use Rattle.rules.specs.TheoryTables.{symbol_table}
use Rattle.sexp.specs.Items.{Holds}
use Rattle.kernel.specs.Held.{SymbolsHeld}
use Rattle.terms.specs.declared.store.Mark.{Mark}
use Rattle.terms.specs.Table.{made, Good}
use Rattle.state.specs.declared.sizes.Sizes.{Sizes}
use Rattle.state.specs.Held.{VarCells, VarsHeld, DefsHeld, Names, Spelling, records, Recorded}

-- the texts and tables from which terms are read, and the store, stand for S
pub record Reads (K : Names) (n : Sizes) (I W : List ℕ) (m : Mark) (S : State) : Type 0 where
  pub spelling : Spelling K n (made I W m) S
  pub good : Good I W m

-- and the cells begin with an item
pub record ReadsItem (K : Names) (n : Sizes) (I W : List ℕ) (m : Mark) (cells : List ℕ) : Type 0 where
  pub S : State
  pub x : Sexp
  pub ys : Sexps
  pub reads : Reads K n I W m S
  pub holds : Holds K.text cells (cons x ys)

-- and the cells hold some items
pub record ReadsItems (K : Names) (n : Sizes) (I W : List ℕ) (m : Mark) (cells : List ℕ) : Type 0 where
  pub S : State
  pub xs : Sexps
  pub reads : Reads K n I W m S
  pub holds : Holds K.text cells xs

-- Parts of it ------------------------------------------------------------------------------------------------------------------------

-- a term of the store, and the tables that give its sort
pub record ReadsTerm (symbols vars I W : List ℕ) (id : ℕ) : Type 0 where
  pub S : State
  pub mark : Mark
  pub count : ℕ
  pub symbols_are : symbols ≡ symbol_table S.theory
  pub vars_are : VarCells vars count S.vars
  pub good : Good I W mark
  pub there : id < mark.terms

-- abbreviations, and the tables that give a term's sort
pub record ReadsDefs (text symbols vars defs : List ℕ) (n : Sizes) (I W : List ℕ) (m : Mark) : Type 0 where
  pub S : State
  pub symbols_are : symbols ≡ symbol_table S.theory
  pub vars_are : VarCells vars n.vars S.vars
  pub defs_are : DefsHeld text defs n.defs (made I W m) S.defs
  pub good : Good I W m

-- names of variables and constructors
pub record ReadsNames (theory goals text symbols vars : List ℕ) (n : Sizes) (I W : List ℕ) (m : Mark) : Type 0 where
  pub S : State
  pub inputs : List ℕ
  pub held : SymbolsHeld theory symbols inputs n.symbols S.theory.symbols
  pub vars_are : VarsHeld goals text vars n.vars S.vars
  pub good : Good I W m

-- Variables and facts ----------------------------------------------------------------------------------------------------------------

-- variables, and the cells begin with an item
pub record VarsItem (goals text vars : List ℕ) (count : ℕ) (cells : List ℕ) : Type 0 where
  pub S : State
  pub x : Sexp
  pub ys : Sexps
  pub vars_are : VarsHeld goals text vars count S.vars
  pub holds : Holds text cells (cons x ys)

-- facts, and the cells begin with an item
pub record FactsItem (text facts : List ℕ) (n : Sizes) (cells : List ℕ) : Type 0 where
  pub S : State
  pub made_trees : Made
  pub footings : List ℕ
  pub lists : List ℕ
  pub x : Sexp
  pub ys : Sexps
  pub recorded : Recorded (records facts footings lists) n made_trees S
  pub holds : Holds text cells (cons x ys)

-- the same, and the cells hold some items
pub record VarsItems (goals text vars : List ℕ) (count : ℕ) (cells : List ℕ) : Type 0 where
  pub S : State
  pub xs : Sexps
  pub vars_are : VarsHeld goals text vars count S.vars
  pub holds : Holds text cells xs

pub record FactsItems (text facts : List ℕ) (n : Sizes) (cells : List ℕ) : Type 0 where
  pub S : State
  pub made_trees : Made
  pub footings : List ℕ
  pub lists : List ℕ
  pub xs : Sexps
  pub recorded : Recorded (records facts footings lists) n made_trees S
  pub holds : Holds text cells xs
