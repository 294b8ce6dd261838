-- What the contracts of the steps of `term` and `judgment` cite: an atom by its place, and the symbol that a list begins with. Assumes nothing.
use Rattle.std.specs.Prelude.{◌≡◌, List, ℕ, ◌-◌, ◌<◌, length, take, drop, Result, Ok, Err}
use Rattle.rules.specs.Out.{Act, refuse, then, ask}
use Rattle.rules.specs.Sexp.{Sexps}
use Rattle.rules.specs.Tree.{Tree, Trees, app}
use Rattle.rules.specs.Store.{Made, keep}
use Rattle.rules.specs.Theory.{inputs}
use Rattle.rules.specs.State.{State, fit}
use Rattle.rules.specs.Read.{terms}
use Rattle.sexp.specs.Items.{Holds}
use Rattle.kernel.specs.Held.{SymbolsHeld}
use Rattle.terms.specs.declared.store.Mark.{Mark}
use Rattle.state.specs.declared.sizes.Sizes.{Sizes}
use Rattle.state.specs.Held.{Names}
use Rattle.questions.specs.Numbers.{number_of, detail_of}
use Rattle.questions.specs.declared.Question.{Question}
use Rattle.reading.specs.Given.{Reads}

-- texts and tables stand for a state, and an atom begins at a place of the text
pub record ReadsAtom (K : Names) (n : Sizes) (I W : List ℕ) (m : Mark) (start : ℕ) : Type 0 where
  pub S : State
  pub reads : Reads K n I W m S
  pub inside : start < length K.text

-- a table of symbols, and the cells hold some items
pub record Opens (theory text symbols : List ℕ) (count : ℕ) (cells : List ℕ) : Type 0 where
  pub S : State
  pub ins : List ℕ
  pub xs : Sexps
  pub held : SymbolsHeld theory symbols ins count S.theory.symbols
  pub holds : Holds text cells xs

-- what is left behind the arguments of symbol c
abbrev pub finish : State → ℕ → Trees → Act Made Tree
finish S c ts s = then (ask 23 (fit S.theory S.vars ts (inputs S.theory c)) s) (λ _ u. keep (app c ts) u)

-- the items begin with symbol c, and its arguments come next, in the cells behind the first
pub record Opened (text cells : List ℕ) (count : ℕ) (S : State) (Q : Act Made Tree) (c : ℕ) : Type 0 where
  pub others : Sexps
  pub rest : Holds text (take (length cells - 1) (drop 1 cells)) others
  pub some : 0 < length cells
  pub known : c < count
  pub is : (M : Made) → Q M ≡ then (terms S others M) (finish S c)

abbrev pub OpenedAs : List ℕ → List ℕ → ℕ → State → Act Made Tree → Result ℕ Question → Type 0
OpenedAs text cells count S Q (Ok c) = Opened text cells count S Q c
OpenedAs text cells count S Q (Err q) = (M : Made) → Q M ≡ refuse (number_of q) (detail_of q) M
