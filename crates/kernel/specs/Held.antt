-- Tables that hold a part of a theory in their first cells, and what the writers of declarations cite. Assumes nothing.
use Rattle.std.specs.Prelude.{◌≡◌, ℕ, ◌+◌, ◌*◌, ◌^◌, ◌<◌, ◌≤◌, List, [], ◌∷◌, ◌++◌, length, Result, Ok, Err}
use Rattle.std.proofs.lemmas.List.Edits.{sets}
use Rattle.rules.specs.Limits.{LENGTH, SORTS, SYMBOLS, ARGUMENTS}
use Rattle.rules.specs.Out.{Out, ok, refuse}
use Rattle.rules.specs.Sexp.{Sexps, count, Name}
use Rattle.rules.specs.Theory.{Theory, Symbol}
use Rattle.rules.specs.Laws.Theory.{All}
use Rattle.rules.specs.TheoryTables.{filled, sort_cells, symbol_cells, input_cells}
use Rattle.rules.specs.Laws.Declaring.{with_sort, with_symbol}
use Rattle.sexp.specs.Items.{Holds}
use Rattle.sexp.specs.NameRows.{NameIn}
use Rattle.questions.specs.declared.Question.{Question}
use Rattle.questions.specs.Numbers.{number_of, detail_of}

-- the first cells of a table are these
pub record Front (table xs : List ℕ) : Type 0 where
  pub rest : List ℕ
  pub is : table ≡ xs ++ rest

-- a name fits into two cells from a place on
pub record NameFits (room at start end : ℕ) : Type 0 where
  pub inside : at + 1 < room
  pub first : start < 2 ^ 32
  pub last : end < 2 ^ 32

-- the items of a form of n items, in a text that is not too long
pub record Form (text items : List ℕ) (n : ℕ) : Type 0 where
  pub xs : Sexps
  pub holds : Holds text items xs
  pub many : n ≡ count xs
  pub short : length text ≤ LENGTH

-- Sorts --------------------------------------------------------------------------------------------------------------------------

pub record SortsHeld (text table : List ℕ) (count : ℕ) (ns : List Name) : Type 0 where
  pub many : length ns ≡ count
  pub long : length table ≡ 2 * SORTS
  pub front : Front table (sort_cells ns)
  pub names : All (NameIn text) ns

abbrev pub SomeSorts : List ℕ → List ℕ → ℕ → Type 0
SomeSorts text table count = (ns : List Name) × SortsHeld text table count ns

-- what the definition gives is a sort more, and n are held now
pub record SortStored (text table : List ℕ) (T : Theory) (given : Out Theory (Unit {0})) (n : ℕ) : Type 0 where
  pub name : Name
  pub is : given ≡ ok tt (with_sort T name)
  pub held : SortsHeld text table n (T.sorts ++ (name ∷ []))

-- Symbols ------------------------------------------------------------------------------------------------------------------------

-- items that name argument sorts, beside a row for them
pub record Gathering (text cells sorts : List ℕ) (known room : ℕ) : Type 0 where
  pub xs : Sexps
  pub holds : Holds text cells xs
  pub held : SomeSorts text sorts known
  pub long : room ≡ ARGUMENTS

-- so many argument sorts are in the row now
pub record ArgumentsStored (before after : List ℕ) (count : ℕ) (given : Out (Unit {0}) (List ℕ)) (n : ℕ) : Type 0 where
  pub sorts : List ℕ
  pub is : given ≡ ok sorts tt
  pub many : n ≡ count + length sorts
  pub most : n ≤ ARGUMENTS
  pub cells : after ≡ sets before count sorts

abbrev pub ArgumentsRead : List ℕ → List ℕ → ℕ → Out (Unit {0}) (List ℕ) → Result ℕ Question → Type 0
ArgumentsRead before after count given (Ok n) = ArgumentsStored before after count given n
ArgumentsRead before after count given (Err e) = given ≡ refuse (number_of e) (detail_of e) tt

pub record SymbolsHeld (text symbols inputs : List ℕ) (count : ℕ) (ss : List Symbol) : Type 0 where
  pub many : length ss ≡ count
  pub long : length symbols ≡ 4 * SYMBOLS
  pub longs : length inputs ≡ ARGUMENTS * SYMBOLS
  pub front : Front symbols (symbol_cells ss)
  pub fronts : Front inputs (input_cells ss)
  pub names : All (λ s. NameIn text s.name) ss
  pub few : All (λ s. length s.inputs ≤ ARGUMENTS) ss

abbrev pub SomeSymbolsHeld : List ℕ → List ℕ → List ℕ → ℕ → Type 0
SomeSymbolsHeld text symbols inputs count = (ss : List Symbol) × SymbolsHeld text symbols inputs count ss

-- numbers that fit into the cells of a symbol
pub record SymbolFits (room rooms output arity start end row : ℕ) : Type 0 where
  pub long : room ≡ 4 * SYMBOLS
  pub longs : rooms ≡ ARGUMENTS * SYMBOLS
  pub outputs : output < 2 ^ 32
  pub arities : arity < 2 ^ 32
  pub starts : start < 2 ^ 32
  pub ends : end < 2 ^ 32
  pub rows : row ≡ ARGUMENTS

-- these are the cells of a symbol
pub record SymbolIs (text : List ℕ) (s : Symbol) (output arity start end : ℕ) (row : List ℕ) : Type 0 where
  pub named : NameIn text s.name
  pub few : length s.inputs ≤ ARGUMENTS
  pub outputs : s.output ≡ output
  pub arities : length s.inputs ≡ arity
  pub starts : s.name.start ≡ start
  pub ends : start + length s.name.bytes ≡ end
  pub cells : filled ARGUMENTS s.inputs ≡ row

-- what the definition gives is a symbol more, and n are held now
pub record SymbolStored (text symbols inputs : List ℕ) (T : Theory) (given : Out Theory (Unit {0})) (n : ℕ) : Type 0 where
  pub symbol : Symbol
  pub is : given ≡ ok tt (with_symbol T symbol)
  pub held : SymbolsHeld text symbols inputs n (T.symbols ++ (symbol ∷ []))
