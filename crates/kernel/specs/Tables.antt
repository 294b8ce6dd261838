-- The tables of a theory as they are lent, and what a declaration leaves in them. Assumes nothing.
use Rattle.std.specs.Prelude.{◌≡◌, ℕ, List, length, Result, Ok, Err}
use Rattle.std.specs.Borrow.{Bor}
use Rattle.questions.specs.declared.Question.{Question}
use Rattle.questions.specs.Numbers.{number_of, detail_of}
use Rattle.rules.specs.Out.{Out, refuse}
use Rattle.rules.specs.Sexp.{Name}
use Rattle.rules.specs.Theory.{Theory, Symbol}
use Rattle.cells.specs.declared.Span.{Span}
use Rattle.kernel.specs.declared.names.SortTable.{SortTable}
use Rattle.kernel.specs.declared.names.SymbolTable.{SymbolTable}
use Rattle.kernel.specs.declared.tables.Tables.{Tables}
use Rattle.kernel.specs.Held.{SortsHeld, SomeSorts, SortStored, SymbolsHeld, SomeSymbolsHeld, SymbolFits, SymbolIs, SymbolStored}
use Rattle.kernel.specs.Parsed.{TheoryLists, theory_lists, TheoryHeld, DeclaredAs}

abbrev pub lists_of : Tables → TheoryLists
lists_of t = theory_lists t.sorts.now t.symbols.now t.inputs.now t.rules.now t.vars.now t.patterns.now

-- numbers that fit into the cells of a symbol, with a name that stands there
abbrev pub FitsIn : Tables → ℕ → ℕ → Span → ℕ → Type 0
FitsIn t output arity name row = SymbolFits (length t.symbols.now) (length t.inputs.now) output arity name.from name.end row

-- these are the cells of a symbol, with a name that stands there
abbrev pub SymbolAs : List ℕ → Symbol → ℕ → ℕ → Span → List ℕ → Type 0
SymbolAs text s output arity name row = SymbolIs text s output arity name.from name.end row

-- the sorts of a theory as they are read, with names in a text
abbrev pub sorts_of : Bor (List ℕ) → Tables → SortTable
sorts_of text t = record { text = text; rows = record { ref_ptr = t.sorts.ref_ptr; now = t.sorts.now }; count = t.held.sorts }

-- the symbols of a theory as they are read, with names in a text
abbrev pub known_of : Bor (List ℕ) → Tables → SymbolTable
known_of text t =
    record {
      text = text;
      rows = record { ref_ptr = t.symbols.ref_ptr; now = t.symbols.now };
      inputs = record { ref_ptr = t.inputs.ref_ptr; now = t.inputs.now };
      count = t.held.symbols;
    }

-- the references are those that were lent
abbrev pub SameTables : Tables → Tables → Type 0
SameTables s t =
    (t.sorts.ghost_name ≡ s.sorts.ghost_name) × (t.symbols.ghost_name ≡ s.symbols.ghost_name) × (t.inputs.ghost_name ≡ s.inputs.ghost_name)
    × (t.rules.ghost_name ≡ s.rules.ghost_name) × (t.vars.ghost_name ≡ s.vars.ghost_name) × (t.patterns.ghost_name ≡ s.patterns.ghost_name)

-- they hold a theory
abbrev pub Holding : List ℕ → Tables → Theory → Type 0
Holding text t T = TheoryHeld text (lists_of t) t.held T

abbrev pub HoldingSome : List ℕ → Tables → Type 0
HoldingSome text t = (T : Theory) × Holding text t T

-- what a declaration leaves that the definition answers so: a theory more, or what was held
abbrev pub Leaving : List ℕ → Tables → Theory → Out Theory (Unit {0}) → Result Unit Question → Type 0
Leaving text t T given r = DeclaredAs text (lists_of t) t.held T given r

-- Parts ---------------------------------------------------------------------------------------------------------------------------

-- they hold these sorts, whatever stands in the other tables
abbrev pub HoldingSorts : List ℕ → Tables → List Name → Type 0
HoldingSorts text t ns = SortsHeld text t.sorts.now t.held.sorts ns

abbrev pub HoldingSomeSorts : List ℕ → Tables → Type 0
HoldingSomeSorts text t = SomeSorts text t.sorts.now t.held.sorts

-- these symbols
abbrev pub HoldingSymbols : List ℕ → Tables → List Symbol → Type 0
HoldingSymbols text t ss = SymbolsHeld text t.symbols.now t.inputs.now t.held.symbols ss

abbrev pub HoldingSomeSymbols : List ℕ → Tables → Type 0
HoldingSomeSymbols text t = SomeSymbolsHeld text t.symbols.now t.inputs.now t.held.symbols

-- every cell and every count is what it was
abbrev pub Unchanged : Tables → Tables → Type 0
Unchanged s t = (lists_of t ≡ lists_of s) × (t.held ≡ s.held)

-- but for the sorts and their number
abbrev pub OnlySorts : Tables → Tables → Type 0
OnlySorts s t = (lists_of t ≡ record (lists_of s) { sorts = t.sorts.now }) × (t.held ≡ record s.held { sorts = t.held.sorts })

-- but for the symbols, their inputs and their number
abbrev pub OnlySymbols : Tables → Tables → Type 0
OnlySymbols s t =
    (lists_of t ≡ record (lists_of s) { symbols = t.symbols.now; inputs = t.inputs.now }) × (t.held ≡ record s.held { symbols = t.held.symbols })

-- a sort more, or nothing changed
abbrev pub SortAdded : List ℕ → Tables → Tables → Theory → Out Theory (Unit {0}) → Result Unit Question → Type 0
SortAdded text s t T given (Ok u) = SortStored text t.sorts.now T given t.held.sorts
SortAdded text s t T given (Err e) = (given ≡ refuse (number_of e) (detail_of e) T) × Unchanged s t

-- a symbol more, or nothing changed
abbrev pub SymbolAdded : List ℕ → Tables → Tables → Theory → Out Theory (Unit {0}) → Result Unit Question → Type 0
SymbolAdded text s t T given (Ok u) = SymbolStored text t.symbols.now t.inputs.now T given t.held.symbols
SymbolAdded text s t T given (Err e) = (given ≡ refuse (number_of e) (detail_of e) T) × Unchanged s t
