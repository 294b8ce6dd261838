-- What the look-ups of symbols cite: rows of the table of symbols. Assumes nothing.
use Rattle.std.specs.Prelude.{◌≡◌, ℕ, ◌+◌, ◌*◌, ◌<◌, Bool, not, ◌&&◌, List, eqb, length, get_or}
use Rattle.rules.specs.Text.{same}
use Rattle.rules.specs.Theory.{Symbol, no_symbol, is_predicate}
use Rattle.kernel.specs.declared.names.Kind.{Kind}
use Rattle.kernel.specs.declared.names.Kind.TheVariants.{Constructor, Predicate}
use Rattle.sexp.specs.NameRows.{NameAt}

-- a predicate or a constructor, by its output
abbrev pub kind_of : Kind → ℕ → Bool
kind_of Predicate n = eqb n 0
kind_of Constructor n = not (eqb n 0)

-- a predicate or a constructor
unfoldable pub of_kind : Kind → Symbol → Bool
of_kind Predicate s = is_predicate s
of_kind Constructor s = not (is_predicate s)

-- a row of the table of symbols
pub record SymbolAt (text table : List ℕ) (k : ℕ) (s : Symbol) : Type 0 where
  pub output : get_or table (4 * k) 0 ≡ s.output
  pub arity : get_or table (4 * k + 1) 0 ≡ length s.inputs
  pub name : NameAt text table (4 * k + 2) s.name

abbrev pub SomeSymbol : List ℕ → List ℕ → ℕ → Type 0
SomeSymbol text table k = (s : Symbol) × SymbolAt text table k s

-- its first rows
pub record SymbolRows (text table : List ℕ) (count : ℕ) (ss : List Symbol) : Type 0 where
  pub many : length ss ≡ count
  pub row : (k : ℕ) → k < length ss → SymbolAt text table k (get_or ss k no_symbol)

abbrev pub SomeSymbols : List ℕ → List ℕ → ℕ → Type 0
SomeSymbols text table count = (ss : List Symbol) × SymbolRows text table count ss

-- the symbols of a kind whose name has these bytes
abbrev pub called : Kind → List ℕ → Symbol → Bool
called k name s = of_kind k s && same s.name.bytes name
