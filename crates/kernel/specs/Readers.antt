-- What the readers of a theory's tables cite: that a table holds some theory's entries, an entry among them. Assumes nothing.
use Rattle.std.specs.Prelude.{◌≡◌, ℕ, ◌+◌, ◌-◌, ◌<◌, ◌≤◌, List, length, get_or, take, drop}
use Rattle.rules.specs.Theory.{Theory, Rule, no_symbol, no_rule, rule}
use Rattle.rules.specs.TheoryTables.{prefixes, pattern_row, pattern_cells}
use Rattle.rules.specs.Laws.Theory.{WellFormed}
use Rattle.kernel.specs.Held.{SymbolsHeld, SomeSymbolsHeld}
use Rattle.kernel.specs.HeldRules.{RulesHeld, SomeRules}
use Rattle.cells.specs.declared.Span.{Span}

-- Symbols ------------------------------------------------------------------------------------------------------------------------

-- symbol c is there
pub record KnownSymbol (symbols : List ℕ) (c : ℕ) : Type 0 where
  pub text : List ℕ
  pub inputs : List ℕ
  pub count : ℕ
  pub held : SomeSymbolsHeld text symbols inputs count
  pub known : c < count

-- symbol c is there, and takes more than k arguments
pub record KnownInput (inputs : List ℕ) (c k : ℕ) : Type 0 where
  pub text : List ℕ
  pub symbols : List ℕ
  pub count : ℕ
  pub held : SomeSymbolsHeld text symbols inputs count
  pub known : c < count
  pub there : k < length (get_or held.0 c no_symbol).inputs

-- symbol c is there, and takes so many arguments
pub record KnownInputs (inputs : List ℕ) (c many : ℕ) : Type 0 where
  pub text : List ℕ
  pub symbols : List ℕ
  pub count : ℕ
  pub held : SomeSymbolsHeld text symbols inputs count
  pub known : c < count
  pub all : many ≡ length (get_or held.0 c no_symbol).inputs

-- so many symbols, with names in the text
abbrev pub NamedSymbols : List ℕ → List ℕ → ℕ → Type 0
NamedSymbols text symbols count = (inputs : List ℕ) × SomeSymbolsHeld text symbols inputs count

-- so many symbols
abbrev pub CountedSymbols : List ℕ → ℕ → Type 0
CountedSymbols symbols count = (text : List ℕ) × NamedSymbols text symbols count

-- Rules --------------------------------------------------------------------------------------------------------------------------

-- rule r is there
pub record KnownRule (rules : List ℕ) (r : ℕ) : Type 0 where
  pub text : List ℕ
  pub vars : List ℕ
  pub patterns : List ℕ
  pub count : ℕ
  pub words : ℕ
  pub held : SomeRules text rules vars patterns count words
  pub known : r < count

-- rule r is there, and has more than i variables
pub record KnownVar (vars : List ℕ) (r i : ℕ) : Type 0 where
  pub text : List ℕ
  pub rules : List ℕ
  pub patterns : List ℕ
  pub count : ℕ
  pub words : ℕ
  pub held : SomeRules text rules vars patterns count words
  pub known : r < count
  pub there : i < length (get_or held.0 r no_rule).vars

-- rule r is there, with names in the text, and has so many variables
pub record NamedVars (text vars : List ℕ) (r many : ℕ) : Type 0 where
  pub rules : List ℕ
  pub patterns : List ℕ
  pub count : ℕ
  pub words : ℕ
  pub held : SomeRules text rules vars patterns count words
  pub known : r < count
  pub all : many ≡ length (get_or held.0 r no_rule).vars

-- so many rules, with names in the text
abbrev pub NamedRules : List ℕ → List ℕ → ℕ → Type 0
NamedRules text rules count = (vars : List ℕ) × (patterns : List ℕ) × (words : ℕ) × SomeRules text rules vars patterns count words

-- the place of the first word of rule r: behind the words of the rules before
unfoldable pub words_before : List Rule → ℕ → ℕ
words_before rs r = length (pattern_cells (take r rs))

-- the words of rule r, and where they stand
pub record WordsAt (patterns : List ℕ) (T : Theory) (r : ℕ) (s : Span) : Type 0 where
  pub starts : s.from ≡ words_before T.rules r
  pub ends : s.end ≡ s.from + length (pattern_row (rule T r))
  pub inside : s.end ≤ length patterns
  pub row : take (s.end - s.from) (drop s.from patterns) ≡ pattern_row (rule T r)

-- Conclusions --------------------------------------------------------------------------------------------------------------------

-- the place of the conclusion's first word: behind the words of the premises
unfoldable pub conclusion_at : Theory → ℕ → ℕ
conclusion_at T r = words_before T.rules r + length (prefixes (rule T r).premises)

-- so many rules, of a theory whose patterns fit its symbols
pub record FormedRules (symbols rules patterns : List ℕ) (count : ℕ) (T : Theory) : Type 0 where
  pub text : List ℕ
  pub ins : List ℕ
  pub vars : List ℕ
  pub known : ℕ
  pub words : ℕ
  pub formed : WellFormed T
  pub signature : SymbolsHeld text symbols ins known T.symbols
  pub held : RulesHeld text rules vars patterns count words T.rules

abbrev pub SomeFormedRules : List ℕ → List ℕ → List ℕ → ℕ → Type 0
SomeFormedRules symbols rules patterns count = (T : Theory) × FormedRules symbols rules patterns count T

-- rule r is there
pub record KnownFormedRule (symbols rules patterns : List ℕ) (r : ℕ) : Type 0 where
  pub count : ℕ
  pub T : Theory
  pub formed : FormedRules symbols rules patterns count T
  pub known : r < count
