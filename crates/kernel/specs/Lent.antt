-- What contracts say of the theory's tables as they are lent to be read. Each is the relation of the same meaning over plain cells. Assumes nothing.
use Rattle.std.specs.Prelude.{ℕ, ◌<◌, List}
use Rattle.rules.specs.Sexp.{Name}
use Rattle.rules.specs.Theory.{Theory}
use Rattle.kernel.specs.declared.names.SortTable.{SortTable}
use Rattle.kernel.specs.declared.names.SymbolTable.{SymbolTable}
use Rattle.kernel.specs.declared.rule_readers.Rules.{Rules}
use Rattle.kernel.specs.Held.{SortsHeld, SomeSorts, SymbolsHeld, Gathering}
use Rattle.kernel.specs.HeldRules.{RulesHeld, Beginning}
use Rattle.kernel.specs.Readers.{NamedSymbols, FormedRules, SomeFormedRules, KnownFormedRule}

-- the sorts of these names
abbrev pub SortsIn : SortTable → List Name → Type 0
SortsIn s ns = SortsHeld s.text.now s.rows.now s.count ns

abbrev pub SomeSortsIn : SortTable → Type 0
SomeSortsIn s = SomeSorts s.text.now s.rows.now s.count

-- items that name argument sorts, beside a row for them
abbrev pub GatheringIn : SortTable → List ℕ → ℕ → Type 0
GatheringIn s cells room = Gathering s.text.now cells s.rows.now s.count room

-- of a theory that has symbol c, what is read off its row; off its inputs
abbrev pub OfSymbol : SymbolTable → ℕ → (Theory → Type 0) → Type 0
OfSymbol s c Says = (T : Theory) (text inputs : List ℕ) (count : ℕ) → SymbolsHeld text s.rows.now inputs count T.symbols → c < count → Says T

abbrev pub OfInputs : SymbolTable → ℕ → (Theory → Type 0) → Type 0
OfInputs s c Says = (T : Theory) (text symbols : List ℕ) (count : ℕ) → SymbolsHeld text symbols s.inputs.now count T.symbols → c < count → Says T

-- of a theory with these symbols, what is read off all their rows; off their names too
abbrev pub OfSymbols : SymbolTable → (Theory → Type 0) → Type 0
OfSymbols s Says = (T : Theory) (text inputs : List ℕ) → SymbolsHeld text s.rows.now inputs s.count T.symbols → Says T

abbrev pub OfNames : SymbolTable → (Theory → Type 0) → Type 0
OfNames s Says = (T : Theory) (inputs : List ℕ) → SymbolsHeld s.text.now s.rows.now inputs s.count T.symbols → Says T

abbrev pub NamedIn : SymbolTable → Type 0
NamedIn s = NamedSymbols s.text.now s.rows.now s.count

-- what `schema` is given, over these symbols: a rule's form, an empty row for its variables, and the words before
abbrev pub BeginningIn : SymbolTable → List ℕ → List ℕ → ℕ → ℕ → Type 0
BeginningIn s form row room used = Beginning s.text.now form s.rows.now s.inputs.now s.count row 0 room used

-- of a theory that has rule r, what is read off its row, said of the text of its names and the table of its words too; off its variables
abbrev pub OfRule : Rules → ℕ → (Theory → List ℕ → List ℕ → Type 0) → Type 0
OfRule s r Says =
    (T : Theory) (text vars patterns : List ℕ) (count words : ℕ) → RulesHeld text s.rows.now vars patterns count words T.rules → r < count → Says T text patterns

abbrev pub OfRuleVars : Rules → ℕ → (Theory → Type 0) → Type 0
OfRuleVars s r Says =
    (T : Theory) (text rules patterns : List ℕ) (count words : ℕ) → RulesHeld text rules s.vars.now patterns count words T.rules → r < count → Says T

-- so many rules, of a theory whose patterns fit the symbols in those cells
abbrev pub FormedIn : List ℕ → Rules → ℕ → Theory → Type 0
FormedIn symbols rules count T = FormedRules symbols rules.rows.now rules.patterns.now count T

abbrev pub SomeFormedIn : List ℕ → Rules → ℕ → Type 0
SomeFormedIn symbols rules count = SomeFormedRules symbols rules.rows.now rules.patterns.now count

-- rule r is one of them
abbrev pub FormedAt : List ℕ → Rules → ℕ → Type 0
FormedAt symbols rules r = KnownFormedRule symbols rules.rows.now rules.patterns.now r
