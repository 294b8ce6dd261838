-- What the readers of a rule's patterns cite: the rule's variables in their row, and the words in prefix notation behind those of the
-- rules before. Assumes nothing.
use Rattle.std.specs.Prelude.{◌≡◌, ℕ, ◌+◌, ◌-◌, ◌*◌, ◌^◌, ◌<◌, ◌≤◌, List, [], ◌∷◌, ◌++◌, Result, Ok, Err, length, get_or, take, drop, set, replicate}
use Rattle.questions.specs.declared.Row.{Row}
use Rattle.questions.specs.declared.Row.TheVariants.{PatternWords}
use Rattle.questions.specs.declared.Question.{Question}
use Rattle.questions.specs.Numbers.{number_of, detail_of}
use Rattle.rules.specs.Limits.{LENGTH, RULEVARS, PATTERNS}
use Rattle.rules.specs.Out.{Out, ok, refuse, then}
use Rattle.rules.specs.Sexp.{Sexp, Sexps, cons, count, Name}
use Rattle.rules.specs.Tree.{Tree, app}
use Rattle.rules.specs.Theory.{RuleVar, Theory, Symbol, no_symbol, inputs}
use Rattle.rules.specs.Laws.Theory.{All}
use Rattle.rules.specs.TheoryTables.{var_rows}
use Rattle.rules.specs.Declare.{Reading, patterns}
use Rattle.rules.specs.Laws.PatternSteps.{worded}
use Rattle.sexp.specs.Items.{Holds}
use Rattle.sexp.specs.NameRows.{NameIn, NameRows, SomeNames}
use Rattle.kernel.specs.Held.{Front, SymbolsHeld, SomeSymbolsHeld}
use Rattle.cells.specs.declared.Span.{Span}
use Rattle.kernel.specs.declared.names.SymbolTable.{SymbolTable}
use Rattle.kernel.specs.declared.patterns.RuleReader.{RuleReader}

-- The reader ---------------------------------------------------------------------------------------------------------------------

-- the same tables are lent, to read from and to write to
pub record SameTables (s t : RuleReader) : Type 0 where
  pub known : t.known ≡ s.known
  pub vars : t.vars.ghost_name ≡ s.vars.ghost_name
  pub patterns : t.patterns.ghost_name ≡ s.patterns.ghost_name

-- no variable was met
pub record SameVars (s t : RuleReader) : Type 0 where
  pub vars : t.vars.now ≡ s.vars.now
  pub count : t.count ≡ s.count

-- no word was written
pub record SameWords (s t : RuleReader) : Type 0 where
  pub patterns : t.patterns.now ≡ s.patterns.now
  pub used : t.used ≡ s.used

-- these are the symbols of the table
abbrev pub Knows : SymbolTable → List Symbol → Type 0
Knows k ss = SymbolsHeld k.text.now k.rows.now k.inputs.now k.count ss

-- Words --------------------------------------------------------------------------------------------------------------------------

pub record WordFits (room cell : ℕ) : Type 0 where
  pub long : room ≡ PATTERNS
  pub small : cell < 2 ^ 32

-- the words before and after, and how many of them are used
abbrev pub WordPut : List ℕ → List ℕ → ℕ → ℕ → ℕ → Result (Unit {0}) Row → Type 0
WordPut before after used next cell (Ok u) = (used < PATTERNS) × (after ≡ set before used cell) × (next ≡ used + 1)
WordPut before after used next cell (Err e) = (PATTERNS ≤ used) × (after ≡ before) × (next ≡ used) × (e ≡ PatternWords)

-- of the reader before and after
abbrev pub WordAdded : RuleReader → RuleReader → ℕ → Result (Unit {0}) Row → Type 0
WordAdded s t cell r = WordPut s.patterns.now t.patterns.now s.used t.used cell r

-- Variables ----------------------------------------------------------------------------------------------------------------------

-- so many variables in a row, and zero behind them
pub record VarsHeld (text table : List ℕ) (count : ℕ) (vs : List RuleVar) : Type 0 where
  pub many : length vs ≡ count
  pub long : length table ≡ 3 * RULEVARS
  pub front : Front table (var_rows vs)
  pub blank : drop (3 * count) table ≡ replicate (3 * RULEVARS - 3 * count) 0
  pub names : All (λ v. NameIn text v.name) vs

-- those that a reader met, and their names
abbrev pub VarsMet : RuleReader → List RuleVar → Type 0
VarsMet s vs = VarsHeld s.known.text.now s.vars.now s.count vs

abbrev pub NamesMet : RuleReader → List Name → Type 0
NamesMet s ns = NameRows s.known.text.now s.vars.now 3 1 s.count ns

abbrev pub SomeNamesMet : RuleReader → Type 0
SomeNamesMet s = SomeNames s.known.text.now s.vars.now 3 1 s.count

-- what `met_or_new` is given
pub record Meeting (text : List ℕ) (start end sort : ℕ) (table : List ℕ) (count : ℕ) : Type 0 where
  pub vs : List RuleVar
  pub held : VarsHeld text table count vs
  pub low : start ≤ end
  pub high : end ≤ length text
  pub short : length text ≤ LENGTH
  pub small : sort < 2 ^ 32

abbrev pub MeetingAt : RuleReader → Span → ℕ → Type 0
MeetingAt s name sort = Meeting s.known.text.now name.from name.end sort s.vars.now s.count

-- the variable's number, and the variables then
pub record Met (text table : List ℕ) (R : Reading) (given : Out Reading ℕ) (i count : ℕ) : Type 0 where
  pub now : Reading
  pub is : given ≡ ok i now
  pub words : now.words ≡ R.words
  pub held : VarsHeld text table count now.vars
  pub small : i < RULEVARS

abbrev pub MetRead : List ℕ → List ℕ → ℕ → Reading → Out Reading ℕ → Result ℕ Question → Type 0
MetRead text table count R given (Ok i) = Met text table R given i count
MetRead text table count R given (Err e) = given ≡ refuse (number_of e) (detail_of e) R

-- of the reader before and after
abbrev pub MetBy : RuleReader → RuleReader → Reading → Out Reading ℕ → Result ℕ Question → Type 0
MetBy s t R given r = MetRead s.known.text.now t.vars.now t.count R given r

-- Patterns -----------------------------------------------------------------------------------------------------------------------

-- what is read so far is held: variables in their row, and so many words
pub record ReadSoFar (text table : List ℕ) (count used : ℕ) (R : Reading) : Type 0 where
  pub held : VarsHeld text table count R.vars
  pub words : R.words ≡ used
  pub room : used ≤ PATTERNS

abbrev pub ReadTo : RuleReader → Reading → Type 0
ReadTo s R = ReadSoFar s.known.text.now s.vars.now s.count s.used R

-- what the readers of atoms are given
pub record AtomReading (text : List ℕ) (start sort : ℕ) (table : List ℕ) (count room : ℕ) : Type 0 where
  pub vs : List RuleVar
  pub held : VarsHeld text table count vs
  pub inside : start < length text
  pub short : length text ≤ LENGTH
  pub small : sort < 2 ^ 32
  pub long : room ≡ PATTERNS

abbrev pub AtomAt : RuleReader → ℕ → ℕ → Type 0
AtomAt s start sort = AtomReading s.known.text.now start sort s.vars.now s.count (length s.patterns.now)

-- what was read has its words behind those before
pub record Written {A : Type 0} (cells : A → List ℕ) (text table before after : List ℕ) (used : ℕ) (given : Out Reading A) (count next : ℕ) : Type 0 where
  pub tree : A
  pub now : Reading
  pub is : given ≡ ok tree now
  pub reads : ReadSoFar text table count next now
  pub words : take next after ≡ take used before ++ cells tree
  pub long : length after ≡ length before

-- a refusal leaves the words before
pub record Stopped {A : Type 0} (before after : List ℕ) (used : ℕ) (given : Out Reading A) (a d : ℕ) : Type 0 where
  pub now : Reading
  pub is : given ≡ refuse a d now
  pub words : take used after ≡ take used before
  pub long : length after ≡ length before

-- text, then the variables, the words before and after, and how many of them are used
abbrev pub PatternRead : {A : Type 0} → (A → List ℕ) → List ℕ → List ℕ → ℕ → List ℕ → List ℕ → ℕ → ℕ → Out Reading A → Result (Unit {0}) Question → Type 0
PatternRead cells text table count before after used next given (Ok u) = Written cells text table before after used given count next
PatternRead cells text table count before after used next given (Err e) = Stopped before after used given (number_of e) (detail_of e)

-- of the reader before and after
abbrev pub PartRead : {A : Type 0} → (A → List ℕ) → RuleReader → RuleReader → Out Reading A → Result (Unit {0}) Question → Type 0
PartRead cells s t given r = PatternRead cells s.known.text.now t.vars.now t.count s.patterns.now t.patterns.now s.used t.used given r

-- Heads --------------------------------------------------------------------------------------------------------------------------

-- what the reader of a symbol is given: so many symbols, whatever stands in the table of their inputs
pub record Heading (text symbols : List ℕ) (count room : ℕ) : Type 0 where
  pub inputs : List ℕ
  pub held : SomeSymbolsHeld text symbols inputs count
  pub long : room ≡ PATTERNS

abbrev pub HeadAt : RuleReader → Type 0
HeadAt s = Heading s.known.text.now s.known.rows.now s.known.count (length s.patterns.now)

-- a symbol with so many arguments, and its word
pub record Head (before after : List ℕ) (used : ℕ) (T : Theory) (R : Reading) (arity : ℕ) (given : Out Reading ℕ) (c next : ℕ) : Type 0 where
  pub is : given ≡ ok c (worded R)
  pub known : c < length T.symbols
  pub many : length (inputs T c) ≡ arity
  pub nexts : next ≡ used + 1
  pub words : take next after ≡ take used before ++ (c ∷ [])
  pub room : next ≤ PATTERNS
  pub long : length after ≡ length before

abbrev pub HeadRead : List ℕ → List ℕ → ℕ → ℕ → Theory → Reading → ℕ → Out Reading ℕ → Result ℕ Question → Type 0
HeadRead before after used next T R arity given (Ok c) = Head before after used T R arity given c next
HeadRead before after used next T R arity given (Err e) = Stopped before after used given (number_of e) (detail_of e)

-- of the reader before and after
abbrev pub HeadBy : RuleReader → RuleReader → Theory → Reading → ℕ → Out Reading ℕ → Result ℕ Question → Type 0
HeadBy s t T R arity given r = HeadRead s.patterns.now t.patterns.now s.used t.used T R arity given r

-- a list that begins with a symbol: the word of the symbol is written, and its arguments are left
pub record Opened (text cells before after : List ℕ) (used : ℕ) (T : Theory) (R : Reading) (zs : Sexps) (given : Out Reading Tree) (c next : ℕ) : Type 0 where
  pub first : Sexp
  pub others : Sexps
  pub is : zs ≡ cons first others
  pub asks : given ≡ then (patterns T others (inputs T c) (worded R)) (λ ts W. ok (app c ts) W)
  pub rest : Holds text (take (length cells - 1) (drop 1 cells)) others
  pub some : 1 ≤ length cells
  pub known : c < length T.symbols
  pub many : length (inputs T c) ≡ count others
  pub nexts : next ≡ used + 1
  pub words : take next after ≡ take used before ++ (c ∷ [])
  pub room : next ≤ PATTERNS
  pub long : length after ≡ length before

abbrev pub OpenedRead : List ℕ → List ℕ → List ℕ → List ℕ → ℕ → ℕ → Theory → Reading → Sexps → Out Reading Tree → Result ℕ Question → Type 0
OpenedRead text cells before after used next T R zs given (Ok c) = Opened text cells before after used T R zs given c next
OpenedRead text cells before after used next T R zs given (Err e) = Stopped before after used given (number_of e) (detail_of e)

-- of the reader before and after
abbrev pub ListOpened : RuleReader → RuleReader → List ℕ → Theory → Reading → Sexps → Out Reading Tree → Result ℕ Question → Type 0
ListOpened s t cells T R zs given r = OpenedRead s.known.text.now cells s.patterns.now t.patterns.now s.used t.used T R zs given r

-- what the readers of lists are given
pub record Opening (text cells symbols inputs : List ℕ) (known room : ℕ) : Type 0 where
  pub zs : Sexps
  pub holds : Holds text cells zs
  pub held : SomeSymbolsHeld text symbols inputs known
  pub long : room ≡ PATTERNS

abbrev pub OpeningAt : RuleReader → List ℕ → Type 0
OpeningAt s cells = Opening s.known.text.now cells s.known.rows.now s.known.inputs.now s.known.count (length s.patterns.now)

-- what the readers of terms are given
pub record Patterning (text cells symbols inputs : List ℕ) (known : ℕ) (table : List ℕ) (count room used : ℕ) : Type 0 where
  pub zs : Sexps
  pub holds : Holds text cells zs
  pub held : SomeSymbolsHeld text symbols inputs known
  pub so_far : Reading
  pub reads : ReadSoFar text table count used so_far
  pub short : length text ≤ LENGTH
  pub long : room ≡ PATTERNS

abbrev pub PartAt : RuleReader → List ℕ → Type 0
PartAt s cells =
    Patterning s.known.text.now cells s.known.rows.now s.known.inputs.now s.known.count s.vars.now s.count (length s.patterns.now) s.used

-- the arguments of a symbol from number k on
pub record Placed (ss : List Symbol) (c k : ℕ) (zs : Sexps) : Type 0 where
  pub known : c < length ss
  pub many : k + count zs ≡ length (get_or ss c no_symbol).inputs

-- what the reader of arguments is given
pub record Arguing (text cells symbols inputs : List ℕ) (known : ℕ) (table : List ℕ) (count room used c : ℕ) : Type 0 where
  pub given : Patterning text cells symbols inputs known table count room used
  pub placed : Placed given.held.0 c 0 given.zs

abbrev pub ArgumentsAt : RuleReader → List ℕ → ℕ → Type 0
ArgumentsAt s cells c =
    Arguing s.known.text.now cells s.known.rows.now s.known.inputs.now s.known.count s.vars.now s.count (length s.patterns.now) s.used c
