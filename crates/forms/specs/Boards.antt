-- The tables of a check as they are lent: what they hold, what a form is given, and all of them at once for a state. Which of them a form leaves as they
-- were is said in `state/specs/Boards`. Assumes nothing.
use Rattle.state.specs.Records.{fact_rows}
use Rattle.std.specs.Prelude.{List, ℕ}
use Rattle.rules.specs.State.{State}
use Rattle.kernel.specs.Held.{SymbolsHeld}
use Rattle.kernel.specs.Readers.{NamedSymbols}
use Rattle.kernel.specs.Parsed.{TheoryLists, theory_lists}
use Rattle.terms.specs.declared.store.Store.{Store}
use Rattle.state.specs.declared.board.Given.{Given}
use Rattle.state.specs.declared.board.Board.{Board}
use Rattle.state.specs.declared.sizes.Sizes.{Sizes}
use Rattle.state.specs.Held.{Names, names, records, VarsHeld}
use Rattle.state.specs.Rows.{Putting, SomeVars}
use Rattle.state.specs.Stands.{Texts, texts, tables_of, Stands}
use Rattle.reading.specs.Reader.{names_of, reader_of}
use Rattle.referring.specs.declared.source.Facts.{Facts}
use Rattle.forms.specs.Halted.{ReadsForm}
use Rattle.forms.specs.Declares.{AddsVar}
use Rattle.forms.specs.Goals.{GoalPlace, AddsGoal}
use Rattle.forms.specs.Assumed.{AddsFact}
use Rattle.forms.specs.Results.{Covers, TakesResult}

-- What they hold ---------------------------------------------------------------------------------------------------------------------

abbrev pub texts_of : Given → Texts
texts_of g = texts g.theory.now g.goals.now g.text.now

abbrev pub theory_of : Given → TheoryLists
theory_of g = theory_lists g.sorts.now g.symbols.now g.inputs.now g.rules.rows.now g.rules.vars.now g.rules.patterns.now

-- what names stand for
abbrev pub names_in : Given → Board → Names
names_in g b = names_of (reader_of g b)

-- they stand for S
abbrev pub StandsIn : Given → Board → Store → State → Type 0
StandsIn g b s S = Stands (texts_of g) (theory_of g) (tables_of b s) b.n s.mark S

-- What a form is given ---------------------------------------------------------------------------------------------------------------

abbrev pub AddsVarIn : Given → Board → List ℕ → Type 0
AddsVarIn g b cells = AddsVar g.theory.now g.goals.now g.text.now g.sorts.now g.symbols.now b.vars.now b.n cells

-- names are looked up, and stand for what they do in S
abbrev pub LooksUp : Given → Board → Type 0
LooksUp g b = NamedSymbols g.theory.now g.symbols.now b.n.symbols × SomeVars g.goals.now g.text.now b.vars.now b.n.vars

abbrev pub KnownIn : Given → Board → State → Type 0
KnownIn g b S =
    (inputs : List ℕ) × SymbolsHeld g.theory.now g.symbols.now inputs b.n.symbols S.theory.symbols × VarsHeld g.goals.now g.text.now b.vars.now b.n.vars S.vars

abbrev pub ReadsFormIn : Given → Board → Store → List ℕ → ℕ → Type 0
ReadsFormIn g b s cells least = ReadsForm (names_in g b) b.n s.index.now s.words.now s.mark cells least

-- that, where variables and abbreviations are lent apart from the board
abbrev pub ReadsApart : Given → List ℕ → List ℕ → Sizes → Store → List ℕ → ℕ → Type 0
ReadsApart g vars defs n s cells least =
    ReadsForm (names g.theory.now g.goals.now g.text.now g.symbols.now g.inputs.now vars defs) n s.index.now s.words.now s.mark cells least

abbrev pub GoalPlaceIn : Given → Board → List ℕ → Type 0
GoalPlaceIn g b cells = GoalPlace g.text.now b.rows.now b.n cells

abbrev pub AddsGoalIn : Given → Board → Store → List ℕ → ℕ → Type 0
AddsGoalIn g b s cells least = AddsGoal (names_in g b) b.rows.now b.n s.index.now s.words.now s.mark cells least

abbrev pub AddsFactIn : Given → Board → Store → List ℕ → ℕ → Type 0
AddsFactIn g b s cells least = AddsFact (names_in g b) (fact_rows b.facts.now) b.lists.now b.n s.index.now s.words.now s.mark cells least

-- a fact may be put, whatever the footings are
abbrev pub PutsIn : Board → ℕ → Type 0
PutsIn b judgment = (footings : List ℕ) × Putting (records (fact_rows b.facts.now) footings b.lists.now) b.n judgment

-- a goal and a fact
abbrev pub CoversIn : List ℕ → Facts → ℕ → ℕ → Type 0
CoversIn goals f k i = Covers goals (fact_rows f.records.now) f.lists.now k i

abbrev pub TakesResultIn : Given → Board → Store → List ℕ → Type 0
TakesResultIn g b s cells = TakesResult (names_in g b) b.rows.now (fact_rows b.facts.now) b.lists.now b.n s.index.now s.words.now s.mark cells
