-- What the functions of this crate are given, as it is lent: the reader, the store and the cells, or the parts of these that a function reads. Each is the
-- relation of the same name over plain tables (Given, Heads). Assumes nothing.
use Rattle.std.specs.Prelude.{List, ℕ, Result}
use Rattle.rules.specs.Out.{Out, Act}
use Rattle.rules.specs.Tree.{Tree}
use Rattle.rules.specs.Store.{Made}
use Rattle.rules.specs.State.{State, Var}
use Rattle.facts.specs.declared.Fact.{Fact}
use Rattle.questions.specs.declared.Question.{Question}
use Rattle.terms.specs.declared.store.Terms.{Terms}
use Rattle.terms.specs.declared.store.Store.{Store}
use Rattle.state.specs.Held.{VarsHeld}
use Rattle.state.specs.Rows.{SomeVars}
use Rattle.state.specs.Records.{fact_rows}
use Rattle.reading.specs.declared.reader.Reader.{Reader}
use Rattle.reading.specs.declared.term.Typed.{Typed}
use Rattle.reading.specs.Reader.{names_of}
use Rattle.reading.specs.Given.{ReadsItem, ReadsItems, ReadsTerm, ReadsDefs, ReadsNames, VarsItem, VarsItems, FactsItem, FactsItems}
use Rattle.reading.specs.Heads.{ReadsAtom, Opens, OpenedAs}
use Rattle.reading.specs.Answers.{TypedBy}

-- Terms are read ---------------------------------------------------------------------------------------------------------------------

abbrev pub ReadsItemIn : Reader → Store → List ℕ → Type 0
ReadsItemIn r t cells = ReadsItem (names_of r) r.n t.index.now t.words.now t.mark cells

abbrev pub ReadsItemsIn : Reader → Store → List ℕ → Type 0
ReadsItemsIn r t cells = ReadsItems (names_of r) r.n t.index.now t.words.now t.mark cells

abbrev pub ReadsAtomIn : Reader → Store → ℕ → Type 0
ReadsAtomIn r t start = ReadsAtom (names_of r) r.n t.index.now t.words.now t.mark start

-- Parts of it ------------------------------------------------------------------------------------------------------------------------

abbrev pub ReadsTermIn : Reader → Terms → ℕ → Type 0
ReadsTermIn r t id = ReadsTerm r.symbols.now r.vars.now t.index.now t.words.now id

abbrev pub ReadsDefsIn : Reader → Terms → Type 0
ReadsDefsIn r t = ReadsDefs r.text.now r.symbols.now r.vars.now r.defs.now r.n t.index.now t.words.now t.mark

abbrev pub ReadsNamesIn : Reader → Store → Type 0
ReadsNamesIn r t = ReadsNames r.theory.now r.goals.now r.text.now r.symbols.now r.vars.now r.n t.index.now t.words.now t.mark

abbrev pub OpensIn : Reader → List ℕ → Type 0
OpensIn r cells = Opens r.theory.now r.text.now r.symbols.now r.n.symbols cells

-- Variables and facts ----------------------------------------------------------------------------------------------------------------

abbrev pub VarsHeldIn : Reader → List Var → Type 0
VarsHeldIn r vs = VarsHeld r.goals.now r.text.now r.vars.now r.n.vars vs

abbrev pub SomeVarsIn : Reader → Type 0
SomeVarsIn r = SomeVars r.goals.now r.text.now r.vars.now r.n.vars

abbrev pub VarsItemIn : Reader → List ℕ → Type 0
VarsItemIn r cells = VarsItem r.goals.now r.text.now r.vars.now r.n.vars cells

abbrev pub VarsItemsIn : Reader → List ℕ → Type 0
VarsItemsIn r cells = VarsItems r.goals.now r.text.now r.vars.now r.n.vars cells

abbrev pub FactsItemIn : Reader → List Fact → List ℕ → Type 0
FactsItemIn r facts cells = FactsItem r.text.now (fact_rows facts) r.n cells

abbrev pub FactsItemsIn : Reader → List Fact → List ℕ → Type 0
FactsItemsIn r facts cells = FactsItems r.text.now (fact_rows facts) r.n cells

-- Answers ----------------------------------------------------------------------------------------------------------------------------

-- K answers a term, and makes none
abbrev pub TypedIn : Terms → State → Out Made Tree → Result Typed Question → Type 0
TypedIn t S K r = TypedBy t.index.now t.words.now t.index.now t.words.now t.mark t.mark S K r

abbrev pub OpenedIn : Reader → List ℕ → State → Act Made Tree → Result ℕ Question → Type 0
OpenedIn r cells S Q o = OpenedAs r.text.now cells r.n.symbols S Q o
