-- What is inverted, as it is lent, beside a store, and what is answered. Each is the relation of the same meaning over plain tables. Assumes nothing.
use Rattle.state.specs.Records.{fact_rows, fact_feet}
use Rattle.std.specs.Prelude.{List, ℕ, Option, Result}
use Rattle.rules.specs.Out.{Out}
use Rattle.rules.specs.Tree.{Tree}
use Rattle.rules.specs.Store.{Made}
use Rattle.rules.specs.Theory.{RuleVar}
use Rattle.rules.specs.Unify.{Binding}
use Rattle.rules.specs.State.{State, Var, Fact}
use Rattle.rules.specs.Invert.{Inversion, Names}
use Rattle.questions.specs.declared.Row.{Row}
use Rattle.questions.specs.declared.Question.{Question}
use Rattle.kernel.specs.declared.rule_readers.Rules.{Rules}
use Rattle.terms.specs.declared.store.Store.{Store}
use Rattle.terms.specs.Lent.{tree_of}
use Rattle.terms.specs.Patterns.{cells_of}
use Rattle.unification.specs.declared.unify.Scratch.{Scratch}
use Rattle.referring.specs.declared.source.Facts.{Facts}
use Rattle.referring.specs.declared.source.Source.{Source}
use Rattle.referring.specs.declared.support.Derived.{Derived}
use Rattle.referring.specs.Sources.{source_names, rules_of}
use Rattle.casework.specs.declared.context.Renamed.{Renamed}
use Rattle.inversion.specs.declared.inverting.Inverting.{Inverting}
use Rattle.inversion.specs.declared.inverting.Variables.{Variables}
use Rattle.inversion.specs.declared.inverting.Renaming.{Renaming}
use Rattle.inversion.specs.declared.inverting.RuleVars.{RuleVars}
use Rattle.inversion.specs.InvertRules.{RuleVarsGiven, MadeBy, CaseVarsGiven, KeptBy, Empty, Meeting, MetBy, Judging, Verdict, Lacking, LackedBy, Having, Turning, TurnedBy}
use Rattle.inversion.specs.Inversions.{NamingForm, InvertForm, InvertingOn, InvertedOnBy, InvertedBy}

-- Scratch --------------------------------------------------------------------------------------------------------------------------

abbrev pub EmptyScratch : Scratch → Type 0
EmptyScratch x = Empty x.map.now x.memo.now x.pairs.now x.seen.now

-- The terms of what is inverted, in a store ------------------------------------------------------------------------------------------

abbrev pub hypothesis_in : Inverting → Store → Tree
hypothesis_in v s = tree_of s v.hypothesis

abbrev pub judgment_in : Inverting → Store → Tree
judgment_in v s = tree_of s v.judgment

-- One rule -------------------------------------------------------------------------------------------------------------------------

-- the variables of a rule
abbrev pub RuleVarsIn : RuleVars → Type 0
RuleVarsIn u = RuleVarsGiven u.rules.vars.now u.rule u.count

-- x, y: the variables before, and with those that were made
abbrev pub MadeAs : List Var → List RuleVar → Variables → Variables → Result (List ℕ) Row → Type 0
MadeAs vs rs x y r = MadeBy vs rs x.sorts y.sorts x.count y.count r

-- the case in front of the cells, of that rule
abbrev pub CaseVarsIn : Inverting → List ℕ → RuleVars → Type 0
CaseVarsIn v cells u = let x = v.source.reader in CaseVarsGiven x.goals.now x.text.now x.vars.now u.rules.vars.now x.n.vars cells u.rule u.count

abbrev pub KeptAs : Store → Store → List ℕ → Result (List (Option ℕ)) Row → Type 0
KeptAs s t list r = KeptBy s.index.now s.words.now t.index.now t.words.now s.mark t.mark list r

abbrev pub MeetingIn : Inverting → Store → Renaming → Type 0
MeetingIn v s own =
    Meeting v.source.reader.symbols.now v.rules.rows.now v.rules.patterns.now v.source.reader.n s.index.now s.words.now s.mark own.rule v.hypothesis own.count own.vars.now

abbrev pub MetAs : Store → Store → Out Made (Option (List Binding)) → List ℕ → List ℕ → Result (Option (List (Option ℕ))) Question → Type 0
MetAs s t K list theta r = MetBy s.index.now s.words.now t.index.now t.words.now s.mark t.mark K list theta r

-- t: the case's judgment
abbrev pub JudgingIn : Inverting → Store → Renamed → ℕ → List ℕ → List ℕ → Type 0
JudgingIn v s m t memo ids =
    Judging v.source.reader.symbols.now v.rules.rows.now v.rules.patterns.now (fact_rows v.source.records.now) v.source.lists.now v.source.reader.n s.index.now s.words.now s.mark m.rule t (cells_of m.bound.now) m.theta.now memo v.context.now ids

abbrev pub VerdictIn : Facts → ℕ → ℕ → List ℕ → Type 0
VerdictIn f i t own = Verdict (fact_rows f.records.now) f.n i t own

abbrev pub LackingIn : Inverting → Store → RuleVars → Variables → Type 0
LackingIn v s u x =
    Lacking v.source.reader.symbols.now v.rules.rows.now u.rules.vars.now v.rules.patterns.now v.source.reader.n s.index.now s.words.now s.mark u.rule u.count v.hypothesis x.sorts x.count

abbrev pub LackedAs : Store → Store → List Var → Out Made (List Var) → Variables → Variables → Result (Unit {0}) Question → Type 0
LackedAs s t vs K x y r = LackedBy s.index.now s.words.now t.index.now t.words.now s.mark t.mark vs K y.sorts x.count y.count r

abbrev pub HavingIn : Inverting → Store → Renaming → List ℕ → Type 0
HavingIn v s own ids =
    Having v.source.reader.symbols.now v.rules.rows.now v.rules.patterns.now (fact_rows v.source.records.now) v.source.lists.now v.source.reader.n s.index.now s.words.now s.mark own.rule v.hypothesis v.judgment own.vars.now v.context.now own.count ids

-- From rule to rule ----------------------------------------------------------------------------------------------------------------

abbrev pub TurningIn : Inverting → List ℕ → Store → Variables → Type 0
TurningIn v cells s x =
    Turning (source_names v.source) (rules_of v.source v.rules) (fact_rows v.source.records.now) v.source.lists.now v.source.reader.n s.index.now s.words.now s.mark cells v.hypothesis v.judgment v.context.now x.taken x.sorts x.count

abbrev pub TurnedAs : Store → Store → State → Inversion → Out Made Names → Variables → Variables → Result (Unit {0}) Question → Type 0
TurnedAs s t S Y K x y r = TurnedBy s.index.now s.words.now t.index.now t.words.now s.mark t.mark S Y K y.taken y.sorts x.count y.count r

-- The form -------------------------------------------------------------------------------------------------------------------------

-- its hypotheses
abbrev pub NamesHypothesis : Source → List ℕ → Type 0
NamesHypothesis s cells = NamingForm s.reader.text.now (fact_rows s.records.now) s.reader.n cells

abbrev pub InvertsForm : Source → Rules → Store → List ℕ → Type 0
InvertsForm s p t cells = InvertForm (source_names s) (rules_of s p) (fact_rows s.records.now) (fact_feet s.records.now) s.lists.now s.reader.n t.index.now t.words.now t.mark cells

abbrev pub InvertsOn : Inverting → Store → List ℕ → Type 0
InvertsOn v s cells =
    InvertingOn (source_names v.source) (rules_of v.source v.rules) (fact_rows v.source.records.now) v.source.lists.now v.source.reader.n s.index.now s.words.now s.mark cells v.hypothesis v.judgment v.context.now

abbrev pub InvertedOnAs : Store → Store → State → Out Made (List Var) → Variables → Result (Unit {0}) Question → Type 0
InvertedOnAs s t S K v r = InvertedOnBy s.index.now s.words.now t.index.now t.words.now s.mark t.mark S K v r

abbrev pub InvertedAs : Store → Store → State → Out Made (Fact × List Var) → Variables → Result Derived Question → Type 0
InvertedAs s t S K v r = InvertedBy s.index.now s.words.now t.index.now t.words.now s.mark t.mark S K v r
