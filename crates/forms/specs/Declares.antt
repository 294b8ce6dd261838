-- What the forms that declare a variable or an abbreviation are given and what they answer, beside what the definition answers: K. Assumes nothing.
use Rattle.std.specs.Prelude.{◌≡◌, Bool, ◌&&◌, List, [], ◌∷◌, ◌++◌, ℕ, ◌+◌, ◌*◌, ◌<◌, ◌≤◌, length, Result, Ok, Err}
use Rattle.std.proofs.lemmas.List.Edits.{sets}
use Rattle.rules.specs.Limits.{LENGTH, VARIABLES, DEFS}
use Rattle.rules.specs.Out.{Out, ok, refuse}
use Rattle.rules.specs.Sexp.{Sexps, count}
use Rattle.rules.specs.Store.{number}
use Rattle.rules.specs.Theory.{constructor_named, predicate_named}
use Rattle.rules.specs.Declare.{is_new}
use Rattle.rules.specs.State.{State, Var, Def, var_named}
use Rattle.rules.specs.Forms.{with_made, with_vars, with_defs}
use Rattle.rules.specs.Laws.Sound.{In}
use Rattle.sexp.specs.Items.{Holds}
use Rattle.sexp.specs.NameRows.{NameIn}
use Rattle.kernel.specs.Held.{SortsHeld, SymbolsHeld}
use Rattle.terms.specs.declared.store.Mark.{Mark}
use Rattle.terms.specs.Table.{made}
use Rattle.state.specs.declared.sizes.Sizes.{Sizes}
use Rattle.state.specs.Held.{VarsHeld}
use Rattle.state.specs.Used.{vars_now, defs_now}
use Rattle.questions.specs.declared.Question.{Question}
use Rattle.questions.specs.Numbers.{number_of, detail_of}
use Rattle.terms.specs.declared.store.Store.{Store}
use Rattle.state.specs.declared.board.Given.{Given}
use Rattle.state.specs.declared.board.Board.{Board}
use Rattle.forms.specs.declared.declare.Abbreviation.{Abbreviation}
use Rattle.forms.specs.Halted.{Makes, Halts}

-- Variables ------------------------------------------------------------------------------------------------------------------------

-- whether no constructor, predicate or variable has the name
abbrev pub unused : State → List ℕ → Bool
unused S name = is_new (constructor_named S.theory name) && (is_new (predicate_named S.theory name) && is_new (var_named S.vars name))

-- sorts, symbols and variables in their tables, and the items of a form
pub record AddsVar (theory goals text sorts symbols vars : List ℕ) (n : Sizes) (cells : List ℕ) : Type 0 where
  pub S : State
  pub xs : Sexps
  pub inputs : List ℕ
  pub sorts_are : SortsHeld theory sorts n.sorts S.theory.sorts
  pub symbols_are : SymbolsHeld theory symbols inputs n.symbols S.theory.symbols
  pub vars_are : VarsHeld goals text vars n.vars S.vars
  pub holds : Holds text cells xs
  pub many : 3 ≤ count xs
  pub short : length text ≤ LENGTH

-- one variable more, whose name stands in the text: its row is in the table
pub record VarAdded (text before after : List ℕ) (n : Sizes) (which : ℕ) (S : State) (K : Out State (Unit {0})) : Type 0 where
  pub new : Var
  pub end : ℕ
  pub is : K ≡ ok tt (with_vars S (S.vars ++ (new ∷ [])))
  pub room : n.vars < VARIABLES
  pub of_text : new.text ≡ which
  pub named : NameIn text new.name
  pub ends : end ≡ new.name.start + length new.name.bytes
  pub cells : after ≡ sets before (4 * n.vars) (new.sort ∷ new.text ∷ new.name.start ∷ end ∷ [])

-- before, after: the table of variables; n, k: what is used before and afterwards
abbrev pub VarBy : List ℕ → List ℕ → List ℕ → Sizes → Sizes → ℕ → State → Out State (Unit {0}) → Result (Unit {0}) Question → Type 0
VarBy text before after n k which S K (Ok u) = VarAdded text before after n which S K × (k ≡ vars_now n (n.vars + 1))
VarBy text before after n k which S K (Err e) = (K ≡ refuse (number_of e) (detail_of e) S) × (after ≡ before) × (k ≡ n)

abbrev pub VarAs : Given → Board → Board → ℕ → State → Out State (Unit {0}) → Result (Unit {0}) Question → Type 0
VarAs g b c which S K r = VarBy g.text.now b.vars.now c.vars.now b.n c.n which S K r

-- Abbreviations --------------------------------------------------------------------------------------------------------------------

-- K is to add an abbreviation, for which there is room: its name stands in the text, and its term is among the trees
pub record DefNamed (text : List ℕ) (n : Sizes) (I W J X : List ℕ) (old : Mark) (S : State) (K : Out State (Unit {0})) (a : Abbreviation) (now : Mark) : Type 0 where
  pub makes : Makes I W J X old now
  pub new : Def
  pub is : K ≡ ok tt (with_defs (with_made S (made J X now)) (S.defs ++ (new ∷ [])))
  pub room : n.defs < DEFS
  pub named : NameIn text new.name
  pub there : In new.term (made J X now)
  pub starts : a.name.from ≡ new.name.start
  pub ends : a.name.end ≡ new.name.start + length new.name.bytes
  pub numbered : a.term ≡ number (made J X now) new.term
  pub small : a.term < now.terms

abbrev pub NamedBy : List ℕ → Sizes → List ℕ → List ℕ → List ℕ → List ℕ → Mark → Mark → State → Out State (Unit {0}) → Result Abbreviation Question → Type 0
NamedBy text n I W J X old new S K (Ok a) = DefNamed text n I W J X old S K a new
NamedBy text n I W J X old new S K (Err e) = Halts I W J X old S K (number_of e) (detail_of e) new

abbrev pub NamedAs : Given → Board → Store → Store → State → Out State (Unit {0}) → Result Abbreviation Question → Type 0
NamedAs g b s t S K r = NamedBy g.text.now b.n s.index.now s.words.now t.index.now t.words.now s.mark t.mark S K r

-- one abbreviation more, whose name stands in the text, and its term among the trees: its row is in the table
pub record DefAdded (text before after : List ℕ) (n : Sizes) (I W J X : List ℕ) (old : Mark) (S : State) (K : Out State (Unit {0})) (now : Mark) : Type 0 where
  pub makes : Makes I W J X old now
  pub new : Def
  pub end : ℕ
  pub term : ℕ
  pub is : K ≡ ok tt (with_defs (with_made S (made J X now)) (S.defs ++ (new ∷ [])))
  pub room : n.defs < DEFS
  pub named : NameIn text new.name
  pub there : In new.term (made J X now)
  pub ends : end ≡ new.name.start + length new.name.bytes
  pub numbered : term ≡ number (made J X now) new.term
  pub cells : after ≡ sets before (3 * n.defs) (new.name.start ∷ end ∷ term ∷ [])

-- before, after: the table of abbreviations; n, k: what is used before and afterwards
abbrev pub DefBy : List ℕ → List ℕ → List ℕ → Sizes → Sizes → List ℕ → List ℕ → List ℕ → List ℕ → Mark → Mark → State → Out State (Unit {0}) → Result (Unit {0}) Question → Type 0
DefBy text before after n k I W J X old new S K (Ok u) = DefAdded text before after n I W J X old S K new × (k ≡ defs_now n (n.defs + 1))
DefBy text before after n k I W J X old new S K (Err e) = Halts I W J X old S K (number_of e) (detail_of e) new × (after ≡ before) × (k ≡ n)

abbrev pub DefAs : Given → Board → Board → Store → Store → State → Out State (Unit {0}) → Result (Unit {0}) Question → Type 0
DefAs g b c s t S K r =
    DefBy g.text.now b.defs.now c.defs.now b.n c.n s.index.now s.words.now t.index.now t.words.now s.mark t.mark S K r
