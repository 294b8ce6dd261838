-- What the forms of facts are given and what they answer: a derived fact by its judgment's number, its hypotheses and its footing as sets. Assumes nothing.
use Rattle.std.specs.Prelude.{◌≡◌, true, false, ◌||◌, List, [], ◌∷◌, ℕ, ◌-◌, ◌<◌, ◌≤◌, eqb, length, get_or, take, Result, Ok, Err}
use Rattle.rules.specs.Out.{Out}
use Rattle.rules.specs.Find.{Set, rising}
use Rattle.rules.specs.Sexp.{Sexps, count}
use Rattle.rules.specs.Tree.{Tree, var, none, variables, variables_of}
use Rattle.rules.specs.Store.{Made}
use Rattle.rules.specs.State.{State, Fact}
use Rattle.rules.specs.Step.{Refs, Items}
use Rattle.sexp.specs.Encode.{encodes}
use Rattle.sexp.specs.Items.{Holds}
use Rattle.terms.specs.declared.store.Mark.{Mark}
use Rattle.terms.specs.Table.{made, tree, args_of, Good}
use Rattle.terms.specs.Sets.{holds}
use Rattle.terms.specs.Patterns.{tree_in, bound_of, Cells}
use Rattle.terms.specs.On.{Went, Stopped}
use Rattle.state.specs.declared.sizes.Sizes.{Sizes}
use Rattle.state.specs.Held.{Names, RuleLists, Ruled}
use Rattle.state.specs.Members.{Under}
use Rattle.questions.specs.declared.Question.{Question}
use Rattle.questions.specs.Numbers.{number_of, detail_of}
use Rattle.terms.specs.declared.store.Store.{Store}
use Rattle.referring.specs.declared.support.Derived.{Derived}
use Rattle.reading.specs.Given.{Reads}
use Rattle.referring.specs.Recall.{Refers}

-- Given ----------------------------------------------------------------------------------------------------------------------------

-- references are read, and the cells hold the items of a form, at least so many
pub record FactForm (K : Names) (facts footings lists : List ℕ) (n : Sizes) (I W : List ℕ) (m : Mark) (cells : List ℕ) (least : ℕ) : Type 0 where
  pub S : State
  pub xs : Sexps
  pub refers : Refers K facts footings lists n I W m S
  pub holds : Holds K.text cells xs
  pub many : least ≤ count xs

-- and rules
pub record RuleForm (K : Names) (P : RuleLists) (facts footings lists : List ℕ) (n : Sizes) (I W : List ℕ) (m : Mark) (cells : List ℕ) (least : ℕ) : Type 0 where
  pub S : State
  pub xs : Sexps
  pub refers : Refers K facts footings lists n I W m S
  pub ruled : Ruled P n S.theory
  pub holds : Holds K.text cells xs
  pub many : least ≤ count xs

-- terms are read beside rule r, and the cells hold some items
pub record RuleItems (K : Names) (P : RuleLists) (n : Sizes) (I W : List ℕ) (m : Mark) (r : ℕ) (cells : List ℕ) : Type 0 where
  pub S : State
  pub xs : Sexps
  pub reads : Reads K n I W m S
  pub ruled : Ruled P n S.theory
  pub known : r < n.rules
  pub holds : Holds K.text cells xs

-- the cells hold at most so many items
abbrev pub FewItems : List ℕ → ℕ → Type 0
FewItems cells most = (xs : Sexps) → cells ≡ encodes xs → count xs ≤ most

-- All references of a form -----------------------------------------------------------------------------------------------------------

-- K answers the references together: their judgments' numbers are the first cells of ids, what they bring is in the sets
pub record RefsRead (I W J X : List ℕ) (old : Mark) (S : State) (K : Out Made Refs) (ids hyps footing : List ℕ) (many instances : ℕ) (new : Mark) : Type 0 where
  pub refs : Refs
  pub went : Went I W J X old K refs new
  pub judgments : args_of (made J X new) (take many ids) ≡ refs.judgments
  pub there : (k : ℕ) → k < many → get_or ids k 0 < new.terms
  pub rests : holds hyps ≡ refs.hyps
  pub earlier : Under (length S.facts) (holds hyps)
  pub uses : holds footing ≡ refs.footing
  pub known : Under (length S.theory.rules) (holds footing)
  pub counted : instances ≡ refs.instances

-- The items of a step ----------------------------------------------------------------------------------------------------------------

-- the variables of the terms in the cells
unfoldable pub cell_vars : Made → List ℕ → Set
cell_vars M [] v = false
cell_vars M (c ∷ cs) v = elim (eqb c 0) [ true ↦ cell_vars M cs v | false ↦ variables (get_or M (c - 1) (var 0)) v || cell_vars M cs v ]

-- cells of terms of the store, each a number with 1 added or 0
pub record ReadableCells (I W : List ℕ) (m : Mark) (cells : List ℕ) : Type 0 where
  pub good : Good I W m
  pub within : (v : ℕ) → get_or cells v 0 ≤ m.terms

-- K answers items: what they bind is in the cells, what they state is the term with that number less 1, or none
pub record ItemsRead (I W J X : List ℕ) (old : Mark) (K : Out Made Items) (bound : List ℕ) (stated : ℕ) (new : Mark) : Type 0 where
  pub items : Items
  pub went : Went I W J X old K items new
  pub binds : items.bound ≡ bound_of (made J X new) bound
  pub cells : Cells new.terms bound
  pub values : variables_of items.values ≡ cell_vars (made J X new) bound
  pub states : items.stated ≡ tree_in (made J X new) stated
  pub there : stated ≤ new.terms

-- A derived fact ---------------------------------------------------------------------------------------------------------------------

-- its judgment, and the sets
abbrev pub derived_fact : State → Tree → List ℕ → List ℕ → Fact
derived_fact S j hyps footing = record {
  judgment = j;
  hyps = rising (length S.facts) (holds hyps);
  assumed = false;
  premises = none;
  general = [];
  footing = rising (length S.theory.rules) (holds footing);
}

-- K answers the fact with judgment j; k: its instances
pub record DerivedRead (A : Type 0) (I W J X : List ℕ) (old : Mark) (S : State) (K : Out Made A) (answer : Fact → ℕ → A) (hyps footing : List ℕ) (j k : ℕ) (new : Mark) : Type 0 where
  pub went : Went I W J X old K (answer (derived_fact S (tree J X new j) hyps footing) k) new
  pub there : j < new.terms
  pub earlier : Under (length S.facts) (holds hyps)
  pub known : Under (length S.theory.rules) (holds footing)

abbrev pub DerivedBy : (A : Type 0) → List ℕ → List ℕ → List ℕ → List ℕ → Mark → Mark → State → Out Made A → (Fact → ℕ → A) → Result Derived Question → Type 0
DerivedBy A I W J X old new S K answer (Ok d) = DerivedRead A I W J X old S K answer d.support.hyps d.support.footing d.judgment d.instances new
DerivedBy A I W J X old new S K answer (Err q) = Stopped I W J X old K (number_of q) (detail_of q) new

abbrev pub DerivedAs : (A : Type 0) → Store → Store → State → Out Made A → (Fact → ℕ → A) → Result Derived Question → Type 0
DerivedAs A s t S K answer r = DerivedBy A s.index.now s.words.now t.index.now t.words.now s.mark t.mark S K answer r

-- a step's answer: the fact and its instances; the other forms' answer is the fact
abbrev pub with_instances : Fact → ℕ → Fact × ℕ
with_instances f k = (f, k)

abbrev pub alone : Fact → ℕ → Fact
alone f k = f
