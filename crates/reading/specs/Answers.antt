-- What the functions of this crate answer, beside what the definition answers: K. Each relation is said over plain tables and marks (By), and of the
-- store before and afterwards (As). Assumes nothing.
use Rattle.std.specs.Prelude.{◌≡◌, Bool, true, List, ℕ, ◌+◌, ◌<◌, length, take, Some as some, None as nothing, Option, Result, Ok, Err}
use Rattle.rules.specs.Limits.{VARIABLES}
use Rattle.rules.specs.Out.{Out, Act, ok, refuse, then, ask}
use Rattle.rules.specs.Find.{has}
use Rattle.rules.specs.Sexp.{Sexp}
use Rattle.rules.specs.Tree.{Tree, Trees, app, count_trees}
use Rattle.rules.specs.Store.{Made}
use Rattle.rules.specs.Unify.{Binding}
use Rattle.rules.specs.Theory.{inputs}
use Rattle.rules.specs.State.{State, Var, Fact, sort_of, fit}
use Rattle.rules.specs.Reference.{hyp_list}
use Rattle.rules.specs.TheoryTables.{filled}
use Rattle.rules.specs.StateTables.{numbers}
use Rattle.terms.specs.declared.store.Mark.{Mark}
use Rattle.terms.specs.Table.{made, tree, tree_at, Node}
use Rattle.terms.specs.Sets.{holds}
use Rattle.terms.specs.Theta.{bindings, Theta}
use Rattle.terms.specs.On.{Went, Stopped}
use Rattle.questions.specs.Numbers.{number_of, detail_of}
use Rattle.questions.specs.declared.Question.{Question}
use Rattle.terms.specs.declared.store.Store.{Store}
use Rattle.reading.specs.declared.term.Typed.{Typed}
use Rattle.reading.specs.declared.bindings.Pair.{Pair}
use Rattle.reading.specs.Items.{vars_in}

-- Terms --------------------------------------------------------------------------------------------------------------------------

-- K answers term id, and the tables hold what is made then
pub record TermRead (I W J X : List ℕ) (old : Mark) (K : Out Made Tree) (id : ℕ) (new : Mark) : Type 0 where
  pub went : Went I W J X old K (tree J X new id) new
  pub there : id < new.terms

abbrev pub ReadBy : List ℕ → List ℕ → List ℕ → List ℕ → Mark → Mark → Out Made Tree → Result ℕ Question → Type 0
ReadBy I W J X old new K (Ok id) = TermRead I W J X old K id new
ReadBy I W J X old new K (Err q) = Stopped I W J X old K (number_of q) (detail_of q) new

abbrev pub ReadAs : Store → Store → Out Made Tree → Result ℕ Question → Type 0
ReadAs s t K r = ReadBy s.index.now s.words.now t.index.now t.words.now s.mark t.mark K r

-- and that is its sort
pub record TypedRead (I W J X : List ℕ) (old : Mark) (S : State) (K : Out Made Tree) (id sort : ℕ) (new : Mark) : Type 0 where
  pub read : TermRead I W J X old K id new
  pub sorted : sort ≡ sort_of S.theory S.vars (tree J X new id)

abbrev pub TypedBy : List ℕ → List ℕ → List ℕ → List ℕ → Mark → Mark → State → Out Made Tree → Result Typed Question → Type 0
TypedBy I W J X old new S K (Ok t) = TypedRead I W J X old S K t.term t.sort new
TypedBy I W J X old new S K (Err q) = Stopped I W J X old K (number_of q) (detail_of q) new

abbrev pub TypedAs : Store → Store → State → Out Made Tree → Result Typed Question → Type 0
TypedAs s t S K r = TypedBy s.index.now s.words.now t.index.now t.words.now s.mark t.mark S K r

-- terms are answered if they fit symbol c: question 23
abbrev pub fitting : State → ℕ → Trees → Act Made Trees
fitting S c ts s = then (ask 23 (fit S.theory S.vars ts (inputs S.theory c)) s) (λ _ u. ok ts u)

-- K answers terms that fit symbol c, and the first cells of the node are that of c over them
pub record ArgumentsRead (I W J X : List ℕ) (old : Mark) (S : State) (c : ℕ) (node : List ℕ) (K : Out Made Trees) (len : ℕ) (new : Mark) : Type 0 where
  pub trees : Trees
  pub went : Went I W J X old K trees new
  pub fits : fit S.theory S.vars trees (inputs S.theory c) ≡ true
  pub many : len ≡ count_trees trees + 1
  pub tree_is : tree_at (made J X new) (take len node) ≡ app c trees
  pub good : Node new.terms (take len node)

abbrev pub ArgumentsBy : List ℕ → List ℕ → List ℕ → List ℕ → Mark → Mark → State → ℕ → List ℕ → Out Made Trees → Result ℕ Question → Type 0
ArgumentsBy I W J X old new S c node K (Ok len) = ArgumentsRead I W J X old S c node K len new
ArgumentsBy I W J X old new S c node K (Err q) = Stopped I W J X old (then K (fitting S c)) (number_of q) (detail_of q) new

abbrev pub ArgumentsAs : Store → Store → State → ℕ → List ℕ → Out Made Trees → Result ℕ Question → Type 0
ArgumentsAs s t S c node K r = ArgumentsBy s.index.now s.words.now t.index.now t.words.now s.mark t.mark S c node K r

-- Lists --------------------------------------------------------------------------------------------------------------------------

-- K answers judgments, so many; their numbers are in the cells as far as these go
pub record JudgmentsRead (I W J X : List ℕ) (old : Mark) (K : Out Made Trees) (cells : List ℕ) (many : ℕ) (new : Mark) : Type 0 where
  pub trees : Trees
  pub went : Went I W J X old K trees new
  pub count : many ≡ count_trees trees
  pub cells_are : cells ≡ filled (length cells) (numbers (made J X new) trees)

-- before, cells: those of the numbers before and afterwards
abbrev pub JudgmentsBy : List ℕ → List ℕ → List ℕ → List ℕ → Mark → Mark → Out Made Trees → List ℕ → List ℕ → Result ℕ Question → Type 0
JudgmentsBy I W J X old new K before cells (Ok many) = JudgmentsRead I W J X old K cells many new
JudgmentsBy I W J X old new K before cells (Err q) = Stopped I W J X old K (number_of q) (detail_of q) new × (cells ≡ before)

abbrev pub JudgmentsAs : Store → Store → Out Made Trees → List ℕ → List ℕ → Result ℕ Question → Type 0
JudgmentsAs s t K before cells r = JudgmentsBy s.index.now s.words.now t.index.now t.words.now s.mark t.mark K before cells r

-- the variables that an item lists, so many, are in the cells
pub record VarsRead (vs : List Var) (x : Sexp) (cells : List ℕ) (many : ℕ) : Type 0 where
  pub vars : List ℕ
  pub are : vars_in vs x ≡ some vars
  pub count : many ≡ length vars
  pub cells_are : cells ≡ filled VARIABLES vars

abbrev pub VarsAs : List Var → Sexp → List ℕ → List ℕ → Option ℕ → Type 0
VarsAs vs x before cells (some many) = VarsRead vs x cells many
VarsAs vs x before cells nothing = (vars_in vs x ≡ nothing) × (cells ≡ before)

-- the facts that an item lists, each passing the test, are the set's
pub record HypsRead (p : Fact → Bool) (S : State) (x : Sexp) (set : List ℕ) : Type 0 where
  pub hyps : List ℕ
  pub are : (M : Made) → hyp_list p S x M ≡ ok hyps M
  pub set_is : holds set ≡ has hyps

abbrev pub HypsAs : (Fact → Bool) → State → Sexp → Result (List ℕ) Question → Type 0
HypsAs p S x (Ok set) = HypsRead p S x set
HypsAs p S x (Err q) = ((M : Made) → hyp_list p S x M ≡ refuse (number_of q) (detail_of q) M) × (detail_of q ≡ 0)

-- Bindings -----------------------------------------------------------------------------------------------------------------------

-- K answers a binding of variable v to term id
pub record PairRead (I W J X : List ℕ) (old : Mark) (K : Out Made Binding) (v id : ℕ) (new : Mark) : Type 0 where
  pub went : Went I W J X old K (record { variable = v; value = tree J X new id }) new
  pub small : v < VARIABLES
  pub there : id < new.terms

abbrev pub PairBy : List ℕ → List ℕ → List ℕ → List ℕ → Mark → Mark → Out Made Binding → Result Pair Question → Type 0
PairBy I W J X old new K (Ok p) = PairRead I W J X old K p.variable p.term new
PairBy I W J X old new K (Err q) = Stopped I W J X old K (number_of q) (detail_of q) new

abbrev pub PairAs : Store → Store → Out Made Binding → Result Pair Question → Type 0
PairAs s t K r = PairBy s.index.now s.words.now t.index.now t.words.now s.mark t.mark K r

-- K answers bindings, which are in the map
pub record BindingsRead (I W J X : List ℕ) (old : Mark) (K : Out Made (List Binding)) (map : List ℕ) (new : Mark) : Type 0 where
  pub went : Went I W J X old K (bindings (made J X new) map 0) new
  pub cells : Theta new map

abbrev pub BindingsBy : List ℕ → List ℕ → List ℕ → List ℕ → Mark → Mark → Out Made (List Binding) → List ℕ → List ℕ → Result (Unit {0}) Question → Type 0
BindingsBy I W J X old new K before map (Ok _) = BindingsRead I W J X old K map new
BindingsBy I W J X old new K before map (Err q) = Stopped I W J X old K (number_of q) (detail_of q) new × (map ≡ before)

abbrev pub BindingsAs : Store → Store → Out Made (List Binding) → List ℕ → List ℕ → Result (Unit {0}) Question → Type 0
BindingsAs s t K before map r = BindingsBy s.index.now s.words.now t.index.now t.words.now s.mark t.mark K before map r

-- An answer of no use --------------------------------------------------------------------------------------------------------------

-- K answers, or refuses by the question
abbrev pub PassedBy : List ℕ → List ℕ → List ℕ → List ℕ → Mark → Mark → Out Made (Unit {0}) → Result (Unit {0}) Question → Type 0
PassedBy I W J X old new K (Ok _) = Went I W J X old K tt new
PassedBy I W J X old new K (Err q) = Stopped I W J X old K (number_of q) (detail_of q) new

abbrev pub PassedAs : Store → Store → Out Made (Unit {0}) → Result (Unit {0}) Question → Type 0
PassedAs s t K r = PassedBy s.index.now s.words.now t.index.now t.words.now s.mark t.mark K r
