-- What the functions that read the items of a step are given, how far the items have come, and what is answered. Assumes nothing.
use Rattle.std.specs.Prelude.{◌≡◌, List, ℕ, ◌<◌, ◌≤◌, Option, Result, Ok, Err}
use Rattle.rules.specs.Out.{Out}
use Rattle.rules.specs.Sexp.{Sexp, Sexps, cons}
use Rattle.rules.specs.Tree.{Tree, variables_of}
use Rattle.rules.specs.Store.{Made}
use Rattle.rules.specs.State.{State}
use Rattle.rules.specs.Step.{Items}
use Rattle.questions.specs.Numbers.{number_of, detail_of}
use Rattle.questions.specs.declared.Question.{Question}
use Rattle.sexp.specs.Items.{Holds}
use Rattle.terms.specs.declared.store.Mark.{Mark}
use Rattle.terms.specs.declared.store.Store.{Store}
use Rattle.terms.specs.Table.{made}
use Rattle.terms.specs.Sets.{counted_from_1}
use Rattle.terms.specs.Patterns.{cells_of, tree_in, bound_of, Cells}
use Rattle.terms.specs.On.{Stopped}
use Rattle.state.specs.declared.sizes.Sizes.{Sizes}
use Rattle.state.specs.Held.{Names, RuleLists, rule_lists, Ruled}
use Rattle.reading.specs.declared.reader.Reader.{Reader}
use Rattle.reading.specs.Reader.{names_of}
use Rattle.reading.specs.Given.{Reads}
use Rattle.referring.specs.Derived.{cell_vars, RuleItems, ItemsRead}
use Rattle.derivation.specs.declared.items.OneRule.{OneRule}
use Rattle.derivation.specs.declared.items.Said.{Said}

-- How far they have come -------------------------------------------------------------------------------------------------------------

-- what is bound is in the cells, what is stated is the term with that number less 1, or none
pub record ItemsHeld (I W : List ℕ) (m : Mark) (bound : List ℕ) (stated : ℕ) (it : Items) : Type 0 where
  pub binds : it.bound ≡ bound_of (made I W m) bound
  pub cells : Cells m.terms bound
  pub values : variables_of it.values ≡ cell_vars (made I W m) bound
  pub states : it.stated ≡ tree_in (made I W m) stated
  pub there : stated ≤ m.terms

-- terms are read beside rule r, the items have come to `it`, and the cells begin with an item
pub record RuleItem (K : Names) (rules rulevars : List ℕ) (n : Sizes) (I W : List ℕ) (m : Mark) (r : ℕ) (cells bound : List ℕ) (stated : ℕ) : Type 0 where
  pub S : State
  pub patterns : List ℕ
  pub it : Items
  pub x : Sexp
  pub ys : Sexps
  pub reads : Reads K n I W m S
  pub ruled : Ruled (rule_lists K.theory rules rulevars patterns) n S.theory
  pub known : r < n.rules
  pub so_far : ItemsHeld I W m bound stated it
  pub holds : Holds K.text cells (cons x ys)

-- As they are lent -------------------------------------------------------------------------------------------------------------------

abbrev pub tables_of : Reader → OneRule → RuleLists
tables_of r u = rule_lists r.theory.now u.rules.rows.now u.rules.vars.now u.rules.patterns.now

abbrev pub ReadsRuleItem : Reader → OneRule → Store → List ℕ → Said → Type 0
ReadsRuleItem r u s cells said =
    RuleItem (names_of r) u.rules.rows.now u.rules.vars.now r.n s.index.now s.words.now s.mark u.number cells (cells_of said.bound) (counted_from_1 said.stated)

abbrev pub ReadsRuleItems : Reader → OneRule → Store → List ℕ → Type 0
ReadsRuleItems r u s cells = RuleItems (names_of r) (tables_of r u) r.n s.index.now s.words.now s.mark u.number cells

abbrev pub HeldIn : Store → Said → Items → Type 0
HeldIn s said it = ItemsHeld s.index.now s.words.now s.mark (cells_of said.bound) (counted_from_1 said.stated) it

-- the term that is stated
abbrev pub stated_in : Made → Option ℕ → Option Tree
stated_in M stated = tree_in M (counted_from_1 stated)

-- Answers ----------------------------------------------------------------------------------------------------------------------------

abbrev pub ItemsBy : List ℕ → List ℕ → List ℕ → List ℕ → Mark → Mark → Out Made Items → Result Said Question → Type 0
ItemsBy I W J X old new K (Ok said) = ItemsRead I W J X old K (cells_of said.bound) (counted_from_1 said.stated) new
ItemsBy I W J X old new K (Err q) = Stopped I W J X old K (number_of q) (detail_of q) new

abbrev pub ItemsAs : Store → Store → Out Made Items → Result Said Question → Type 0
ItemsAs s t K r = ItemsBy s.index.now s.words.now t.index.now t.words.now s.mark t.mark K r

-- of one item: what was said before, and afterwards
abbrev pub ItemBy : List ℕ → List ℕ → List ℕ → List ℕ → Mark → Mark → Out Made Items → Said → Said → Result (Unit {0}) Question → Type 0
ItemBy I W J X old new K before said (Ok _) = ItemsRead I W J X old K (cells_of said.bound) (counted_from_1 said.stated) new
ItemBy I W J X old new K before said (Err q) = Stopped I W J X old K (number_of q) (detail_of q) new × (said ≡ before)

abbrev pub ItemAs : Store → Store → Out Made Items → Said → Said → Result (Unit {0}) Question → Type 0
ItemAs s t K before said r = ItemBy s.index.now s.words.now t.index.now t.words.now s.mark t.mark K before said r
