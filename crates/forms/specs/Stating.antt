-- What the forms share that list judgments and state one behind them: it is read, and what the form does with it comes next. Assumes nothing.
use Rattle.std.specs.Prelude.{◌≡◌, List, ℕ, ◌<◌, length, Result, Ok, Err}
use Rattle.rules.specs.Out.{Out, then}
use Rattle.rules.specs.Sexp.{Sexps, item}
use Rattle.rules.specs.Tree.{Tree, Trees, count_trees}
use Rattle.rules.specs.State.{State}
use Rattle.rules.specs.Read.{judgment, judgments}
use Rattle.rules.specs.Forms.{with_made, making}
use Rattle.rules.specs.TheoryTables.{filled}
use Rattle.rules.specs.StateTables.{numbers}
use Rattle.rules.specs.Laws.Keeping.{Each}
use Rattle.rules.specs.Laws.Sound.{sound}
use Rattle.terms.specs.declared.store.Mark.{Mark}
use Rattle.terms.specs.declared.store.Store.{Store}
use Rattle.terms.specs.Table.{made, tree}
use Rattle.questions.specs.declared.Question.{Question}
use Rattle.questions.specs.Numbers.{number_of, detail_of}
use Rattle.forms.specs.declared.stating.Stated.{Stated}
use Rattle.forms.specs.Halted.{Makes, Halts}

-- item 2 lists judgments, item 3 is one; next: what the definition does with them
abbrev pub stating : Sexps → State → (Trees → Tree → State → Out State (Unit {0})) → Out State (Unit {0})
stating xs S next = then (making (judgments S (item xs 2)) S) (λ hs U. then (making (judgment S (item xs 3)) U) (next hs))

-- they are read, and K is what comes next: the judgment by number, the numbers of those listed in the cells as far as these go
pub record StatedRead (I W J X : List ℕ) (old : Mark) (S : State) (K : Out State (Unit {0})) (next : Trees → Tree → State → Out State (Unit {0})) (cells : List ℕ) (r : Stated)
    (now : Mark) : Type 0 where
  pub makes : Makes I W J X old now
  pub trees : Trees
  pub is : K ≡ next trees (tree J X now r.judgment) (with_made S (made J X now))
  pub there : r.judgment < now.terms
  pub known : Each (sound.Has (made J X now)) trees
  pub count : r.listed ≡ count_trees trees
  pub cells_are : cells ≡ filled (length cells) (numbers (made J X now) trees)

-- before, cells: those of the numbers before and afterwards
abbrev pub StatedBy : List ℕ → List ℕ → List ℕ → List ℕ → Mark → Mark → State → Out State (Unit {0}) → (Trees → Tree → State → Out State (Unit {0})) → List ℕ → List ℕ → Result Stated Question → Type 0
StatedBy I W J X old new S K next before cells (Ok r) = StatedRead I W J X old S K next cells r new
StatedBy I W J X old new S K next before cells (Err e) = Halts I W J X old S K (number_of e) (detail_of e) new × (cells ≡ before)

abbrev pub StatedAs : Store → Store → State → Out State (Unit {0}) → (Trees → Tree → State → Out State (Unit {0})) → List ℕ → List ℕ → Result Stated Question → Type 0
StatedAs s t S K next before cells r = StatedBy s.index.now s.words.now t.index.now t.words.now s.mark t.mark S K next before cells r
