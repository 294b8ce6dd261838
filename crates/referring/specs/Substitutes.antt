-- Terms that are put under one substitution, each in turn: what is asked, and what is answered. Assumes nothing.
use Rattle.std.specs.Prelude.{◌≡◌, List, ℕ, ◌≤◌, length, get_or, replicate, Result, Ok, Err}
use Rattle.rules.specs.Limits.{TERMS}
use Rattle.rules.specs.Out.{Out}
use Rattle.rules.specs.Tree.{Trees}
use Rattle.rules.specs.Store.{Made}
use Rattle.questions.specs.Numbers.{row_number}
use Rattle.questions.specs.declared.Row.{Row}
use Rattle.terms.specs.declared.store.Mark.{Mark}
use Rattle.terms.specs.declared.store.Store.{Store}
use Rattle.terms.specs.Table.{made, args_of, Below, Good}
use Rattle.terms.specs.On.{Went, Stopped}

-- a map of terms that are there, a memo without results, terms, and a cell for each
pub record Replaceables (I W : List ℕ) (m : Mark) (map memo ids out : List ℕ) : Type 0 where
  pub good : Good I W m
  pub within : (v : ℕ) → get_or map v 0 ≤ m.terms
  pub empty : memo ≡ replicate TERMS 0
  pub there : Below m.terms ids
  pub long : length out ≡ length ids

abbrev pub ReplaceablesIn : Store → List ℕ → List ℕ → List ℕ → List ℕ → Type 0
ReplaceablesIn s map memo ids out = Replaceables s.index.now s.words.now s.mark map memo ids out

-- K answers terms, whose numbers are in the cells
pub record Replaced (I W J X : List ℕ) (old : Mark) (K : Out Made Trees) (out : List ℕ) (new : Mark) : Type 0 where
  pub went : Went I W J X old K (args_of (made J X new) out) new
  pub there : Below new.terms out

abbrev pub ReplacedBy : List ℕ → List ℕ → List ℕ → List ℕ → Mark → Mark → Out Made Trees → List ℕ → Result (Unit {0}) Row → Type 0
ReplacedBy I W J X old new K out (Ok _) = Replaced I W J X old K out new
ReplacedBy I W J X old new K out (Err row) = Stopped I W J X old K 60 (row_number row) new

abbrev pub ReplacedAs : Store → Store → Out Made Trees → List ℕ → Result (Unit {0}) Row → Type 0
ReplacedAs s t K out r = ReplacedBy s.index.now s.words.now t.index.now t.words.now s.mark t.mark K out r
