-- Question 1 by numbers, tables of just their named lengths, and the tables of a check that has nothing but a theory. Assumes nothing.
use Rattle.std.specs.Prelude.{◌≡◌, ◌*◌, length}
use Rattle.rules.specs.Limits.{VARIABLES, TERMS, WORDS, DEFS, GOALS, ENTRIES}
use Rattle.terms.specs.declared.store.Mark.{Mark}
use Rattle.state.specs.declared.sizes.Sizes.{Sizes}
use Rattle.state.specs.Stands.{Board}
use Rattle.running.specs.Between.{Fits}
use Rattle.beginning.specs.declared.lengths.Lengths.{Lengths}

-- Question 1 -----------------------------------------------------------------------------------------------------------------------

-- all tables are long enough, and there are enough records
abbrev pub FitsAll : Lengths → Type 0
FitsAll l = Fits l.sorts l.symbols l.inputs l.rules l.rulevars l.patterns l.vars l.index l.words l.defs l.rows l.lists l.missing l.facts

-- Tables of their named lengths ------------------------------------------------------------------------------------------------------

pub record ExactBoard (B : Board) : Type 0 where
  pub vars : length B.vars ≡ 4 * VARIABLES
  pub index : length B.index ≡ 4 * TERMS
  pub words : length B.words ≡ WORDS
  pub defs : length B.defs ≡ 3 * DEFS
  pub goals : length B.goals ≡ 6 * GOALS
  pub lists : length B.lists ≡ ENTRIES

-- nothing is used
abbrev pub no_sizes : Sizes
no_sizes = record { sorts = 0; symbols = 0; rules = 0; vars = 0; defs = 0; goals = 0; facts = 0; entries = 0 }

abbrev pub no_mark : Mark
no_mark = record { terms = 0; words = 0 }
