-- The named parts of tables that may be longer: what is cut from them, and what stands in the whole afterwards. Assumes nothing.
use Rattle.std.specs.Prelude.{◌≡◌, List, ◌++◌, ℕ, ◌*◌, length, take, drop}
use Rattle.std.proofs.Common.{sym, ap, ◌∙◌, subst, take_at, drop_at}
use Rattle.rules.specs.Limits.{SORTS, SYMBOLS, ARGUMENTS, RULES, RULEVARS, PATTERNS, VARIABLES, TERMS, WORDS, DEFS, GOALS, ENTRIES}
use Rattle.rules.specs.State.{State}
use Rattle.rules.specs.StateTables.{var_cells, def_cells, goal_cells}
use Rattle.rules.specs.Laws.Row.{length_filled}
use Rattle.kernel.specs.Parsed.{TheoryLists, theory_lists, Exact}
use Rattle.kernel.specs.Layout.{tables_exact}
use Rattle.terms.specs.declared.store.Mark.{Mark}
use Rattle.state.specs.declared.sizes.Sizes.{Sizes}
use Rattle.state.specs.Held.{listed}
use Rattle.state.specs.Stands.{Texts, Board, board, trees_of, Stands}
use Rattle.running.specs.Lent.{Working, working, theory_front, board_front, TheoryBehind, WorkingBehind}
use Rattle.beginning.specs.Lengths.{ExactBoard}

-- One table ----------------------------------------------------------------------------------------------------------------------------

module _ {n : ℕ} (y l : List ℕ) (e : length y ≡ n) where
  pub front_is : y ≡ take n (y ++ drop n l)
  front_is = sym (take_at y (drop n l) n e)

  pub behind_is : drop n (y ++ drop n l) ≡ drop n l
  behind_is = drop_at y (drop n l) n e

-- All tables -----------------------------------------------------------------------------------------------------------------------------

-- the named lengths of tables that stand for a state
module _ {X : Texts} {T : TheoryLists} {B : Board} {n : Sizes} {m : Mark} {S : State} (h : Stands X T B n m S) where
  pub theory_exact : Exact T
  theory_exact = subst Exact (sym h.laid) (tables_exact S.theory)

  pub board_exact : ExactBoard B
  board_exact =
      let M = trees_of B m in
      record {
        vars = ap length h.spelling.vars.stand.cells ∙ length_filled (4 * VARIABLES) (var_cells S.vars);
        index = h.good.index;
        words = h.good.words;
        defs = ap length h.spelling.defs.cells ∙ length_filled (3 * DEFS) (def_cells M S.defs);
        goals = ap length h.goals.cells ∙ length_filled (6 * GOALS) (goal_cells M 0 S.goals);
        lists = ap length h.recorded.lists ∙ length_filled ENTRIES (listed M S);
      }

-- the parts Y, D in their places of the tables T, W
abbrev pub theory_now : TheoryLists → TheoryLists → TheoryLists
theory_now Y T =
    theory_lists (Y.sorts ++ drop (2 * SORTS) T.sorts) (Y.symbols ++ drop (4 * SYMBOLS) T.symbols) (Y.inputs ++ drop (ARGUMENTS * SYMBOLS) T.inputs)
    (Y.rules ++ drop (6 * RULES) T.rules) (Y.rule_vars ++ drop (3 * RULEVARS * RULES) T.rule_vars) (Y.patterns ++ drop PATTERNS T.patterns)

abbrev pub working_now : Board → Working → Working
working_now D W =
    working (D.vars ++ drop (4 * VARIABLES) W.vars) (D.index ++ drop (4 * TERMS) W.index) (D.words ++ drop WORDS W.words)
    (D.defs ++ drop (3 * DEFS) W.defs) (D.goals ++ drop (6 * GOALS) W.goals) (D.lists ++ drop ENTRIES W.lists)

module _ {Y : TheoryLists} (T : TheoryLists) (x : Exact Y) where
  pub theory_front_lem : Y ≡ theory_front (theory_now Y T)
  theory_front_lem =
      λ i. theory_lists (front_is Y.sorts T.sorts x.sorts i) (front_is Y.symbols T.symbols x.symbols i) (front_is Y.inputs T.inputs x.inputs i)
      (front_is Y.rules T.rules x.rules i) (front_is Y.rule_vars T.rule_vars x.rule_vars i) (front_is Y.patterns T.patterns x.patterns i)

  pub theory_behind : TheoryBehind T (theory_now Y T)
  theory_behind =
      record {
        sorts = behind_is Y.sorts T.sorts x.sorts;
        symbols = behind_is Y.symbols T.symbols x.symbols;
        inputs = behind_is Y.inputs T.inputs x.inputs;
        rules = behind_is Y.rules T.rules x.rules;
        rule_vars = behind_is Y.rule_vars T.rule_vars x.rule_vars;
        patterns = behind_is Y.patterns T.patterns x.patterns;
      }

module _ {D : Board} (W : Working) (x : ExactBoard D) where
  pub board_front_lem : D ≡ board_front (working_now D W) D.facts D.footings
  board_front_lem =
      λ i. board (front_is D.vars W.vars x.vars i) (front_is D.index W.index x.index i) (front_is D.words W.words x.words i)
      (front_is D.defs W.defs x.defs i) (front_is D.goals W.goals x.goals i) D.facts D.footings (front_is D.lists W.lists x.lists i)

  pub working_behind : WorkingBehind W (working_now D W)
  working_behind =
      record {
        vars = behind_is D.vars W.vars x.vars;
        index = behind_is D.index W.index x.index;
        words = behind_is D.words W.words x.words;
        defs = behind_is D.defs W.defs x.defs;
        goals = behind_is D.goals W.goals x.goals;
        lists = behind_is D.lists W.lists x.lists;
      }
