-- What `count_open` counts: the rows whose judgment has a variable are as many as the goals whose judgment has one. Assumes nothing.
use mathlib.Core.Path.{◌≡◌, refl, sym, ap, ◌∙◌}
use Prim.Native.Nat.{ℕ, suc, ◌+◌, ◌<◌}
use mathlib.Core.Bool.{Bool, true, false}
use mathlib.Core.List.{List, [], ◌∷◌}
use native.Mathlib.Omega.{arith}
use lib.ListN.{length, get_or}
use Rattle.std.specs.List.{filter, range_with_len}
use Rattle.rules.specs.Tree.{is_open}
use Rattle.rules.specs.State.{Goal}
use Rattle.rules.specs.Check.{count_open}
use Rattle.rules.specs.TheoryTables.{name_cells}
use Rattle.rules.specs.Laws.Theory.{all_at}
use Rattle.terms.specs.declared.store.Terms.{Terms}
use Rattle.terms.specs.Table.{made}
use Rattle.terms.specs.Laws.Growth.{made_length}
use Rattle.state.specs.Rows.{cell}
use Rattle.state.specs.RowCells.{no_goal, goal_row}
use Rattle.state.specs.Numbered.{Numbered, numbered_at}
use Rattle.state.specs.GoalLaws.{goals_long, goal_at}
use Rattle.running.specs.Finished.{OpenRows, OpenRowAt, row_open}

-- numbers from a on that say which goals are open
numbers_open : (test : ℕ → Bool) (gs : List Goal) (a : ℕ) → ((k : ℕ) → k < length gs → test (a + k) ≡ is_open (get_or gs k no_goal).judgment) →
    length (filter test (range_with_len a (length gs))) ≡ count_open gs
unfolding count_open
numbers_open test [] a h = refl
numbers_open test (g ∷ gs) a h = go (is_open g.judgment) (ap test (omega arith) ∙ h 0 (omega arith))
    (numbers_open test gs (a + 1) (λ k l. ap test (omega arith) ∙ h (suc k) (omega arith)))
  where
    go : (b : Bool) → test a ≡ b → length (filter test (range_with_len (a + 1) (length gs))) ≡ count_open gs →
        length (filter test (range_with_len a (suc (length gs)))) ≡ elim b [ true ↦ suc (count_open gs) | false ↦ count_open gs ]
    go true e i = rw e (ap suc i)
    go false e i = rw e i

module _ {rows : List ℕ} (t : Terms) {count : ℕ} (g : OpenRows rows t.index.now t.words.now t.mark count) where
  numbered : (k : ℕ) → k < count → Numbered (made t.index.now t.words.now t.mark) (get_or g.gs k no_goal).judgment (cell 6 rows k 2)
  unfolding goal_row name_cells
  numbered k l = numbered_at (cell 6 rows k 2) (all_at g.gs k no_goal g.there (omega (arith, g.held.many))) (goal_at g.held k 2 l (omega arith))

  -- what is asked of row k
  pub row_asked : (k : ℕ) → k < count → OpenRowAt rows t k
  row_asked k l = (
    g.good,
    goals_long g.held,
    omega (arith, g.held.few),
    let z = made_length t.index.now t.words.now t.mark in omega (arith, (numbered k l).below),
  )

  pub rows_open : length (filter (row_open rows t) (range_with_len 0 count)) ≡ count_open g.gs
  rows_open =
      ap (λ (n : ℕ). length (filter (row_open rows t) (range_with_len 0 n))) (sym g.held.many)
      ∙ numbers_open (row_open rows t) g.gs 0 (λ k l. ap (row_open rows t) (omega arith) ∙ ap is_open (numbered k (omega (arith, g.held.many))).tree)
