-- Laws of the table of goals: what its cells and its entries say, one more, one that is taken. Assumes nothing.
use Rattle.std.specs.Prelude.{◌≡◌, refl, ℕ, suc, ◌+◌, ◌*◌, ◌<◌, ◌≤◌, Bool, true, false, eqb, take, drop, set, Some as some}
use Rattle.std.proofs.Math.Path.{sym, ap}
use Rattle.std.proofs.Common.{◌∙◌, arith, zero-add}
use Rattle.std.proofs.Math.Bool.{not}
use mathlib.Core.List.{List, [], ◌∷◌, ◌++◌, append_assoc}
use Rattle.std.proofs.Math.ListN.{length, get_or}
use Rattle.std.proofs.Math.Seq.{sets}
use Rattle.rules.specs.Limits.{GOALS, ENTRIES}
use Rattle.rules.specs.Find.{entry, change}
use Rattle.rules.specs.Tree.{count_trees}
use Rattle.rules.specs.Store.{Made, number}
use Rattle.rules.specs.State.{Goal, goal_entries}
use Rattle.rules.specs.Forms.{taken_goal}
use Rattle.rules.specs.TheoryTables.{filled, name_cells}
use Rattle.rules.specs.StateTables.{goal_cells, goal_list, numbers, bit}
use Rattle.rules.specs.Laws.Theory.{All, all_snoc, all_at}
use Rattle.rules.specs.Laws.Entry.{change_length, change_all}
use Rattle.rules.specs.Laws.Sound.{sound}
use Rattle.rules.specs.Laws.Ready.{GoalIn}
use Rattle.sexp.specs.NameRows.{NameIn}
use Rattle.state.specs.Held.{GoalsHeld}
use Rattle.state.specs.Rows.{cell, list_span}
use Rattle.state.specs.Numbered.{Numbered, AllNumbered, numbered_at, each_numbered, sound_in, length_numbers}
use Rattle.state.specs.RowCells.{goal_row, goal_places, goal_rows_lem, goal_width, goal_places_lem, running_snoc, running_cell, length_running, taken_cells, no_goal}
use Rattle.state.specs.RowTables.{Tabled, tabled_long, tabled_at, tabled_set, tabled_more, length_one_more, entry_at}
use Rattle.state.specs.Entries.{part, span_in, span_is, goal_list_split, length_goal_list}

pub length_goal_cells : (M : Made) (at : ℕ) (gs : List Goal) → length (goal_cells M at gs) ≡ 6 * length gs
length_goal_cells M at gs = ap length (goal_rows_lem M at gs) ∙ length_running (goal_row M) goal_places 6 (goal_width M) at gs

pub goal_cells_snoc : (M : Made) (at : ℕ) (gs : List Goal) (g : Goal) →
    goal_cells M at (gs ++ (g ∷ [])) ≡ goal_cells M at gs ++ goal_row M (at + goal_entries gs) g
goal_cells_snoc M at gs g =
    goal_rows_lem M at (gs ++ (g ∷ [])) ∙ running_snoc (goal_row M) goal_places at gs g
    ∙ (λ i. sym (goal_rows_lem M at gs) i ++ goal_row M (at + goal_places_lem gs i) g)

pub bit_flag : (b : Bool) → not (eqb (bit b) 0) ≡ b
unfolding bit
bit_flag true = refl
bit_flag false = refl

-- everything that a reader of goal k needs
pub record GoalRow (rows lists : List ℕ) (M : Made) (gs : List Goal) (k : ℕ) (g : Goal) : Type 0 where
  pub is : entry gs k ≡ some g
  pub judgment : Numbered M g.judgment (cell 6 rows k 2)
  pub inside : (list_span rows k).end ≤ ENTRIES
  pub hyps : part lists (list_span rows k) ≡ numbers M g.hyps
  pub many : cell 6 rows k 4 ≡ count_trees g.hyps
  pub numbered : AllNumbered M g.hyps (numbers M g.hyps)
  pub taken : not (eqb (cell 6 rows k 5) 0) ≡ g.taken

module _ {text rows : List ℕ} {count : ℕ} {M : Made} {gs : List Goal} (h : GoalsHeld text rows count M gs) where
  pub goals_tabled : Tabled 6 GOALS rows count (goal_cells M 0 gs)
  goals_tabled = record { is = h.cells; many = length_goal_cells M 0 gs ∙ ap (λ n. 6 * n) h.many; few = h.few }

  pub goals_long : length rows ≡ 6 * GOALS
  goals_long = tabled_long goals_tabled

  -- cell j of goal k
  pub goal_at : (k j : ℕ) → k < count → j < 6 → cell 6 rows k j ≡ get_or (goal_row M (goal_entries (take k gs)) (get_or gs k no_goal)) j 0
  goal_at k j l m =
      tabled_at goals_tabled (6 * k + j) ∙ ap (λ l. get_or l (6 * k + j) 0) (goal_rows_lem M 0 gs)
      ∙ running_cell (goal_row M) goal_places 6 (goal_width M) 0 gs k j no_goal (omega (arith, h.many)) m
      ∙ ap (λ n. get_or (goal_row M n (get_or gs k no_goal)) j 0) (zero-add _ ∙ goal_places_lem (take k gs))

  -- the goal that `is_taken`, `goal_judgment` and `goal_hyps` read; the lists hold the goals' entries first
  pub goal_row_lem : (lists rest : List ℕ) (k : ℕ) → All (GoalIn sound M) gs → lists ≡ filled ENTRIES (goal_list M gs ++ rest) →
      length (goal_list M gs ++ rest) ≤ ENTRIES → k < count → GoalRow rows lists M gs k (get_or gs k no_goal)
  unfolding goal_row name_cells
  goal_row_lem lists rest k a e f l =
      let m : k < length gs = omega (arith, h.many) in
      let g = get_or gs k no_goal in
      let p = all_at gs k no_goal a m in
      let s = goal_at k 3 l (omega arith) in
      let t = goal_at k 4 l (omega arith) in
      let q = length_numbers M g.hyps in
      let r = length_goal_list M (take k gs) in
      let split = ap (λ l. l ++ rest) (goal_list_split M gs k no_goal m)
      ∙ regroup (goal_list M (take k gs)) (numbers M g.hyps) (goal_list M (drop (suc k) gs)) rest in
      record {
        is = entry_at gs k no_goal m;
        judgment = numbered_at (cell 6 rows k 2) (sound_in M g.judgment p.judgment) (goal_at k 2 l (omega arith));
        inside =
            let i = span_in ENTRIES (goal_list M gs ++ rest) (goal_list M (take k gs)) (numbers M g.hyps) (goal_list M (drop (suc k) gs) ++ rest) f split in
            omega arith;
        hyps = ap (λ l. part l (list_span rows k)) e
            ∙ span_is ENTRIES (goal_list M gs ++ rest) (goal_list M (take k gs)) (numbers M g.hyps) (goal_list M (drop (suc k) gs) ++ rest) f split
            (cell 6 rows k 3) (cell 6 rows k 3 + cell 6 rows k 4) (omega arith) (omega arith);
        many = t;
        numbered = each_numbered g.hyps p.hyps;
        taken = ap (λ n. not (eqb n 0)) (goal_at k 5 l (omega arith)) ∙ bit_flag g.taken;
      }
    where
      regroup : (w x y z : List ℕ) → (w ++ (x ++ y)) ++ z ≡ w ++ (x ++ (y ++ z))
      regroup w x y z = simp append_assoc

  -- the row that `put_goal` writes
  pub goals_more : (g : Goal) (end judgment from hyps : ℕ) → count < GOALS → NameIn text g.name → end ≡ g.name.start + length g.name.bytes →
      judgment ≡ number M g.judgment → from ≡ goal_entries gs → hyps ≡ count_trees g.hyps → g.taken ≡ false →
      GoalsHeld text (sets rows (6 * count) (g.name.start ∷ end ∷ judgment ∷ from ∷ hyps ∷ 0 ∷ [])) (count + 1) M (gs ++ (g ∷ []))
  unfolding goal_row name_cells bit
  goals_more g end judgment from hyps l i e j f c b =
      let t = tabled_more goals_tabled (goal_row M (goal_entries gs) g) (goal_width M (goal_entries gs) g) l in
      record {
        many = length_one_more gs g ∙ ap (λ n. n + 1) h.many;
        few = t.few;
        cells = (λ o. sets rows (6 * count) (g.name.start ∷ e o ∷ j o ∷ f o ∷ c o ∷ sym (ap bit b) o ∷ [])) ∙ t.is
            ∙ ap (filled (6 * GOALS)) (sym (goal_cells_snoc M 0 gs g ∙ ap (λ n. goal_cells M 0 gs ++ goal_row M n g) (zero-add (goal_entries gs))));
        names = all_snoc h.names i;
      }

  -- the cell that `take_goal` writes
  pub goals_taken : (k : ℕ) → k < count → GoalsHeld text (set rows (6 * k + 5) 1) count M (change gs k taken_goal)
  goals_taken k l =
      record {
        many = change_length gs k taken_goal ∙ h.many;
        few = h.few;
        cells = tabled_set goals_tabled (6 * k + 5) 1 (goal_cells M 0 (change gs k taken_goal)) (omega (arith, length_goal_cells M 0 gs, h.many))
            (taken_cells M 0 gs k (omega (arith, h.many)));
        names = change_all gs k taken_goal (λ g i. i) h.names;
      }
