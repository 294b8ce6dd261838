-- The goals without a result: the numbers of their rows are those that the definition finds, and the list has them one by one. Assumes nothing.
use mathlib.Core.Path.{◌≡◌, refl, sym, ap, ◌∙◌}
use Prim.Native.Nat.{ℕ, zero, suc, ◌+◌, ◌<◌, ◌≤◌}
use mathlib.Core.Bool.{Bool, true, false, not, cond}
use mathlib.Core.List.{List, [], ◌∷◌, ◌++◌, map, map-id, map-append}
use native.Mathlib.Omega.{arith}
use lib.Dec.{eqb}
use lib.ListN.{length, get_or, set, length-map}
use denote.Ref.{Bor}
use denote.Param.Members.{Mut}
use Rattle.std.specs.Prelude.{Option, Some as some, None as nothing}
use Rattle.std.specs.declared.ops.Range.{Range}
use Rattle.std.specs.declared.iter.Filter.{Filter}
use Rattle.std.specs.declared.iter.Enumerate.{Enumerate}
use Rattle.std.specs.Fn.{CalledAt}
use Rattle.std.specs.Iterator.{Yields}
use Rattle.std.specs.Iterator.Adapters.{enumerate_source, enumerate_count, enumerate_steps, filter_source, filter_callee, filter_steps}
use Rattle.std.specs.List.{filter, range_with_len, enumerate_from}
use Rattle.std.proofs.iter.Yields.{nat_range_steps}
use Rattle.std.proofs.lemmas.Iterator.{YieldsList, YieldsList-from_range}
use Rattle.std.proofs.lemmas.Iterator.Consumers.{YieldsList-at, YieldsList-from_filter, YieldsList-from_enumerate, YieldsList-turn, YieldsList-end}
use Rattle.std.proofs.lemmas.List.FromFn.{length-enumerate_from, get_or-enumerate_from}
use Rattle.rules.specs.Limits.{GOALS}
use Rattle.rules.specs.Find.{every}
use Rattle.rules.specs.State.{Goal}
use Rattle.rules.specs.TheoryTables.{filled, name_cells}
use Rattle.rules.specs.Laws.Row.{length_filled}
use Rattle.state.specs.Rows.{cell, GoalAt}
use Rattle.state.specs.RowCells.{no_goal, goal_row}
use Rattle.state.specs.Filled.{filled_more}
use Rattle.state.specs.GoalLaws.{goals_long, goal_at, bit_flag}
use Rattle.running.specs.Finished.{unproved, GoalRows}

-- Numbers of rows --------------------------------------------------------------------------------------------------------------------

-- whether row k has no result; the rows that have none
abbrev pub row_missing : List ℕ → ℕ → Bool
row_missing rows k = not (not (eqb (cell 6 rows k 5) 0))

abbrev pub rows_missing : List ℕ → ℕ → List ℕ
rows_missing rows count = filter (row_missing rows) (range_with_len 0 count)

-- numbers from a on that say which goals have none
numbers_every : (test : ℕ → Bool) (gs : List Goal) (a : ℕ) → ((k : ℕ) → k < length gs → test (a + k) ≡ not (get_or gs k no_goal).taken) →
    map (λ (k : ℕ). k + 1) (filter test (range_with_len a (length gs))) ≡ every (λ g. not g.taken) gs (a + 1)
unfolding every
numbers_every test [] a h = refl
numbers_every test (g ∷ gs) a h = go (not g.taken) (ap test (omega arith) ∙ h 0 (omega arith))
    (numbers_every test gs (a + 1) (λ k l. ap test (omega arith) ∙ h (suc k) (omega arith)))
  where
    go : (b : Bool) → test a ≡ b → map (λ (k : ℕ). k + 1) (filter test (range_with_len (a + 1) (length gs))) ≡ every (λ g. not g.taken) gs (a + 1 + 1) →
        map (λ (k : ℕ). k + 1) (filter test (range_with_len a (suc (length gs))))
        ≡ elim b [ true ↦ (a + 1) ∷ every (λ g. not g.taken) gs (suc (a + 1)) | false ↦ every (λ g. not g.taken) gs (suc (a + 1)) ]
    go true e i = rw e (ap (λ (l : List ℕ). (a + 1) ∷ l) (i ∙ ap (every (λ g. not g.taken) gs) (omega arith)))
    go false e i = rw e (i ∙ ap (every (λ g. not g.taken) gs) (omega arith))

module _ {rows : List ℕ} {count : ℕ} (g : GoalRows rows count) where
  -- what is asked of row k
  pub row_asked : (k : ℕ) → k < count → GoalAt rows k
  row_asked k l = (goals_long g.held, omega (arith, l, g.held.few))

  missing_is : (k : ℕ) → k < count → row_missing rows k ≡ not (get_or g.gs k no_goal).taken
  unfolding goal_row name_cells
  missing_is k l = ap not (ap (λ n. not (eqb n 0)) (goal_at g.held k 5 l (omega arith)) ∙ bit_flag (get_or g.gs k no_goal).taken)

  pub rows_unproved : map (λ (k : ℕ). k + 1) (rows_missing rows count) ≡ unproved g.gs
  rows_unproved =
      ap (λ (n : ℕ). map (λ (k : ℕ). k + 1) (rows_missing rows n)) (sym g.held.many)
      ∙ numbers_every (row_missing rows) g.gs 0 (λ k l. ap (row_missing rows) (omega arith) ∙ missing_is k (omega (arith, g.held.many)))

  pub many_unproved : length (rows_missing rows count) ≡ length (unproved g.gs)
  many_unproved = sym (length-map (rows_missing rows count) (λ (k : ℕ). k + 1)) ∙ ap length rows_unproved

-- The loop ---------------------------------------------------------------------------------------------------------------------------

-- what is kept of a range is no more than there was, and inside it
kept_few : (test : ℕ → Bool) (a n : ℕ) → length (filter test (range_with_len a n)) ≤ n
kept_few test a zero = omega arith
kept_few test a (suc n) = go (test a) (kept_few test (a + 1) n)
  where
    go : (b : Bool) → length (filter test (range_with_len (a + 1) n)) ≤ n →
        length {A = ℕ} (cond b (a ∷ filter test (range_with_len (a + 1) n)) (filter test (range_with_len (a + 1) n))) ≤ suc n
    go true h = omega arith
    go false h = omega arith

kept_inside : (test : ℕ → Bool) (a n end d i : ℕ) → a + n ≤ end → i < length (filter test (range_with_len a n)) →
    get_or (filter test (range_with_len a n)) i d < end
kept_inside test a zero end d i l h = absurd (let z : i < 0 = h in omega arith)
kept_inside test a (suc n) end d i l h = go (test a) i h (λ j k. kept_inside test (a + 1) n end d j (omega arith) k)
  where
    go : (b : Bool) (i : ℕ) → i < length {A = ℕ} (cond b (a ∷ filter test (range_with_len (a + 1) n)) (filter test (range_with_len (a + 1) n))) →
        ((j : ℕ) → j < length (filter test (range_with_len (a + 1) n)) → get_or (filter test (range_with_len (a + 1) n)) j d < end) →
        get_or (cond b (a ∷ filter test (range_with_len (a + 1) n)) (filter test (range_with_len (a + 1) n))) i d < end
    go true zero h e = omega arith
    go true (suc i) h e = e i (omega arith)
    go false i h e = e i h

-- what the list has behind these entries, each with its row
abbrev pub entries : List (ℕ × ℕ) → List ℕ
entries items = map (λ (p : ℕ × ℕ). p.1 + 1) items

entries_numbered : (rows : List ℕ) (n : ℕ) → entries (enumerate_from n rows) ≡ map (λ (k : ℕ). k + 1) rows
entries_numbered [] n = refl
entries_numbered (k ∷ rows) n = ap (λ (l : List ℕ). (k + 1) ∷ l) (entries_numbered rows (n + 1))

pub long : (missing xs : List ℕ) → missing ≡ filled GOALS xs → length missing ≡ GOALS
long missing xs e = ap length e ∙ length_filled GOALS xs

-- the rows without a result come one after the other, each with the number of its entry; those that have come are xs
module _ {F : Type 0} {g : Mut F (Bor ℕ × Unit {0}) Bool} {test : F} {m : Enumerate (Filter (Range ℕ) F)} {f : Filter (Range ℕ) F}
    (rows : List ℕ) (count : ℕ) (s t : Enumerate (Filter (Range ℕ) F)) (xs : List (ℕ × ℕ))
    (y : Yields (enumerate_steps (filter_steps nat_range_steps g)) s xs t) (i : s ≡ m)
    (a : enumerate_source m ≡ f) (b : enumerate_count m ≡ 0) (c : filter_source f ≡ record { start = 0; end = count }) (d : filter_callee f ≡ test)
    (says : (k : ℕ) (b : Bool) (q : F) → CalledAt g test k b q → (q ≡ test) × (b ≡ row_missing rows k)) where
  numbered : YieldsList (enumerate_steps (filter_steps nat_range_steps g)) (λ (p : ℕ × ℕ). (p.0, p.1)) s (enumerate_from 0 (rows_missing rows count))
  numbered =
      YieldsList-at i
      (YieldsList-from_enumerate
      (YieldsList-at a (YieldsList-from_filter g (row_missing rows) (YieldsList-from_range 0 count count c (omega arith)) d says)) b)

  module _ (r : Option (ℕ × ℕ)) (u : Enumerate (Filter (Range ℕ) F)) (p : ℕ × ℕ) (e : r ≡ some p)
      (z : enumerate_steps (filter_steps nat_range_steps g) t r u) where
    -- the next entry, in the list, and its row
    pub turned : (p.0 ≡ length xs) × (p.0 < count) × (p.1 < count)
    turned =
        let w = YieldsList-turn numbered xs t y r u p e z in
        let l : length xs < length (rows_missing rows count) = omega (arith, w.0, length-enumerate_from 0 (rows_missing rows count)) in
        let q : ◌≡◌ {A = ℕ × ℕ} (p.0, p.1) (0 + length xs, get_or (rows_missing rows count) (length xs) p.1) =
        w.1 ∙ get_or-enumerate_from 0 (rows_missing rows count) (length xs) (p.0, p.1) l in
        let n : p.0 ≡ 0 + length xs = ap (λ (v : ℕ × ℕ). v.0) q in
        let o : p.1 ≡ get_or (rows_missing rows count) (length xs) p.1 = ap (λ (v : ℕ × ℕ). v.1) q in (
          omega (arith, n),
          omega (arith, n, l, kept_few (row_missing rows) 0 count),
          omega (arith, o, kept_inside (row_missing rows) 0 count count p.1 (length xs) (omega arith) l),
        )

    pub listed : {missing : List ℕ} → count ≤ GOALS → missing ≡ filled GOALS (entries xs) →
        set missing p.0 (p.1 + 1) ≡ filled GOALS (entries (xs ++ (p ∷ [])))
    listed few h =
        let w = turned in
        let l = length-map xs (λ (p : ℕ × ℕ). p.1 + 1) in
        ap (λ l. set l p.0 (p.1 + 1)) h
        ∙ filled_more GOALS (entries xs) (omega (arith, l, w.0, w.1, few)) p.0 ((p.1 + 1) ∷ []) (omega (arith, l, w.0)) (omega (arith, l, w.0, w.1, few))
        ∙ ap (filled GOALS) (sym (map-append (λ (p : ℕ × ℕ). p.1 + 1) xs (p ∷ [])))

  -- all have come
  pub listed_all : (r : Option (ℕ × ℕ)) (u : Enumerate (Filter (Range ℕ) F)) {missing : List ℕ} → r ≡ nothing →
      enumerate_steps (filter_steps nat_range_steps g) t r u → missing ≡ filled GOALS (entries xs) → (h : GoalRows rows count) →
      missing ≡ filled GOALS (unproved h.gs)
  listed_all r u e z l h =
      let w : map (λ (p : ℕ × ℕ). (p.0, p.1)) xs ≡ enumerate_from 0 (rows_missing rows count) = (YieldsList-end numbered xs t y r u e z).0 in
      l ∙ ap (filled GOALS) (ap entries (sym (map-id xs) ∙ w) ∙ entries_numbered (rows_missing rows count) 0 ∙ rows_unproved h)
