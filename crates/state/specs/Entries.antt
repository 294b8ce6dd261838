-- The entries of all lists: which part of the table a goal's and a fact's entries are. Assumes nothing.
use Rattle.std.specs.Prelude.{◌≡◌, refl, ℕ, suc, ◌+◌, ◌-◌, ◌<◌, ◌≤◌, List, [], ◌∷◌, ◌++◌, length, get_or, take, drop, set}
use Rattle.std.proofs.Common.{sym, ap, ◌∙◌, arith, add-one, length-append, length-take, length-drop, take_at, drop_at, drop-cons, get_or-take, get_or-drop}
use Rattle.std.proofs.lemmas.List.Edits.{sets}
use Rattle.std.proofs.lemmas.List.{set_comm}
use Rattle.rules.specs.Store.{Made}
use Rattle.rules.specs.State.{Goal, Fact, goal_entries, fact_entries, all_entries}
use Rattle.rules.specs.TheoryTables.{filled, rows}
use Rattle.rules.specs.StateTables.{numbers, goal_list, fact_list}
use Rattle.rules.specs.Laws.Row.{rows_snoc}
use Rattle.cells.specs.declared.Span.{Span}
use Rattle.kernel.specs.RuleRows.{rows_split}
use Rattle.state.specs.Filled.{filled_part}
use Rattle.state.specs.Numbered.{length_numbers}

-- the cells of a span, as `&lists[from..end]` lends them
abbrev pub part : List ℕ → Span → List ℕ
part lists s = take (s.end - s.from) (drop s.from lists)

-- one cell after the other
pub part_more : (l : List ℕ) (at end : ℕ) → at < end → end ≤ length l →
    take (end - at) (drop at l) ≡ get_or l at 0 ∷ take (end - (at + 1)) (drop (at + 1) l)
part_more l at end h k =
    let e : end - at ≡ suc (end - (at + 1)) = omega arith in
    let m : at < length l = omega arith in
    rw (e, drop-cons l at 0 m, add-one at)

pub part_none : (l : List ℕ) (at end : ℕ) → end ≤ at → take (end - at) (drop at l) ≡ []
part_none l at end h = let e : end - at ≡ 0 = omega arith in rw e

-- cell k of a span whose cells are known, and how many these are
pub part_at : (l : List ℕ) (s : Span) (xs : List ℕ) (k : ℕ) → part l s ≡ xs → k < length xs → get_or l (s.from + k) 0 ≡ get_or xs k 0
part_at l s xs k e h =
    let m : k < s.end - s.from = omega (arith, ap length e, length-take (s.end - s.from) (drop s.from l)) in
    sym (get_or-take (s.end - s.from) (drop s.from l) k 0 m ∙ get_or-drop s.from l k 0) ∙ ap (λ l. get_or l k 0) e

pub part_long : (l : List ℕ) (s : Span) (xs : List ℕ) → part l s ≡ xs → s.end ≤ length l → length xs ≡ s.end - s.from
part_long l s xs e h = omega (arith, ap length e, length-take (s.end - s.from) (drop s.from l), length-drop s.from l)

-- Parts of a table ---------------------------------------------------------------------------------------------------------------

module _ (N : ℕ) (xs front cells rest : List ℕ) (h : length xs ≤ N) (e : xs ≡ front ++ (cells ++ rest)) where
  pub span_in : length front + length cells ≤ length xs
  span_in = omega (arith, ap length e, length-append front (cells ++ rest), length-append cells rest)

  pub span_is : (from end : ℕ) → from ≡ length front → end ≡ from + length cells → take (end - from) (drop from (filled N xs)) ≡ cells
  span_is from end f g =
      let l : end - from ≡ length cells = omega arith in
      filled_part N xs h from (end - from) (omega (arith, span_in)) ∙ ap (λ l. take (end - from) (drop from l)) e
      ∙ ap (take (end - from)) (drop_at front (cells ++ rest) from (sym f)) ∙ take_at cells rest (end - from) (sym l)

-- Goals and facts ------------------------------------------------------------------------------------------------------------------

unfoldable pub goal_part : Made → Goal → List ℕ
goal_part M g = numbers M g.hyps

unfoldable pub fact_part : Made → Fact → List ℕ
fact_part M f = f.hyps ++ numbers M f.premises ++ f.general

pub goal_parts : (M : Made) (gs : List Goal) → goal_list M gs ≡ rows (goal_part M) gs
unfolding goal_list goal_part rows
goal_parts M [] = refl
goal_parts M (g ∷ gs) = ap (λ l. numbers M g.hyps ++ l) (goal_parts M gs)

pub fact_parts : (M : Made) (fs : List Fact) → fact_list M fs ≡ rows (fact_part M) fs
unfolding fact_list fact_part rows
fact_parts M [] = refl
fact_parts M (f ∷ fs) = ap (λ l. (f.hyps ++ numbers M f.premises ++ f.general) ++ l) (fact_parts M fs)

pub length_goal_list : (M : Made) (gs : List Goal) → length (goal_list M gs) ≡ goal_entries gs
unfolding goal_list goal_entries
length_goal_list M [] = refl
length_goal_list M (g ∷ gs) = omega (arith, length-append (numbers M g.hyps) (goal_list M gs), length_numbers M g.hyps, length_goal_list M gs)

pub length_fact_part : (M : Made) (f : Fact) → length (fact_part M f) ≡ fact_entries f
unfolding fact_part fact_entries
length_fact_part M f =
    let ps = numbers M f.premises in
    omega (arith, length-append (f.hyps ++ ps) f.general, length-append f.hyps ps, length_numbers M f.premises)

pub length_fact_list : (M : Made) (fs : List Fact) → length (fact_list M fs) ≡ all_entries fs
unfolding fact_list all_entries fact_part
length_fact_list M [] = refl
length_fact_list M (f ∷ fs) = omega (arith, length-append (fact_part M f) (fact_list M fs), length_fact_part M f, length_fact_list M fs)

pub goal_list_snoc : (M : Made) (gs : List Goal) (g : Goal) → goal_list M (gs ++ (g ∷ [])) ≡ goal_list M gs ++ numbers M g.hyps
unfolding goal_part
goal_list_snoc M gs g = goal_parts M (gs ++ (g ∷ [])) ∙ rows_snoc (goal_part M) gs g ∙ ap (λ l. l ++ numbers M g.hyps) (sym (goal_parts M gs))

pub fact_list_snoc : (M : Made) (fs : List Fact) (f : Fact) → fact_list M (fs ++ (f ∷ [])) ≡ fact_list M fs ++ fact_part M f
fact_list_snoc M fs f = fact_parts M (fs ++ (f ∷ [])) ∙ rows_snoc (fact_part M) fs f ∙ ap (λ l. l ++ fact_part M f) (sym (fact_parts M fs))

-- goal k's entries among those of the goals
pub goal_list_split : (M : Made) (gs : List Goal) (k : ℕ) (d : Goal) → k < length gs →
    goal_list M gs ≡ goal_list M (take k gs) ++ (numbers M (get_or gs k d).hyps ++ goal_list M (drop (suc k) gs))
unfolding goal_part
goal_list_split M gs k d l =
    goal_parts M gs ∙ rows_split (goal_part M) gs k d l
    ∙ (λ i. sym (goal_parts M (take k gs)) i ++ (numbers M (get_or gs k d).hyps ++ sym (goal_parts M (drop (suc k) gs)) i))

-- fact i's entries among those of the facts
pub fact_list_split : (M : Made) (fs : List Fact) (i : ℕ) (d : Fact) → i < length fs →
    fact_list M fs ≡ fact_list M (take i fs) ++ (fact_part M (get_or fs i d) ++ fact_list M (drop (suc i) fs))
fact_list_split M fs i d l =
    fact_parts M fs ∙ rows_split (fact_part M) fs i d l
    ∙ (λ j. sym (fact_parts M (take i fs)) j ++ (fact_part M (get_or fs i d) ++ sym (fact_parts M (drop (suc i) fs)) j))

-- Stores ---------------------------------------------------------------------------------------------------------------------------

-- stores behind a place, then one before them
pub set_before : (l vs : List ℕ) (i j x : ℕ) → i < j → set (sets l j vs) i x ≡ sets (set l i x) j vs
set_before l [] i j x h = refl
set_before l (v ∷ vs) i j x h =
    set_before (set l j v) vs i (suc j) x (omega arith) ∙ ap (λ l. sets l (suc j) vs) (set_comm l j i v x (λ e. omega arith))

-- the first of a run of stores last
pub sets_first : (l vs : List ℕ) (i j x : ℕ) → j ≡ i + 1 → sets (sets l j vs) i (x ∷ []) ≡ sets l i (x ∷ vs)
sets_first l vs i j x e = set_before l vs i j x (omega arith) ∙ ap (λ k. sets (set l i x) k vs) (e ∙ add-one i)

-- stores behind stores
pub sets_append : (l xs ys : List ℕ) (i j : ℕ) → j ≡ i + length xs → sets (sets l i xs) j ys ≡ sets l i (xs ++ ys)
sets_append l [] ys i j e = ap (λ k. sets l k ys) (let z : j ≡ i = omega arith in z)
sets_append l (x ∷ xs) ys i j e = sets_append (set l i x) xs ys (suc i) j (omega arith)
