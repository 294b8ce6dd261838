-- The rows of facts before and behind a form: those that there were stay, and at most one has come. Assumes nothing.
use mathlib.Core.Path.{◌≡◌, refl, sym, ap, ◌∙◌, subst}
use Prim.Native.Nat.{ℕ, ◌+◌, ◌*◌, ◌≤◌}
use mathlib.Core.List.{List, [], ◌∷◌, ◌++◌, append-nil}
use native.Mathlib.Omega.{arith}
use lib.ListN.{length, take, length-append}
use Rattle.rules.specs.Limits.{FACTS}
use Rattle.rules.specs.Out.{ok}
use Rattle.rules.specs.Tree.{count_trees}
use Rattle.rules.specs.Sexp.{Sexp}
use Rattle.rules.specs.Store.{Made}
use Rattle.rules.specs.State.{State, Goal, Fact, Counts, goal_entries, all_entries}
use Rattle.rules.specs.Forms.{take_form, taken_goal}
use Rattle.rules.specs.TheoryTables.{filled}
use Rattle.rules.specs.StateTables.{fact_cells, footing_cells}
use Rattle.rules.specs.Laws.Out.{of_ok}
use Rattle.rules.specs.Laws.Keeping.{Grows, stays}
use Rattle.rules.specs.Laws.Sound.{sound}
use Rattle.rules.proofs.Laws.Form.{Taken, new_var, new_def, new_fact, got_result, take_form_takes}
use Rattle.rules.proofs.Laws.Appends.{AtMostOne, no_more, one_more, Marks, unmarked, marks, take_form_appends}
use Rattle.kernel.specs.Parsed.{TheoryLists}
use Rattle.terms.specs.declared.store.Mark.{Mark}
use Rattle.advancing.specs.Stepped.{OneMore, came, same}
use Rattle.state.specs.declared.sizes.Sizes.{Sizes}
use Rattle.state.specs.RowCells.{fact_row, footing_row}
use Rattle.state.specs.Filled.{filled_front, filled_take}
use Rattle.state.specs.RowTables.{tabled_fits, length_one_more}
use Rattle.state.specs.Growth.{recorded_on}
use Rattle.state.specs.FactLaws.{fact_cells_snoc, footing_cells_snoc, facts_tabled, footings_tabled}
use Rattle.state.specs.Stands.{Texts, Board, trees_of, Stands, stands_ready}

-- Lists --------------------------------------------------------------------------------------------------------------------------------

-- the cells ys are the cells xs and further ones
record Further (xs ys : List ℕ) : Type 0 where
  pub rest : List ℕ
  pub is : ys ≡ xs ++ rest

facts_further : (M : Made) (at : ℕ) {xs ys : List Fact} → AtMostOne xs ys → Further (fact_cells M at xs) (fact_cells M at ys)
facts_further M at {xs} no_more = record { rest = []; is = sym (append-nil (fact_cells M at xs)) }
facts_further M at {xs} (one_more f) = record { rest = fact_row M (at + all_entries xs) f; is = fact_cells_snoc M at xs f }

feet_further : {xs ys : List Fact} → AtMostOne xs ys → Further (footing_cells xs) (footing_cells ys)
feet_further {xs} no_more = record { rest = []; is = sym (append-nil (footing_cells xs)) }
feet_further {xs} (one_more f) = record { rest = footing_row f; is = footing_cells_snoc xs f }

-- k is n, or one more
how_many : {A : Type 0} {xs ys : List A} {n k : ℕ} → AtMostOne xs ys → n ≡ length xs → k ≡ length ys → OneMore n k
how_many no_more e f = same (f ∙ sym e)
how_many {xs = xs} (one_more x) e f = came (f ∙ length_one_more xs x ∙ ap (λ n. n + 1) (sym e))

marked_entries : {gs hs : List Goal} → Marks gs hs → goal_entries hs ≡ goal_entries gs
unfolding goal_entries
marked_entries unmarked = refl
marked_entries (marks gs g hs t) = behind gs
  where
    behind : (gs : List Goal) → goal_entries (gs ++ (taken_goal g ∷ hs)) ≡ goal_entries (gs ++ (g ∷ hs))
    behind [] = refl
    behind (f ∷ fs) = ap (λ n. count_trees f.hyps + n) (behind fs)

-- the rows in front, in a table of N cells
front_stays : (N : ℕ) {before after xs ys : List ℕ} (n : ℕ) → before ≡ filled N xs → after ≡ filled N ys → Further xs ys → length xs ≡ n → length ys ≤ N →
    take n after ≡ take n before
front_stays N {before} {after} {xs} {ys} n b a f e l =
    let k : length xs + length f.rest ≤ N = omega (arith, l, ap length f.is, length-append xs f.rest) in
    ap (λ j. take j after) (sym e) ∙ ap (take (length xs)) (a ∙ ap (filled N) f.is) ∙ filled_take N xs f.rest k
    ∙ sym (filled_front N xs (omega (arith, k))) ∙ ap (take (length xs)) (sym b) ∙ ap (λ j. take j before) e

-- A form -------------------------------------------------------------------------------------------------------------------------------

grows_sound : {S : State} {c : Counts} {U : State} → sound.Good S.made → Taken sound S c U → Grows sound S.made U.made
grows_sound h (new_var v l) = stays h
grows_sound h (new_def m d g k l) = g
grows_sound h (new_fact vs m f c l g k n p r) = g
grows_sound h (got_result m k d g e t) = g

-- the rows that there were stay; n, k: how many there were and are
pub record RowsStay (rows feet rows' feet' : List ℕ) (n k : ℕ) : Type 0 where
  pub same_rows : take (6 * n) rows' ≡ take (6 * n) rows
  pub same_feet : take (4 * n) feet' ≡ take (4 * n) feet
  pub many : OneMore n k

module _ {X : Texts} {T : TheoryLists} {B D : Board} {n k : Sizes} {m new : Mark} {S U : State} (h : Stands X T B n m S) (j : Stands X T D k new U) where
  pub taken_rows : (x : Sexp) → take_form x S ≡ ok tt U → RowsStay B.facts B.footings D.facts D.footings n.facts k.facts
  taken_rows x e =
      let t = of_ok (take_form_takes x S (stands_ready h)) e in
      let a = take_form_appends x S U e in
      let g = grows_sound (stands_ready h).good t in
      let w : Grows sound (trees_of B m) (trees_of D new) =
      subst (λ M. Grows sound M (trees_of D new)) (sym h.store) (subst (Grows sound S.made) (sym j.store) g) in
      let r = recorded_on w h.recorded in
      let c = ap (λ i. filled (6 * FACTS) (fact_cells (trees_of D new) i U.facts)) (marked_entries a.goals) in
      let l = tabled_fits (facts_tabled j.recorded) in
      let i = ap (λ i. length (fact_cells (trees_of D new) i U.facts)) (marked_entries a.goals) in
      record {
        same_rows = front_stays (6 * FACTS) (6 * n.facts) r.facts (j.recorded.facts ∙ c)
            (facts_further (trees_of D new) (goal_entries S.goals) a.facts) (facts_tabled r).many (omega (arith, l, i));
        same_feet = front_stays (4 * FACTS) (4 * n.facts) h.recorded.footings j.recorded.footings (feet_further a.facts)
            (footings_tabled h.recorded).many (tabled_fits (footings_tabled j.recorded));
        many = how_many a.facts h.recorded.many j.recorded.many;
      }

-- tables that stand for the same state
pub unmoved_rows : {X : Texts} {T : TheoryLists} {B D : Board} {n : Sizes} {m : Mark} {S : State} → Stands X T B n m S → Stands X T D n m S →
    RowsStay B.facts B.footings D.facts D.footings n.facts n.facts
unmoved_rows {B = B} {D} {n} {m} {S} h j =
    let e = j.recorded.facts ∙ ap (λ M. filled (6 * FACTS) (fact_cells M (goal_entries S.goals) S.facts)) (j.store ∙ sym h.store) ∙ sym h.recorded.facts in
    let f = j.recorded.footings ∙ sym h.recorded.footings in
    record { same_rows = ap (take (6 * n.facts)) e; same_feet = ap (take (4 * n.facts)) f; many = same refl }
