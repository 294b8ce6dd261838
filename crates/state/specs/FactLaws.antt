-- Laws of the tables of facts, as they are read: what the cells, the entries and the footing of a fact say. Assumes nothing.
use Rattle.std.specs.Prelude.{◌≡◌, refl, ℕ, suc, ◌+◌, ◌-◌, ◌*◌, ◌^◌, ◌<◌, ◌≤◌, ◌&&◌, get_or, take, drop, replicate, Some as some}
use Rattle.std.proofs.Math.Path.{sym, ap}
use Rattle.std.proofs.Common.{◌∙◌, subst, length-take-le}
use Rattle.std.proofs.Math.Bool.{not}
use mathlib.Core.List.{List, [], ◌∷◌, ◌++◌, append_assoc}
use native.Mathlib.Omega.{arith}
use Rattle.std.proofs.Math.Dec.{eqb, eqb-suc-zero}
use Rattle.std.proofs.Math.ListN.{length, length-append}
use Rattle.rules.specs.Limits.{RULES, FACTS, ENTRIES}
use Rattle.rules.specs.Find.{entry, has}
use Rattle.rules.specs.Tree.{Trees, none, more, count_trees}
use Rattle.rules.specs.Store.{Made}
use Rattle.rules.specs.State.{State, Fact, is_none, is_empty, is_plain, goal_entries, fact_entries, all_entries, entries}
use Rattle.rules.specs.TheoryTables.{filled, rows}
use Rattle.rules.specs.StateTables.{fact_cells, footing_cells, goal_list, fact_list, numbers}
use Rattle.rules.specs.Laws.Theory.{All, all_at, all_map}
use Rattle.rules.specs.Laws.Entry.{entry_below}
use Rattle.rules.specs.Laws.Row.{length_filled, filled_fits, length_rows, rows_snoc}
use Rattle.rules.specs.Laws.Shape.{Shaped}
use Rattle.terms.specs.Sets.{holds}
use Rattle.state.specs.declared.sizes.Sizes.{Sizes}
use Rattle.state.specs.Held.{Records, listed, GoalsHeld, Recorded}
use Rattle.state.specs.Rows.{cell, hyps_span, premises_span, general_span, plain_row, Putting}
use Rattle.state.specs.Filled.{filled_front}
use Rattle.state.specs.Numbered.{Numbered, AllNumbered, numbered_at, each_numbered, sound_in, length_numbers}
use Rattle.state.specs.RowCells.{fact_row, fact_rows_lem, fact_width, fact_places, footing_row, footing_rows, footing_width, running_snoc, running_cell, length_running, no_goal, no_fact}
use Rattle.state.specs.RowTables.{Tabled, tabled_fits, tabled_long, tabled_at, entry_at}
use Rattle.kernel.specs.RuleRows.{rows_split}
use Rattle.state.specs.Entries.{part, span_is, fact_part, fact_list_split, length_goal_list, length_fact_list}
use Rattle.state.specs.GoalLaws.{GoalRow, goal_row_lem, bit_flag}
use Rattle.state.specs.Footings.{footing_below, footing_holds}

-- Cells ----------------------------------------------------------------------------------------------------------------------------

pub length_fact_cells : (M : Made) (at : ℕ) (fs : List Fact) → length (fact_cells M at fs) ≡ 6 * length fs
length_fact_cells M at fs = ap length (fact_rows_lem M at fs) ∙ length_running (fact_row M) fact_entries 6 (fact_width M) at fs

pub fact_cells_snoc : (M : Made) (at : ℕ) (fs : List Fact) (f : Fact) → fact_cells M at (fs ++ (f ∷ [])) ≡ fact_cells M at fs ++ fact_row M (at + all_entries fs) f
fact_cells_snoc M at fs f =
    fact_rows_lem M at (fs ++ (f ∷ [])) ∙ running_snoc (fact_row M) fact_entries at fs f
    ∙ (λ i. sym (fact_rows_lem M at fs) i ++ fact_row M (at + fact_places fs i) f)

pub length_footing_cells : (fs : List Fact) → length (footing_cells fs) ≡ 4 * length fs
length_footing_cells fs = ap length (footing_rows fs) ∙ length_rows footing_row 4 footing_width fs

pub footing_cells_snoc : (fs : List Fact) (f : Fact) → footing_cells (fs ++ (f ∷ [])) ≡ footing_cells fs ++ footing_row f
footing_cells_snoc fs f = footing_rows (fs ++ (f ∷ [])) ∙ rows_snoc footing_row fs f ∙ ap (λ l. l ++ footing_row f) (sym (footing_rows fs))

none_flag : (ts : Trees) → eqb (count_trees ts) 0 ≡ is_none ts
unfolding count_trees is_none
none_flag none = refl
none_flag (more t ts) = eqb-suc-zero (count_trees ts)

empty_flag : (xs : List ℕ) → eqb (length xs) 0 ≡ is_empty xs
unfolding is_empty
empty_flag [] = refl
empty_flag (x ∷ xs) = eqb-suc-zero (length xs)

-- A fact -----------------------------------------------------------------------------------------------------------------------------

-- everything that a reader of fact i needs: the readers of `facts` give these cells and spans
pub record FactRow (R : Records) (n : Sizes) (M : Made) (S : State) (i : ℕ) (f : Fact) : Type 0 where
  pub is : entry S.facts i ≡ some f
  pub judgment : Numbered M f.judgment (cell 6 R.facts i 0)
  pub assumed : not (eqb (cell 6 R.facts i 1) 0) ≡ f.assumed
  pub plain : plain_row R.facts i ≡ is_plain f
  -- the spans follow each other, so this bounds all three
  pub inside : (general_span R.facts i).end ≤ ENTRIES
  pub hyps : part R.lists (hyps_span R.facts i) ≡ f.hyps
  pub premises : part R.lists (premises_span R.facts i) ≡ numbers M f.premises
  pub general : part R.lists (general_span R.facts i) ≡ f.general
  pub hyps_below : All (λ h. h < n.facts) f.hyps
  pub numbered : AllNumbered M f.premises (numbers M f.premises)
  pub general_below : All (λ v. v < length S.vars) f.general
  pub footing : holds (take 4 (drop (4 * i) R.footings)) ≡ has f.footing
  pub footing_below : All (λ r. r < RULES) f.footing
  pub shaped : Shaped (length S.theory.rules) S.facts i f

module _ {R : Records} {n : Sizes} {M : Made} {S : State} (h : Recorded R n M S) where
  pub facts_tabled : Tabled 6 FACTS R.facts n.facts (fact_cells M (goal_entries S.goals) S.facts)
  facts_tabled =
      record {
        is = h.facts;
        many = length_fact_cells M (goal_entries S.goals) S.facts ∙ ap (λ k. 6 * k) (sym h.many);
        few = omega (arith, h.many, h.rows.row12);
      }

  pub footings_tabled : Tabled 4 FACTS R.footings n.facts (footing_cells S.facts)
  footings_tabled =
      record { is = h.footings; many = length_footing_cells S.facts ∙ ap (λ k. 4 * k) (sym h.many); few = omega (arith, h.many, h.rows.row12) }

  pub length_listed : length (listed M S) ≡ n.entries
  unfolding entries
  length_listed =
      omega (arith, length-append (goal_list M S.goals) (fact_list M S.facts), length_goal_list M S.goals, length_fact_list M S.facts, h.used)

  pub entries_fit : n.entries ≤ ENTRIES
  entries_fit = omega (arith, h.used, h.rows.row13)

  pub lists_long : length R.lists ≡ ENTRIES
  lists_long = ap length h.lists ∙ length_filled ENTRIES (listed M S)

  -- entries that were written behind, set to zero again: the table that there was
  pub lists_again : (now : List ℕ) → take n.entries now ≡ take n.entries R.lists →
      take n.entries now ++ replicate (ENTRIES - n.entries) 0 ≡ R.lists
  lists_again now e =
      let k = length_listed in
      ap (λ l. l ++ replicate (ENTRIES - n.entries) 0) (e ∙ ap (take n.entries) h.lists ∙ ap (λ j. take j (filled ENTRIES (listed M S))) (sym k)
      ∙ filled_front ENTRIES (listed M S) (omega (arith, entries_fit)))
      ∙ ap (λ j. listed M S ++ replicate (ENTRIES - j) 0) (sym k) ∙ sym (filled_fits ENTRIES (listed M S) (omega (arith, entries_fit))) ∙ sym h.lists

  -- there may be one fact more: what `put_derived` and `put_hypothesis` ask
  pub recorded_putting : (judgment : ℕ) → judgment < 2 ^ 32 → Putting R n judgment
  recorded_putting judgment l =
      record { facts = tabled_long facts_tabled; footings = tabled_long footings_tabled; lists = lists_long; entries = entries_fit; fits = l }

  -- cell j of fact i
  pub fact_at_lem : (i j : ℕ) → i < n.facts → j < 6 →
      cell 6 R.facts i j ≡ get_or (fact_row M (goal_entries S.goals + all_entries (take i S.facts)) (get_or S.facts i no_fact)) j 0
  fact_at_lem i j l m =
      tabled_at facts_tabled (6 * i + j) ∙ ap (λ l. get_or l (6 * i + j) 0) (fact_rows_lem M (goal_entries S.goals) S.facts)
      ∙ running_cell (fact_row M) fact_entries 6 (fact_width M) (goal_entries S.goals) S.facts i j no_fact (omega (arith, h.many)) m
      ∙ ap (λ k. get_or (fact_row M (goal_entries S.goals + k) (get_or S.facts i no_fact)) j 0) (fact_places (take i S.facts))

  module _ (i : ℕ) (l : i < n.facts) where
    abbrev this : Fact
    this = get_or S.facts i no_fact

    there : i < length S.facts
    there = omega (arith, h.many)

    -- the entries before it, and behind it
    abbrev before : List ℕ
    before = goal_list M S.goals ++ fact_list M (take i S.facts)

    abbrev behind : List ℕ
    behind = fact_list M (drop (suc i) S.facts)

    before_long : length before ≡ cell 6 R.facts i 2
    unfolding fact_row
    before_long =
        let a = length-append (goal_list M S.goals) (fact_list M (take i S.facts)) in
        omega (arith, length_goal_list M S.goals, length_fact_list M (take i S.facts), fact_at_lem i 2 l (omega arith))

    split : listed M S ≡ before ++ (this.hyps ++ (numbers M this.premises ++ (this.general ++ behind)))
    unfolding fact_part
    split = ap (λ l. goal_list M S.goals ++ l) (fact_list_split M S.facts i no_fact there)
        ∙ regroup (goal_list M S.goals) (fact_list M (take i S.facts)) this.hyps (numbers M this.premises) this.general behind
      where
        regroup : (a b h p g r : List ℕ) → a ++ (b ++ (((h ++ p) ++ g) ++ r)) ≡ (a ++ b) ++ (h ++ (p ++ (g ++ r)))
        regroup a b h p g r = simp append_assoc

    fits : length (listed M S) ≤ ENTRIES
    fits = omega (arith, length_listed, entries_fit)

    hyps_here : part R.lists (hyps_span R.facts i) ≡ this.hyps
    unfolding fact_row
    hyps_here =
        ap (λ l. part l (hyps_span R.facts i)) h.lists
        ∙ span_is ENTRIES (listed M S) before this.hyps (numbers M this.premises ++ (this.general ++ behind)) fits split
        (cell 6 R.facts i 2) (cell 6 R.facts i 2 + cell 6 R.facts i 3) (sym before_long)
        (ap (λ k. cell 6 R.facts i 2 + k) (fact_at_lem i 3 l (omega arith)))

    premises_here : part R.lists (premises_span R.facts i) ≡ numbers M this.premises
    unfolding fact_row
    premises_here =
        let p = fact_at_lem i 3 l (omega arith) in
        let q = fact_at_lem i 4 l (omega arith) in
        let r = length_numbers M this.premises in
        ap (λ l. part l (premises_span R.facts i)) h.lists
        ∙ span_is ENTRIES (listed M S) (before ++ this.hyps) (numbers M this.premises) (this.general ++ behind) fits
        (split ∙ sym (append_assoc before this.hyps (numbers M this.premises ++ (this.general ++ behind))))
        (premises_span R.facts i).from (premises_span R.facts i).end (omega (arith, before_long, length-append before this.hyps)) (omega arith)

    general_here : part R.lists (general_span R.facts i) ≡ this.general
    unfolding fact_row
    general_here =
        let p = fact_at_lem i 3 l (omega arith) in
        let q = fact_at_lem i 4 l (omega arith) in
        let s = fact_at_lem i 5 l (omega arith) in
        let r = length_numbers M this.premises in
        let ps = numbers M this.premises in
        ap (λ l. part l (general_span R.facts i)) h.lists
        ∙ span_is ENTRIES (listed M S) ((before ++ this.hyps) ++ ps) this.general behind fits
        (split ∙ sym (append_assoc before this.hyps (ps ++ (this.general ++ behind)))
        ∙ sym (append_assoc (before ++ this.hyps) ps (this.general ++ behind)))
        (general_span R.facts i).from (general_span R.facts i).end
        (omega (arith, before_long, length-append before this.hyps, length-append (before ++ this.hyps) ps)) (omega arith)

    all_inside : (general_span R.facts i).end ≤ ENTRIES
    unfolding fact_row
    all_inside =
        let ps = numbers M this.premises in
        omega (
          arith,
          fits,
          ap length split,
          before_long,
          length-append before (this.hyps ++ (ps ++ (this.general ++ behind))),
          length-append this.hyps (ps ++ (this.general ++ behind)),
          length-append ps (this.general ++ behind),
          length-append this.general behind,
          length_numbers M this.premises,
          fact_at_lem i 3 l (omega arith),
          fact_at_lem i 4 l (omega arith),
          fact_at_lem i 5 l (omega arith),
        )

    shaped_here : Shaped (length S.theory.rules) S.facts i this
    shaped_here = h.shaped i this (entry_at S.facts i no_fact there)

    footing_here : take 4 (drop (4 * i) R.footings) ≡ footing_row this
    footing_here =
        let w = footing_width this in
        let m = length_rows footing_row 4 footing_width (take i S.facts) in
        let k = length-take-le i S.facts (omega (arith, there)) in
        ap (λ l. take 4 (drop (4 * i) l)) footings_tabled.is
        ∙ ap (λ k. take k (drop (4 * i) (filled (4 * FACTS) (footing_cells S.facts)))) (let z : 4 ≡ 4 * i + 4 - 4 * i = omega arith in z)
        ∙ span_is (4 * FACTS) (footing_cells S.facts) (rows footing_row (take i S.facts)) (footing_row this) (rows footing_row (drop (suc i) S.facts))
        (tabled_fits footings_tabled) (footing_rows S.facts ∙ rows_split footing_row S.facts i no_fact there)
        (4 * i) (4 * i + 4) (omega arith) (omega arith)

    pub fact_row_lem : FactRow R n M S i (get_or S.facts i no_fact)
    unfolding fact_row is_plain
    fact_row_lem =
        let t = all_at S.facts i no_fact h.trees.facts there in
        record {
          is = entry_at S.facts i no_fact there;
          judgment = numbered_at (cell 6 R.facts i 0) (sound_in M this.judgment t.judgment) (fact_at_lem i 0 l (omega arith));
          assumed = ap (λ k. not (eqb k 0)) (fact_at_lem i 1 l (omega arith)) ∙ bit_flag this.assumed;
          plain = λ j. (ap (λ k. not (eqb k 0)) (fact_at_lem i 1 l (omega arith)) ∙ bit_flag this.assumed) j
              && ((ap (λ k. eqb k 0) (fact_at_lem i 4 l (omega arith)) ∙ none_flag this.premises) j
              && (ap (λ k. eqb k 0) (fact_at_lem i 5 l (omega arith)) ∙ empty_flag this.general) j);
          inside = all_inside;
          hyps = hyps_here;
          premises = premises_here;
          general = general_here;
          hyps_below = all_map (λ v a. let b = entry_below S.facts v a.fact a.is in omega (arith, h.many)) shaped_here.rests;
          numbered = each_numbered this.premises t.premises;
          general_below = all_at S.facts i no_fact h.general there;
          footing = ap holds footing_here ∙ footing_holds this h.rules shaped_here.footing;
          footing_below = footing_below this h.rules shaped_here.footing;
          shaped = shaped_here;
        }

-- the fact that the definition finds
pub fact_row_of : {R : Records} {n : Sizes} {M : Made} {S : State} (i : ℕ) {f : Fact} → Recorded R n M S → entry S.facts i ≡ some f →
    FactRow R n M S i f
fact_row_of {R} {n} {M} {S} i {f} h e =
    let l = entry_below S.facts i f e in
    let k : i < n.facts = omega (arith, h.many) in
    let q : get_or S.facts i no_fact ≡ f = same (sym (entry_at S.facts i no_fact l) ∙ e) in
    subst (FactRow R n M S i) q (fact_row_lem h i k)
  where
    same : {a b : Fact} → some a ≡ some b → a ≡ b
    same p = cc

-- a goal, where the facts' tables stand beside
pub goal_row_of : {R : Records} {n : Sizes} {M : Made} {S : State} {text rows : List ℕ} (k : ℕ) → Recorded R n M S →
    GoalsHeld text rows n.goals M S.goals → k < n.goals → GoalRow rows R.lists M S.goals k (get_or S.goals k no_goal)
goal_row_of {R} {n} {M} {S} k h g l =
    goal_row_lem g R.lists (fact_list M S.facts) k h.trees.goals h.lists (omega (arith, length_listed h, entries_fit h)) l
