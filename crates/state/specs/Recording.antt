-- One fact more in the tables of facts: from what `put_derived` and `put_hypothesis` leave to the state with that fact. Assumes nothing.
use Rattle.std.specs.Prelude.{◌≡◌, ℕ, ◌+◌, ◌*◌, ◌^◌, ◌<◌, ◌≤◌, true, false, get_or, Some as some, Result, Ok}
use Rattle.std.proofs.Math.Path.{refl, sym, ap, subst}
use Rattle.std.proofs.Common.{◌∙◌, arith}
use mathlib.Core.List.{List, [], ◌∷◌, ◌++◌, append_assoc, append-nil}
use Rattle.std.proofs.Math.ListN.{length, length-append}
use Rattle.std.proofs.Math.Seq.{sets}
use Rattle.rules.specs.Limits.{FACTS, ENTRIES}
use Rattle.rules.specs.Find.{entry, has, rising}
use Rattle.rules.specs.Tree.{count_trees}
use Rattle.rules.specs.Store.{Made, number}
use Rattle.rules.specs.State.{State, Fact, Counts, goal_entries, fact_entries, all_entries, entries}
use Rattle.rules.specs.Forms.{with_facts}
use Rattle.rules.specs.TheoryTables.{filled}
use Rattle.rules.specs.StateTables.{fact_cells, footing_cells, goal_list, fact_list, numbers, bit, bit_word}
use Rattle.rules.specs.Laws.Theory.{All, empty, all_snoc}
use Rattle.rules.specs.Laws.Entry.{entry_last}
use Rattle.rules.specs.Laws.Sound.{sound}
use Rattle.rules.specs.Laws.Ready.{Ready, FactIn}
use Rattle.rules.specs.Laws.Shape.{Shape, Shaped, ShapedIn, all_shaped_snoc}
use Rattle.rules.proofs.Laws.StateRows.{Rows}
use Rattle.terms.specs.Sets.{holds}
use Rattle.state.specs.declared.sizes.Sizes.{Sizes}
use Rattle.state.specs.Held.{Records, records, listed, Recorded}
use Rattle.questions.specs.declared.Row.{Row}
use Rattle.state.specs.Rows.{PutAs}
use Rattle.state.specs.Used.{facts_now}
use Rattle.state.specs.Filled.{filled_more, filled_zeros}
use Rattle.state.specs.Members.{Under, rising_under, has_rising}
use Rattle.state.specs.Numbered.{length_numbers}
use Rattle.state.specs.RowCells.{fact_row, fact_width, footing_row, footing_width}
use Rattle.state.specs.RowTables.{tabled_more, length_one_more}
use Rattle.state.specs.Entries.{fact_part, fact_list_snoc, sets_first}
use Rattle.state.specs.Footings.{footing_row_lem}
use Rattle.state.specs.FactLaws.{fact_cells_snoc, footing_cells_snoc, facts_tabled, footings_tabled, length_listed, entries_fit}

-- The state -----------------------------------------------------------------------------------------------------------------------

abbrev pub with_fact : State → Fact → Counts → State
with_fact S f c = with_facts S (S.facts ++ (f ∷ [])) c

-- what `put_derived` ensures, and what `put_hypothesis` does
abbrev pub DerivedPut : Records → Records → Sizes → ℕ → List ℕ → List ℕ → Result ℕ Row → Type 0
DerivedPut R Q n judgment hyps footing r =
    PutAs R Q n (judgment ∷ 0 ∷ n.entries ∷ length (rising FACTS (holds hyps)) ∷ 0 ∷ 0 ∷ []) (rising FACTS (holds hyps)) footing
    (length (rising FACTS (holds hyps))) r

abbrev pub HypothesisPut : Records → Records → Sizes → ℕ → ℕ → ℕ → Result ℕ Row → Type 0
HypothesisPut R Q n judgment premises general r =
    PutAs R Q n (judgment ∷ 1 ∷ n.entries ∷ 1 ∷ premises ∷ general ∷ []) (n.facts ∷ []) [] (1 + premises + general) r

-- what the laws of the definition say of every state that is reached
pub record Valid (M : Made) (S : State) : Type 0 where
  pub rows : Rows S
  pub trees : Ready sound S M
  pub shaped : ShapedIn S

pub valid_of : {R : Records} {n : Sizes} {M : Made} {S : State} → Recorded R n M S → Valid M S
valid_of h = record { rows = h.rows; trees = h.trees; shaped = h.shaped }

-- a private law of `rules` too, which stays as it is
pub entries_snoc : (fs : List Fact) (f : Fact) → all_entries (fs ++ (f ∷ [])) ≡ all_entries fs + fact_entries f
unfolding all_entries
entries_snoc [] f = omega arith
entries_snoc (g ∷ fs) f = omega (arith, entries_snoc fs f)

-- the same of a state with one fact more, from what a form says of that fact
pub valid_more : {M : Made} {S : State} {f : Fact} (c : Counts) → Valid M S → length S.facts < FACTS → entries S + fact_entries f ≤ ENTRIES →
    FactIn sound M f → Shape (length S.theory.rules) S.facts f → Valid M (with_fact S f c)
unfolding entries
valid_more {M} {S} {f} c h l e i s =
    record {
      rows = record {
        row7 = h.rows.row7;
        row10 = h.rows.row10;
        row11 = h.rows.row11;
        row12 = omega (arith, length-append S.facts (f ∷ []));
        row13 = omega (arith, entries_snoc S.facts f, e);
      };
      trees = record { good = h.trees.good; defs = h.trees.defs; goals = h.trees.goals; facts = all_snoc h.trees.facts i };
      shaped = all_shaped_snoc (length S.theory.rules) S.facts f h.shaped s;
    }

-- Any fact -----------------------------------------------------------------------------------------------------------------------

-- the tables with a row, entries and a footing more, which are those of the fact
module _ {R : Records} {n : Sizes} {M : Made} {S : State} (f : Fact) (c : Counts) (e : ℕ) (h : Recorded R n M S) (v : Valid M (with_fact S f c)) where
  recorded_row : (row : List ℕ) → n.facts < FACTS → row ≡ fact_row M n.entries f →
      sets R.facts (6 * n.facts) row ≡ filled (6 * FACTS) (fact_cells M (goal_entries S.goals) (S.facts ++ (f ∷ [])))
  unfolding entries
  recorded_row row l q =
      ap (λ l. sets R.facts (6 * n.facts) l) q ∙ (tabled_more (facts_tabled h) (fact_row M n.entries f) (fact_width M n.entries f) l).is
      ∙ ap (filled (6 * FACTS)) (ap (λ k. fact_cells M (goal_entries S.goals) S.facts ++ fact_row M k f) h.used
      ∙ sym (fact_cells_snoc M (goal_entries S.goals) S.facts f))

  recorded_entries : (new : List ℕ) → new ≡ fact_part M f → n.entries + length new ≤ ENTRIES →
      sets R.lists n.entries new ≡ filled ENTRIES (listed M (with_fact S f c))
  recorded_entries new q l =
      let k = length_listed h in
      ap (λ l. sets l n.entries new) h.lists
      ∙ filled_more ENTRIES (listed M S) (omega (arith, entries_fit h)) n.entries new (sym k) (omega arith)
      ∙ ap (filled ENTRIES) (append_assoc (goal_list M S.goals) (fact_list M S.facts) new
      ∙ ap (λ l. goal_list M S.goals ++ l) (ap (λ l. fact_list M S.facts ++ l) q ∙ sym (fact_list_snoc M S.facts f)))

  recorded_more : {Q : Records} → e ≡ n.entries + fact_entries f → All (λ v. v < length S.vars) f.general →
      Q.facts ≡ filled (6 * FACTS) (fact_cells M (goal_entries S.goals) (S.facts ++ (f ∷ []))) →
      Q.footings ≡ filled (4 * FACTS) (footing_cells (S.facts ++ (f ∷ []))) → Q.lists ≡ filled ENTRIES (listed M (with_fact S f c)) →
      Recorded Q (facts_now n (n.facts + 1) e) M (with_fact S f c)
  unfolding entries
  recorded_more d g a b l =
      record {
        many = sym (length_one_more S.facts f ∙ ap (λ k. k + 1) (sym h.many));
        used = d ∙ (let q = entries_snoc S.facts f in
            let z : n.entries + fact_entries f ≡ goal_entries S.goals + all_entries (S.facts ++ (f ∷ [])) = omega (arith, h.used) in z);
        facts = a;
        footings = b;
        lists = l;
        rows = v.rows;
        trees = v.trees;
        shaped = v.shaped;
        general = all_snoc h.general g;
        rules = h.rules;
      }

-- the fact's own shape
new_shaped : (n : ℕ) (fs : List Fact) (f : Fact) → ((k : ℕ) (g : Fact) → entry (fs ++ (f ∷ [])) k ≡ some g → Shaped n (fs ++ (f ∷ [])) k g) →
    Shaped n (fs ++ (f ∷ [])) (length fs) f
new_shaped n fs f s = s (length fs) f (entry_last fs f)

-- A derived fact -----------------------------------------------------------------------------------------------------------------

-- what a form found is this fact: its judgment by number, its hypotheses and its footing as sets
pub record Derives (M : Made) (S : State) (f : Fact) (judgment : ℕ) (hyps footing : List ℕ) : Type 0 where
  pub numbered : judgment ≡ number M f.judgment
  pub assumed : f.assumed ≡ false
  pub rests : f.hyps ≡ rising (length S.facts) (holds hyps)
  pub earlier : Under (length S.facts) (holds hyps)
  pub uses : f.footing ≡ rising (length S.theory.rules) (holds footing)
  pub known : Under (length S.theory.rules) (holds footing)
  pub words : length footing ≡ 4
  pub fit : (i : ℕ) → get_or footing i 0 < 2 ^ 64

module _ {R : Records} {n : Sizes} {M : Made} {S : State} {f : Fact} {judgment : ℕ} {hyps footing : List ℕ} (c : Counts) (e : ℕ)
    (h : Recorded R n M S) (d : Derives M S f judgment hyps footing) (v : Valid M (with_fact S f c)) where
  derived_hyps : f.hyps ≡ rising FACTS (holds hyps)
  derived_hyps = d.rests ∙ sym (rising_under (length S.facts) FACTS (holds hyps) h.rows.row12 d.earlier)

  derived_shaped : Shaped (length S.theory.rules) (S.facts ++ (f ∷ [])) (length S.facts) f
  derived_shaped = new_shaped (length S.theory.rules) S.facts f v.shaped

  derived_words : footing ≡ footing_row f
  derived_words =
      footing_row_lem f h.rules derived_shaped.footing footing d.words d.fit
      (sym (ap has d.uses ∙ has_rising (length S.theory.rules) (holds footing) d.known))

  pub recorded_derived : {Q : Records} (r : Result ℕ Row) → DerivedPut R Q n judgment hyps footing r → r ≡ Ok e →
      Recorded Q (facts_now n (n.facts + 1) e) M (with_fact S f c)
  unfolding fact_row fact_part fact_entries count_trees bit numbers
  recorded_derived {Q} r p q =
      let s = subst (DerivedPut R Q n judgment hyps footing) q p in
      let w = derived_shaped.plain d.assumed in
      let many = ap length derived_hyps in
      let none-many = ap count_trees w.0 in
      let no-general = ap (length {A = ℕ}) w.1 in
      let row : judgment ∷ 0 ∷ n.entries ∷ length (rising FACTS (holds hyps)) ∷ 0 ∷ 0 ∷ [] ≡ fact_row M n.entries f =
      λ i. d.numbered i ∷ sym (ap bit d.assumed) i ∷ n.entries ∷ sym many i ∷ sym none-many i ∷ sym no-general i ∷ [] in
      let new : rising FACTS (holds hyps) ≡ fact_part M f =
      sym ((λ i. f.hyps ++ numbers M (w.0 i) ++ w.1 i) ∙ append-nil (f.hyps ++ []) ∙ append-nil f.hyps ∙ derived_hyps) in
      let footed : Q.footings ≡ filled (4 * FACTS) (footing_cells (S.facts ++ (f ∷ []))) =
      s.0.footings ∙ ap (λ l. sets R.footings (4 * n.facts) l) derived_words
      ∙ (tabled_more (footings_tabled h) (footing_row f) (footing_width f) s.0.room).is
      ∙ ap (filled (4 * FACTS)) (sym (footing_cells_snoc S.facts f)) in
      let sum : n.entries + length (rising FACTS (holds hyps)) ≡ n.entries + (length f.hyps + count_trees f.premises + length f.general) =
      omega (arith, many, none-many, no-general) in
      recorded_more f c e h v (s.1 ∙ sum)
      (subst (All (λ v. v < length S.vars)) (sym w.1) empty)
      (s.0.facts ∙ recorded_row f c e h v (judgment ∷ 0 ∷ n.entries ∷ length (rising FACTS (holds hyps)) ∷ 0 ∷ 0 ∷ []) s.0.room row)
      footed
      (s.0.lists ∙ recorded_entries f c e h v (rising FACTS (holds hyps)) new (omega (arith, s.2)))

-- A hypothesis -------------------------------------------------------------------------------------------------------------------

-- what a form read is this fact; its premises and generalised variables stand in the lists L behind its own entry
pub record Assumes (M : Made) (S : State) (f : Fact) (n : Sizes) (judgment premises general : ℕ) (before L : List ℕ) : Type 0 where
  pub numbered : judgment ≡ number M f.judgment
  pub assumed : f.assumed ≡ true
  pub premised : premises ≡ count_trees f.premises
  pub generalised : general ≡ length f.general
  pub behind : L ≡ sets before (n.entries + 1) (numbers M f.premises ++ f.general)
  pub bound : All (λ v. v < length S.vars) f.general

module _ {R : Records} {n : Sizes} {M : Made} {S : State} {f : Fact} {judgment premises general : ℕ} {L : List ℕ} (c : Counts) (e : ℕ)
    (h : Recorded R n M S) (d : Assumes M S f n judgment premises general R.lists L) (v : Valid M (with_fact S f c)) where
  pub recorded_hypothesis : {Q : Records} (r : Result ℕ Row) → HypothesisPut (records R.facts R.footings L) Q n judgment premises general r → r ≡ Ok e →
      Recorded Q (facts_now n (n.facts + 1) e) M (with_fact S f c)
  unfolding fact_row fact_part fact_entries bit bit_word footing_row
  recorded_hypothesis {Q} r p q =
      let s = subst (HypothesisPut (records R.facts R.footings L) Q n judgment premises general) q p in
      let o = (new_shaped (length S.theory.rules) S.facts f v.shaped).own d.assumed in
      let own : f.hyps ≡ n.facts ∷ [] = o.0 ∙ ap (λ k. k ∷ []) (sym h.many) in
      let many = ap length own in
      let row : judgment ∷ 1 ∷ n.entries ∷ 1 ∷ premises ∷ general ∷ [] ≡ fact_row M n.entries f =
      λ i. d.numbered i ∷ sym (ap bit d.assumed) i ∷ n.entries ∷ sym many i ∷ d.premised i ∷ d.generalised i ∷ [] in
      let new : n.facts ∷ (numbers M f.premises ++ f.general) ≡ fact_part M f =
      sym (append_assoc f.hyps (numbers M f.premises) f.general ∙ ap (λ l. l ++ (numbers M f.premises ++ f.general)) own) in
      let entered : Q.lists ≡ sets R.lists n.entries (n.facts ∷ (numbers M f.premises ++ f.general)) =
      s.0.lists ∙ ap (λ l. sets l n.entries (n.facts ∷ [])) d.behind
      ∙ sets_first R.lists (numbers M f.premises ++ f.general) n.entries (n.entries + 1) n.facts refl in
      let footed : Q.footings ≡ filled (4 * FACTS) (footing_cells (S.facts ++ (f ∷ []))) =
      s.0.footings ∙ (footings_tabled h).is
      ∙ sym (filled_zeros (4 * FACTS) (footing_cells S.facts) 4 (omega (arith, (footings_tabled h).many, s.0.room)))
      ∙ ap (filled (4 * FACTS)) (sym (footing_cells_snoc S.facts f
      ∙ ap (λ l. footing_cells S.facts ++ (bit_word l 0 ∷ bit_word l 1 ∷ bit_word l 2 ∷ bit_word l 3 ∷ [])) o.1)) in
      let sum : n.entries + (1 + premises + general) ≡ n.entries + (length f.hyps + count_trees f.premises + length f.general) =
      omega (arith, many, d.premised, d.generalised) in
      recorded_more f c e h v (s.1 ∙ sum)
      d.bound
      (s.0.facts ∙ recorded_row f c e h v (judgment ∷ 1 ∷ n.entries ∷ 1 ∷ premises ∷ general ∷ []) s.0.room row)
      footed
      (entered ∙ recorded_entries f c e h v (n.facts ∷ (numbers M f.premises ++ f.general)) new
      (omega (arith, s.2, d.premised, d.generalised, length-append (numbers M f.premises) f.general, length_numbers M f.premises)))
