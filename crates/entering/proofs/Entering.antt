-- A derived fact comes behind the others: from what a form found and what is put to what is answered. First any form whose rest is to add the fact, then
-- each form. Assumes nothing.
use mathlib.Core.Path.{◌≡◌, refl, sym, ap, ◌∙◌}
use mathlib.Core.List.{List, [], ◌∷◌}
use Prim.Native.Nat.{ℕ, ◌+◌, ◌^◌, ◌<◌, ◌≤◌}
use native.Mathlib.Omega.{arith}
use lib.ListN.{length}
use Rattle.rules.specs.Limits.{FACTS, ENTRIES}
use Rattle.rules.specs.Out.{Out, then, Act}
use Rattle.rules.specs.Find.{rising}
use Rattle.rules.specs.Sexp.{Sexps}
use Rattle.rules.specs.Tree.{count_trees}
use Rattle.rules.specs.Store.{Made}
use Rattle.rules.specs.State.{State, Fact, Counts, fact_entries, entries}
use Rattle.rules.specs.Step.{step}
use Rattle.rules.specs.Apply.{apply}
use Rattle.rules.specs.Induct.{induct, induct_with}
use Rattle.rules.specs.Forms.{with_made, making, add_fact, add_step, add_apply, add_induct, add_induct_with, some_instances, one_induction}
use Rattle.rules.specs.Laws.Keeping.{Each, Keeps}
use Rattle.rules.specs.Laws.Sound.{sound}
use Rattle.rules.proofs.Laws.MadeActions.{step_sound, apply_sound, induct_sound, induct_with_sound}
use Rattle.rules.specs.Laws.Out.{Ok, of_ok}
use Rattle.rules.specs.Laws.Ready.{Ready, FactIn}
use Rattle.rules.specs.Laws.Shape.{DerivedIn, derived as derived_shape, step_shape, apply_shape, induct_shape, induct_with_shape}
use Rattle.terms.specs.declared.store.Mark.{Mark}
use Rattle.terms.specs.Table.{made, tree, Good}
use Rattle.terms.specs.Sets.{holds}
use Rattle.terms.specs.Laws.Numbers.{tree_number, tree_stored}
use Rattle.state.specs.declared.sizes.Sizes.{Sizes}
use Rattle.std.specs.Prelude.{Result, Ok as done, Err as refused}
use Rattle.questions.specs.declared.Row.{Row}
use Rattle.questions.specs.declared.Question.{Question}
use Rattle.questions.specs.declared.Question.TheVariants.{Room}
use Rattle.questions.specs.Numbers.{row_number}
use Rattle.state.specs.Boards.{records_of, EnterAs, Words}
use Rattle.state.specs.Held.{Names, RuleLists, Records, records, Recorded}
use Rattle.state.specs.Rows.{Putting}
use Rattle.state.specs.Members.{Under, rising_under}
use Rattle.state.specs.Growth.{recorded_on, recorded_made}
use Rattle.state.specs.Recording.{valid_of, valid_more, DerivedPut}
use Rattle.state.specs.Adding.{put_ok, put_full}
use Rattle.state.specs.FactLaws.{facts_tabled, footings_tabled, entries_fit}
use Rattle.state.specs.RowTables.{tabled_long}
use Rattle.rules.specs.Laws.Row.{length_filled}
use Rattle.terms.specs.declared.store.Store.{Store}
use Rattle.terms.specs.On.{Stopped}
use Rattle.state.specs.declared.board.Given.{Given}
use Rattle.state.specs.declared.board.Board.{Board}
use Rattle.referring.specs.declared.support.Derived.{Derived}
use Rattle.referring.specs.Derived.{derived_fact, DerivedRead, with_instances, alone}
use Rattle.referring.specs.Sources.{source_of}
use Rattle.forms.specs.Halted.{Halts}
use Rattle.forms.specs.Laws.Making.{Reached, reached_start, reached_went, reached_stopped, reached_halts}
use Rattle.entering.specs.declared.derive.Way.{Way}
use Rattle.entering.specs.declared.derive.Way.TheVariants as way
use Rattle.entering.specs.Entered.{AddsInstance, AddsDerived, AddsBy, FoundBy, AddedBy, FactAdded, way_counts}

-- What is left is to add the fact ------------------------------------------------------------------------------------------------------

module _ {R : Records} {n : Sizes} {I W : List ℕ} {old : Mark} {S : State} (h : Recorded R n (made I W old) S) {K : Out State (Unit {0})} {J X : List ℕ}
    {now : Mark} (j : ℕ) (hyps footing : List ℕ) (count : ℕ → Counts) (k : ℕ)
    (o : Reached I W old S K J X now (add_fact (derived_fact S (tree J X now j) hyps footing) (count k) (with_made S (made J X now))))
    (u : Under (length S.facts) (holds hyps)) where
  abbrev fact : Fact
  fact = derived_fact S (tree J X now j) hyps footing

  abbrev row : List ℕ
  row = j ∷ 0 ∷ n.entries ∷ length (rising FACTS (holds hyps)) ∷ 0 ∷ 0 ∷ []

  there : Recorded R n (made J X now) (with_made S (made J X now))
  there = recorded_made (made J X now) (recorded_on o.makes.grows h)

  needs : length (rising FACTS (holds hyps)) ≡ fact_entries fact
  unfolding fact_entries count_trees
  needs = omega (arith, ap length (rising_under (length S.facts) FACTS (holds hyps) h.rows.row12 u))

  pub entering_full : {Q : Records} (d : Row) → DerivedPut R Q n j hyps footing (refused d) → Halts I W J X old S K 60 (row_number d) now × (Q ≡ R)
  entering_full {Q} d p =
      let z = put_full fact (count k) Q row (rising FACTS (holds hyps)) footing (length (rising FACTS (holds hyps))) (refused d) there p needs refl in
      (reached_halts o z.0, z.1)

  module _ (l : j < now.terms) (v : Under (length S.theory.rules) (holds footing)) (s : DerivedIn S fact) (w : length footing ≡ 4) (b : Words footing) where
    pub entering_ok : {Q : Records} {e : ℕ} → DerivedPut R Q n j hyps footing (done e) → FactAdded R Q n I W J X old S K (count k) e now
    unfolding Each
    entering_ok {Q} {e} p =
        let good = o.makes.grown.good in
        let room : length S.facts < FACTS = omega (arith, there.many, p.0.room) in
        let fits : entries (with_made S (made J X now)) + fact_entries fact ≤ ENTRIES = omega (arith, there.used, needs, p.1, p.2) in
        record {
          makes = o.makes;
          new = fact;
          judgment = j;
          hyps = hyps;
          footing = footing;
          is = o.here
              ∙ put_ok fact (count k) Q row (rising FACTS (holds hyps)) footing (length (rising FACTS (holds hyps))) (done e) there p needs refl;
          derives = record {
            numbered = sym (tree_number good j l);
            assumed = refl;
            rests = refl;
            earlier = u;
            uses = refl;
            known = v;
            words = w;
            fit = b;
          };
          valid = valid_more _ (valid_of there) room fits
              (record { judgment = sound.there (made J X now) (tree J X now j) (tree_stored good j l); premises = tt }) (derived_shape s);
          stored = p;
        }

-- What is put fits --------------------------------------------------------------------------------------------------------------------

pub fits_cell : {J X : List ℕ} {now : Mark} {j : ℕ} → Good J X now → j < now.terms → j < 2 ^ 32
fits_cell g l = omega (arith, g.room)

pub derived_putting : {facts footings lists : List ℕ} {n : Sizes} {M : Made} {S : State} → Recorded (records facts footings lists) n M S → {j : ℕ} → j < 2 ^ 32 →
    Putting (records facts footings lists) n j
derived_putting {facts} {footings} {lists} {n} h l =
    record {
      facts = tabled_long (facts_tabled h);
      footings = tabled_long (footings_tabled h);
      lists = ap length h.lists ∙ length_filled ENTRIES _;
      entries = omega (arith, entries_fit h);
      fits = l;
    }

-- `step` ---------------------------------------------------------------------------------------------------------------------------------

module _ {N : Names} {P : RuleLists} {facts footings lists : List ℕ} {n : Sizes} {I W : List ℕ} {m : Mark} {cells : List ℕ} {least : ℕ}
    (g : AddsInstance N P facts footings lists n I W m cells least) where
  abbrev S : State
  S = g.form.S

  abbrev xs : Sexps
  xs = g.form.xs

  ready : Ready sound S (made I W m)
  ready = g.form.refers.reads.spelling.trees

  step_start : Reached I W m S (add_step xs S) I W m (then (making (step S xs) (with_made S (made I W m))) (λ r. add_fact r.0 (some_instances r.1)))
  unfolding add_step then
  step_start = reached_start g.form.refers.reads.good ready g.store (λ T. then (making (step S xs) T) (λ r. add_fact r.0 (some_instances r.1)))

  module _ {J X hyps footing : List ℕ} {j k : ℕ} {now : Mark} (d : DerivedRead (Fact × ℕ) I W J X m S (step S xs (made I W m)) with_instances hyps footing j k now)
    where
      pub step_putting : Putting (records facts footings lists) n j
      step_putting = derived_putting g.form.refers.recorded (fits_cell d.went.grown.good d.there)

      step_went : Reached I W m S (add_step xs S) J X now
          (add_fact (derived_fact S (tree J X now j) hyps footing) (some_instances k) (with_made S (made J X now)))
      step_went = reached_went (step S xs) (λ r. add_fact r.0 (some_instances r.1)) step_start (step_sound (made I W m) S ready xs) d.went

      pub step_entered : length footing ≡ 4 → Words footing → {Q : Records} {e : ℕ} → DerivedPut (records facts footings lists) Q n j hyps footing (done e) →
          FactAdded (records facts footings lists) Q n I W J X m S (add_step xs S) (some_instances k) e now
      step_entered w b p =
          entering_ok g.form.refers.recorded j hyps footing some_instances k step_went d.earlier d.there d.known
          (of_ok (step_shape S g.form.refers.recorded.shaped xs (made I W m)) d.went.makes) w b p

      pub step_full : {Q : Records} (row : Row) → DerivedPut (records facts footings lists) Q n j hyps footing (refused row) →
          Halts I W J X m S (add_step xs S) 60 (row_number row) now × (Q ≡ records facts footings lists)
      step_full row p = entering_full g.form.refers.recorded j hyps footing some_instances k step_went d.earlier row p

  pub step_halted : {J X : List ℕ} {q d : ℕ} {now : Mark} → Stopped I W J X m (step S xs (made I W m)) q d now → Halts I W J X m S (add_step xs S) q d now
  step_halted z = reached_stopped (step S xs) (λ r. add_fact r.0 (some_instances r.1)) step_start (step_sound (made I W m) S ready xs) z

-- Forms that find the fact alone ----------------------------------------------------------------------------------------------------------

module _ {N : Names} {facts footings lists : List ℕ} {n : Sizes} {I W : List ℕ} {m : Mark} {cells : List ℕ} {least : ℕ}
    (g : AddsDerived N facts footings lists n I W m cells least) where
  abbrev given : State
  given = g.form.S

  ready_given : Ready sound given (made I W m)
  ready_given = g.form.refers.reads.spelling.trees

  -- what they do: the form K is to add what the action finds
  pub record Alone (act : Act Made Fact) (c : Counts) (K : Out State (Unit {0})) : Type 0 where
    pub start : Reached I W m given K I W m (then (making act (with_made given (made I W m))) (λ f. add_fact f c))
    pub keeps : Keeps sound (made I W m) (λ f u. FactIn sound u f) (act (made I W m))
    pub shape : Ok (λ f u. DerivedIn given f) (act (made I W m))

  pub apply_alone : Alone (apply given g.form.xs) (some_instances 0) (add_apply g.form.xs given)
  unfolding add_apply then
  apply_alone =
      record {
        start = reached_start g.form.refers.reads.good ready_given g.store (λ T. then (making (apply given g.form.xs) T) (λ f. add_fact f (some_instances 0)));
        keeps = apply_sound (made I W m) given ready_given g.form.xs;
        shape = apply_shape given g.form.refers.recorded.shaped g.form.xs (made I W m);
      }

  pub induct_alone : Alone (induct given g.form.xs) one_induction (add_induct g.form.xs given)
  unfolding add_induct then
  induct_alone =
      record {
        start = reached_start g.form.refers.reads.good ready_given g.store (λ T. then (making (induct given g.form.xs) T) (λ f. add_fact f one_induction));
        keeps = induct_sound (made I W m) given ready_given g.form.xs;
        shape = induct_shape given g.form.refers.recorded.shaped g.form.xs (made I W m);
      }

  pub induct_with_alone : Alone (induct_with given g.form.xs) one_induction (add_induct_with g.form.xs given)
  unfolding add_induct_with then
  induct_with_alone =
      record {
        start = reached_start g.form.refers.reads.good ready_given g.store
            (λ T. then (making (induct_with given g.form.xs) T) (λ f. add_fact f one_induction));
        keeps = induct_with_sound (made I W m) given ready_given g.form.xs;
        shape = induct_with_shape given g.form.refers.recorded.shaped g.form.xs (made I W m);
      }

  module _ {act : Act Made Fact} {c : Counts} {K : Out State (Unit {0})} (o : Alone act c K) where
    module _ {J X hyps footing : List ℕ} {j k : ℕ} {now : Mark} (d : DerivedRead Fact I W J X m given (act (made I W m)) alone hyps footing j k now) where
      pub alone_putting : Putting (records facts footings lists) n j
      alone_putting = derived_putting g.form.refers.recorded (fits_cell d.went.grown.good d.there)

      alone_went : Reached I W m given K J X now (add_fact (derived_fact given (tree J X now j) hyps footing) c (with_made given (made J X now)))
      alone_went = reached_went act (λ f. add_fact f c) o.start o.keeps d.went

      pub alone_entered : length footing ≡ 4 → Words footing → {Q : Records} {e : ℕ} → DerivedPut (records facts footings lists) Q n j hyps footing (done e) →
          FactAdded (records facts footings lists) Q n I W J X m given K c e now
      alone_entered w b p =
          entering_ok g.form.refers.recorded j hyps footing (λ _. c) k alone_went d.earlier d.there d.known (of_ok o.shape d.went.makes) w b p

      pub alone_full : {Q : Records} (row : Row) → DerivedPut (records facts footings lists) Q n j hyps footing (refused row) →
          Halts I W J X m given K 60 (row_number row) now × (Q ≡ records facts footings lists)
      alone_full row p = entering_full g.form.refers.recorded j hyps footing (λ _. c) k alone_went d.earlier row p

    pub alone_halted : {J X : List ℕ} {q d : ℕ} {now : Mark} → Stopped I W J X m (act (made I W m)) q d now → Halts I W J X m given K q d now
    alone_halted z = reached_stopped act (λ f. add_fact f c) o.start o.keeps z

-- By the way in which the fact is found ---------------------------------------------------------------------------------------------------

-- b, s before; t: the store behind what was found; c: the tables behind what was put
module _ (g : Given) (b : Board) (s t : Store) (cells : List ℕ) where
  abbrev Found : Way → Result Derived Question → Type 0
  Found w r = FoundBy w (source_of g b) g.rules s t cells r

  pub way_putting : (w : Way) (d : Derived) → AddsBy w g b s cells → Found w (done d) → Putting (records_of b) b.n d.judgment
  way_putting way.Step d x f = step_putting x (f x.form)
  way_putting way.Apply d x f = alone_putting x (apply_alone x) (f x.form)
  way_putting way.Induct d x f = alone_putting x (induct_alone x) (f x.form)
  way_putting way.InductWith d x f = alone_putting x (induct_with_alone x) (f x.form)

  module _ (c : Board) (d : Derived) where
    pub way_added : (w : Way) → Found w (done d) → length d.support.footing ≡ 4 → Words d.support.footing → {u : Unit {0}} →
        EnterAs b c d.judgment d.support.hyps d.support.footing (done u) → AddedBy w g b c s t cells (done (way_counts w d.instances))
    way_added way.Step f l v p = λ x. (step_entered x (f x.form) l v p.0, p.1)
    way_added way.Apply f l v p = λ x. (alone_entered x (apply_alone x) (f x.form) l v p.0, p.1)
    way_added way.Induct f l v p = λ x. (alone_entered x (induct_alone x) (f x.form) l v p.0, p.1)
    way_added way.InductWith f l v p = λ x. (alone_entered x (induct_with_alone x) (f x.form) l v p.0, p.1)

    pub way_full : (w : Way) → Found w (done d) → (r : Row) → EnterAs b c d.judgment d.support.hyps d.support.footing (refused r) →
        AddedBy w g b c s t cells (refused (Room r))
    way_full way.Step f r p = λ x. let z = step_full x (f x.form) r p.0 in (z.0, z.1, p.1)
    way_full way.Apply f r p = λ x. let z = alone_full x (apply_alone x) (f x.form) r p.0 in (z.0, z.1, p.1)
    way_full way.Induct f r p = λ x. let z = alone_full x (induct_alone x) (f x.form) r p.0 in (z.0, z.1, p.1)
    way_full way.InductWith f r p = λ x. let z = alone_full x (induct_with_alone x) (f x.form) r p.0 in (z.0, z.1, p.1)

  pub way_halted : (w : Way) (q : Question) → Found w (refused q) → AddedBy w g b b s t cells (refused q)
  way_halted way.Step q f = λ x. (step_halted x (f x.form), refl, refl)
  way_halted way.Apply q f = λ x. (alone_halted x (apply_alone x) (f x.form), refl, refl)
  way_halted way.Induct q f = λ x. (alone_halted x (induct_alone x) (f x.form), refl, refl)
  way_halted way.InductWith q f = λ x. (alone_halted x (induct_with_alone x) (f x.form), refl, refl)
