-- The forms of goals, from reading to the row: what the judgments say of the form, and the lists behind the entries. Assumes nothing.
use mathlib.Core.Path.{◌≡◌, refl, sym, ◌∙◌, subst}
use mathlib.Core.List.{List}
use Prim.Native.Nat.{ℕ, ◌+◌, ◌^◌, ◌<◌, ◌≤◌}
use native.Mathlib.Omega.{arith}
use lib.ListN.{drop}
use lib.Seq.{sets}
use Rattle.rules.specs.Limits.{ENTRIES}
use Rattle.rules.specs.Out.{Out, then}
use Rattle.rules.specs.Sexp.{Sexps, item}
use Rattle.rules.specs.Tags.{a_goal, a_goal_with}
use Rattle.rules.specs.Tree.{Tree, Trees, none, count_trees}
use Rattle.rules.specs.Store.{Made}
use Rattle.rules.specs.State.{State, entries}
use Rattle.rules.specs.Read.{judgment}
use Rattle.rules.specs.Forms.{with_made, making, add_goal, goal}
use Rattle.rules.specs.StateTables.{numbers}
use Rattle.rules.specs.Laws.Keeping.{Each}
use Rattle.rules.specs.Laws.Sound.{sound}
use Rattle.rules.proofs.Laws.ReadWalk.{judgment_keeps}
use Rattle.sexp.specs.Encode.{encodes}
use Rattle.sexp.specs.Items.{place}
use Rattle.terms.specs.declared.store.Mark.{Mark}
use Rattle.terms.specs.Table.{made, tree}
use Rattle.state.specs.declared.sizes.Sizes.{Sizes}
use Rattle.state.specs.Held.{Names}
use Rattle.state.specs.Used.{goals_now}
use Rattle.reading.specs.Given.{ReadsItem}
use Rattle.reading.specs.Answers.{TermRead}
use Rattle.reading.specs.Laws.Reading.{reads_ready, reads_item}
use Rattle.terms.specs.On.{Stopped}
use Rattle.std.specs.Prelude.{Result, Ok, Err}
use Rattle.questions.specs.declared.Question.{Question}
use Rattle.questions.specs.Numbers.{number_of, detail_of}
use Rattle.forms.specs.Halted.{Halts}
use Rattle.forms.specs.Goals.{GoalPlace, AddsGoal, GoalPlaced, PlacedBy, GoalAdded, AimedBy}
use Rattle.forms.specs.Stating.{stating}
use Rattle.forms.specs.Laws.Making.{Reached, reached_start, reached_halts, reached_went, reached_stopped, item_holds}

-- The definition --------------------------------------------------------------------------------------------------------------------

abbrev pub after_judgment : Sexps → Trees → Tree → State → Out State (Unit {0})
after_judgment xs hs j U = add_goal (item xs 1) hs j U

goal_plain : (xs : Sexps) (S : State) → goal a_goal xs S ≡ then (making (judgment S (item xs 2)) S) (after_judgment xs none)
unfolding goal then
goal_plain xs S = refl

pub goal_with : (xs : Sexps) (S : State) → stating xs S (after_judgment xs) ≡ goal a_goal_with xs S
unfolding goal then
goal_with xs S = refl

pub entries_made : (S : State) (M : Made) → entries S ≡ entries (with_made S M)
unfolding entries
entries_made S M = refl

-- One judgment ----------------------------------------------------------------------------------------------------------------------

-- where the name comes next: K is what `add_goal` says of the state with the trees made until then
pub record Named (K : Names) (rows : List ℕ) (n : Sizes) (I W : List ℕ) (m : Mark) (cells J X : List ℕ) (S : State) (xs : Sexps) (Q : Out State (Unit {0})) (hs : Trees) (j : ℕ)
    (now : Mark) : Type 0 where
  pub reached : Reached I W m S Q J X now (add_goal (item xs 1) hs (tree J X now j) (with_made S (made J X now)))
  pub there : j < now.terms
  pub known : Each (sound.Has (made J X now)) hs

module _ {K : Names} {rows : List ℕ} {n : Sizes} {I W : List ℕ} {m : Mark} {cells : List ℕ} {least : ℕ} (g : AddsGoal K rows n I W m cells least) (two : 2 ≤ least) where
  -- what `place_goal` is given
  abbrev pub place_given : Made → GoalPlace K.text rows n cells
  place_given M =
      record {
        S = with_made g.S M;
        xs = g.xs;
        trees = made I W m;
        held = g.held;
        used = g.used ∙ entries_made g.S M;
        fits = g.fits;
        holds = g.holds;
        many = omega (arith, two, g.many);
        short = g.reads.spelling.short;
      }

  module _ {J X : List ℕ} {Q : Out State (Unit {0})} {hs : Trees} {j hyps : ℕ} {now : Mark} (o : Named K rows n I W m cells J X g.S g.xs Q hs j now) (c : hyps ≡ count_trees hs)
      (after : List ℕ) (k : Sizes) (p : Result (Unit {0}) Question)
      (b : (h : GoalPlace K.text rows n cells) (hs : Trees) (t : Tree) → hyps ≡ count_trees hs →
      PlacedBy K.text rows after n k j h.S hs t (add_goal (item h.xs 1) hs t h.S) p) where
    -- what is said of the state with the trees made until then
    abbrev placed_by : Result (Unit {0}) Question → Type 0
    placed_by p =
        PlacedBy K.text rows after n k j (with_made g.S (made J X now)) hs (tree J X now j) (add_goal (item g.xs 1) hs (tree J X now j) (with_made g.S (made J X now))) p

    placed : placed_by p
    placed = b (place_given (made J X now)) hs (tree J X now j) c

    pub named_halts : {q : Question} → p ≡ Err q → Halts I W J X m g.S Q (number_of q) (detail_of q) now × (after ≡ rows) × (k ≡ n)
    named_halts e = let z = subst placed_by e placed in (reached_halts o.reached z.0, z.1, z.2)

    module _ {u : Unit {0}} (f : p ≡ Ok u) where
      found : placed_by (Ok u)
      found = subst placed_by f placed

      pub named_room : n.entries + count_trees hs ≤ ENTRIES
      named_room = omega (arith, found.0.used, found.0.fits)

      pub named_added : (lists last : List ℕ) → last ≡ sets lists n.entries (numbers (made J X now) hs) →
          GoalAdded K.text rows after lists last n I W J X m g.S Q k.entries now × (k ≡ goals_now n (n.goals + 1) k.entries)
      named_added lists last w = (
        record {
          makes = o.reached.makes;
          hyps = hs;
          judgment = j;
          there = o.there;
          known = o.known;
          placed = subst (λ (z : Out State (Unit {0})). GoalPlaced K.text rows after n j (with_made g.S (made J X now)) hs (tree J X now j) z k.entries)
              (sym o.reached.here) found.0;
          lists_are = w;
        },
        found.1,
      )

-- (goal NAME JUDGMENT) ----------------------------------------------------------------------------------------------------------------

no_numbers : (lists : List ℕ) (at : ℕ) (M : Made) → lists ≡ sets lists at (numbers M none)
unfolding numbers
no_numbers lists at M = refl

none_known : (M : Made) → Each (sound.Has M) none
unfolding Each
none_known M = tt

none_count : 0 ≡ count_trees none
unfolding count_trees
none_count = refl

module _ {K : Names} {rows : List ℕ} {n : Sizes} {I W : List ℕ} {m : Mark} {cells : List ℕ} (g : AddsGoal K rows n I W m cells 3) {behind : List ℕ}
    (a : (ys : Sexps) → cells ≡ encodes ys → behind ≡ drop (place ys 2) cells) where
  abbrev pub plain_given : ReadsItem K n I W m behind
  plain_given = reads_item g.reads (item_holds g.holds 2 (omega (arith, g.many)) a)

  plain_starts : Reached I W m g.S (goal a_goal g.xs g.S) I W m
      (then (making (judgment g.S (item g.xs 2)) (with_made g.S (made I W m))) (after_judgment g.xs none))
  plain_starts =
      record {
        makes = start.makes;
        here = goal_plain g.xs g.S ∙ start.here;
      }
    where
      start : Reached I W m g.S (then (making (judgment g.S (item g.xs 2)) g.S) (after_judgment g.xs none)) I W m
          (then (making (judgment g.S (item g.xs 2)) (with_made g.S (made I W m))) (after_judgment g.xs none))
      start = reached_start g.reads.good (reads_ready g.reads) g.store (λ T. then (making (judgment g.S (item g.xs 2)) T) (after_judgment g.xs none))

  module _ {J X : List ℕ} {new : Mark} where
    pub plain_stops : {q d : ℕ} → ((h : ReadsItem K n I W m behind) → Stopped I W J X m (judgment h.S h.x (made I W m)) q d new) →
        Halts I W J X m g.S (goal a_goal g.xs g.S) q d new
    plain_stops b =
        reached_stopped (judgment g.S (item g.xs 2)) (after_judgment g.xs none) plain_starts (judgment_keeps g.S (item g.xs 2) (made I W m) (reads_ready g.reads))
        (b plain_given)

    module _ {j : ℕ} (b : (h : ReadsItem K n I W m behind) → TermRead I W J X m (judgment h.S h.x (made I W m)) j new) where
      plain_read : TermRead I W J X m (judgment g.S (item g.xs 2) (made I W m)) j new
      plain_read = b plain_given

      pub plain_small : j < 2 ^ 32
      plain_small = omega (arith, plain_read.there, plain_read.went.grown.good.room)

      plain_named : Named K rows n I W m cells J X g.S g.xs (goal a_goal g.xs g.S) none j new
      plain_named =
          record {
            reached = reached_went (judgment g.S (item g.xs 2)) (after_judgment g.xs none) plain_starts
                (judgment_keeps g.S (item g.xs 2) (made I W m) (reads_ready g.reads)) plain_read.went;
            there = plain_read.there;
            known = none_known (made J X new);
          }

      pub plain_aimed : (after lists last : List ℕ) (k : Sizes) (p : Result (Unit {0}) Question) → last ≡ lists →
          ((h : GoalPlace K.text rows n cells) (hs : Trees) (t : Tree) → 0 ≡ count_trees hs →
          PlacedBy K.text rows after n k j h.S hs t (add_goal (item h.xs 1) hs t h.S) p) →
          AimedBy K.text rows after lists last n k I W J X m new g.S (goal a_goal g.xs g.S) p
      plain_aimed after lists last k (Ok u) l c =
          named_added g (omega arith) plain_named none_count after k (Ok u) c refl lists last (l ∙ no_numbers lists n.entries (made J X new))
      plain_aimed after lists last k (Err q) l c =
          let z = named_halts g (omega arith) plain_named none_count after k (Err q) c refl in
          (z.0, z.1, l, z.2)
