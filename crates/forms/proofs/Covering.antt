-- Question 51: each hypothesis of a reference is plain, with a judgment that the goal lists. To look for a term's number among those of the goal's
-- hypotheses is to look for its tree. Assumes nothing.
use mathlib.Core.Path.{◌≡◌, refl, sym, ap, ◌∙◌, subst}
use mathlib.Core.Bool.{Bool, true, false, ◌&&◌}
use Rattle.std.specs.Prelude.{Option}
use mathlib.Core.List.{List}
use Prim.Native.Nat.{ℕ, ◌*◌, ◌<◌, ◌≤◌}
use native.Mathlib.Omega.{arith}
use native.Mathlib.Decide.{ℕ_discrete}
use lib.Dec.{eqb}
use lib.ListN.{length, get_or, replicate}
use borrow.Author.Tests.{eq-eqb, ne_eqb}
use Rattle.rules.specs.Limits.{TERMS, TERMWORDS}
use Rattle.rules.specs.Find.{union, entry, all, has}
use Rattle.rules.specs.Tree.{Tree, Trees, var, none, more, same_tree, among}
use Rattle.rules.specs.Store.{Made, number}
use Rattle.rules.specs.State.{State, Fact, is_plain}
use Rattle.rules.specs.Forms.{listed}
use Rattle.rules.specs.StateTables.{numbers}
use Rattle.rules.specs.Laws.Theory.{All, all_at}
use Rattle.rules.specs.Laws.Tree.{same_self, not_same}
use Rattle.rules.specs.Laws.Keeping.{Each}
use Rattle.rules.specs.Laws.Sound.{In, sound}
use Rattle.terms.specs.Sets.{holds}
use Rattle.state.specs.declared.sizes.Sizes.{Sizes}
use Rattle.cells.specs.declared.Span.{Span}
use Rattle.state.specs.Held.{records, Recorded}
use Rattle.state.specs.Rows.{cell, FactAt, GoalAt, plain_row, list_span, hyps_span}
use Rattle.state.specs.Entries.{part}
use Rattle.state.specs.RowCells.{no_fact, no_goal}
use Rattle.state.specs.Numbered.{in_numbered, sound_in}
use Rattle.state.specs.GoalLaws.{GoalRow, goals_long}
use Rattle.state.specs.FactLaws.{FactRow, fact_row_lem, goal_row_of, lists_long}
use Rattle.referring.specs.Recall.{fact_of}
use Rattle.forms.specs.Results.{goal_of, ListsHyps, Covers}
use Rattle.std.specs.List.{list_all}
use Rattle.cells.specs.Chains.{all_elements}
use Rattle.referring.specs.Laws.Tests.{all_same}
use Rattle.referring.specs.Laws.Refers.{fact_asks}
use Rattle.referring.specs.Laws.ScopeFree.{from_zeros}

-- Trees by their numbers ----------------------------------------------------------------------------------------------------------------

same_numbered : (M : Made) (u t : Tree) → In u M → In t M → same_tree u t ≡ eqb (number M t) (number M u)
same_numbered M u t i j = elim (ℕ_discrete (number M t) (number M u)) [
  | yes e ↦
      let q : u ≡ t = sym (in_numbered i).tree ∙ ap (λ (k : ℕ). get_or M k (var 0)) (sym e) ∙ (in_numbered j).tree in
      ap (λ (z : Tree). same_tree u z) (sym q) ∙ same_self u ∙ sym (eq-eqb (number M t) (number M u) e)
  | no n ↦ not_same u t (λ e. n (ap (number M) (sym e))) ∙ sym (ne_eqb (number M t) (number M u) n)
]

among_numbers : (M : Made) (hs : Trees) (t : Tree) → Each (sound.Has M) hs → In t M → among hs t ≡ has (numbers M hs) (number M t)
unfolding among has numbers Each
among_numbers M none t h i = refl
among_numbers M (more u us) t h i =
    λ o. elim (same_numbered M u t (sound_in M u h.0) i o) [ true ↦ true | false ↦ among_numbers M us t h.1 i o ]

few_trees : (M : Made) → sound.Good M → length M ≤ TERMS
unfolding sound
few_trees M g = g.row8

-- One hypothesis ------------------------------------------------------------------------------------------------------------------------

module _ {facts footings lists : List ℕ} {n : Sizes} {M : Made} {S : State} (r : Recorded (records facts footings lists) n M S) {h : ℕ} (l : h < n.facts) where
  abbrev here : FactRow (records facts footings lists) n M S h (fact_of S h)
  here = fact_row_lem r h l

  pub judgment_below : cell 6 facts h 0 < TERMS
  judgment_below = omega (arith, here.judgment.below, few_trees M r.trees.good)

  module _ (hs : Trees) (k : Each (sound.Has M) hs) (terms : List ℕ) (e : holds terms ≡ has (numbers M hs)) where
    known : In (fact_of S h).judgment M
    known = sound_in M (fact_of S h).judgment (all_at S.facts h no_fact r.trees.facts (omega (arith, l, r.many))).judgment

    pub is_listed : plain_row facts h && holds terms (cell 6 facts h 0) ≡ listed hs (entry S.facts h)
    unfolding listed
    is_listed =
        (λ i. here.plain i && e i (here.judgment.is i))
        ∙ ap (λ (z : Bool). is_plain (fact_of S h) && z) (sym (among_numbers M hs (fact_of S h).judgment k known))
        ∙ ap (λ (z : Option Fact). listed hs z) (sym here.is)

-- All of them ---------------------------------------------------------------------------------------------------------------------------

module _ {facts hyps : List ℕ} (g : ListsHyps facts hyps) where
  below : (k : ℕ) → k < length hyps → get_or hyps k 0 < g.n.facts
  below k l = all_at hyps k 0 g.below l

  -- what `is_listed` asks
  pub listing_asks : (k : ℕ) → k < length hyps → FactAt facts (get_or hyps k 0) × (cell 6 facts (get_or hyps k 0) 0 < TERMS)
  listing_asks k l = (fact_asks g.recorded (below k l), judgment_below g.recorded (below k l))

  pub listing_all : (hs : Trees) → Each (sound.Has g.trees) hs → (terms : List ℕ) → holds terms ≡ has (numbers g.trees hs) → {b : Bool} →
      b ≡ list_all (λ h. plain_row facts h && holds terms (cell 6 facts h 0)) hyps → b ≡ all (λ h. listed hs (entry g.S.facts h)) hyps
  listing_all hs a terms e r =
      r ∙ all_elements (λ h. plain_row facts h && holds terms (cell 6 facts h 0)) hyps
      ∙ all_same (λ h. plain_row facts h && holds terms (cell 6 facts h 0)) (λ h. listed hs (entry g.S.facts h)) hyps
      (λ k l. is_listed g.recorded (below k l) hs a terms e)

-- A goal and a fact ---------------------------------------------------------------------------------------------------------------------

module _ {rows facts lists : List ℕ} {k i : ℕ} (g : Covers rows facts lists k i) where
  abbrev goal : GoalRow rows lists g.trees g.S.goals k (goal_of g.S k)
  goal = goal_row_of k g.recorded g.held g.goal

  abbrev fact : FactRow (records facts g.footings lists) g.n g.trees g.S i (fact_of g.S i)
  fact = fact_row_lem g.recorded i g.fact

  pub covers_goal : GoalAt rows k
  covers_goal = (goals_long g.held, omega (arith, g.goal, g.held.few))

  -- the goal's entries
  module _ {s : Span} (e : s ≡ list_span rows k) where
    pub aims_low : s.from ≤ s.end
    aims_low = omega (arith, ap (λ (z : Span). z.from) e, ap (λ (z : Span). z.end) e)

    pub aims_high : s.end ≤ length lists
    aims_high = omega (arith, ap (λ (z : Span). z.end) e, goal.inside, lists_long g.recorded)

    aims_are : part lists s ≡ numbers g.trees (goal_of g.S k).hyps
    aims_are = ap (λ (z : Span). part lists z) e ∙ goal.hyps

    pub aims_below : (terms : List ℕ) → length terms ≡ TERMWORDS → (j : ℕ) → j < length (part lists s) → get_or (part lists s) j 0 < 64 * length terms
    aims_below terms w j l =
        let a : get_or (numbers g.trees (goal_of g.S k).hyps) j 0 < length g.trees
        = all_at (numbers g.trees (goal_of g.S k).hyps) j 0 goal.numbered.below (omega (arith, l, ap length aims_are)) in
        omega (arith, a, w, ap (λ (z : List ℕ). get_or z j 0) aims_are, few_trees g.trees g.recorded.trees.good)

    aims_set : (terms : List ℕ) → holds terms ≡ union (holds (replicate TERMWORDS 0)) (has (part lists s)) →
        holds terms ≡ has (numbers g.trees (goal_of g.S k).hyps)
    aims_set terms f = from_zeros TERMWORDS (holds terms) (has (part lists s)) f ∙ ap has aims_are

    -- the fact's entries
    module _ {own : List ℕ} (f : own ≡ part lists (hyps_span facts i)) where
      pub own_are : own ≡ (fact_of g.S i).hyps
      own_are = f ∙ fact.hyps

      abbrev pub own_given : ListsHyps facts own
      own_given =
          record {
            S = g.S;
            n = g.n;
            trees = g.trees;
            footings = g.footings;
            lists = lists;
            recorded = g.recorded;
            below = subst (All (λ h. h < g.n.facts)) (sym own_are) fact.hyps_below;
          }

      pub covers_all : (terms : List ℕ) {r : Bool} → holds terms ≡ union (holds (replicate TERMWORDS 0)) (has (part lists s)) →
          ((h : ListsHyps facts own) (hs : Trees) → Each (sound.Has h.trees) hs → holds terms ≡ has (numbers h.trees hs) →
          r ≡ all (λ x. listed hs (entry h.S.facts x)) own) →
          r ≡ all (λ h. listed (goal_of g.S k).hyps (entry g.S.facts h)) (fact_of g.S i).hyps
      covers_all terms q a =
          a own_given (goal_of g.S k).hyps (all_at g.S.goals k no_goal g.recorded.trees.goals (omega (arith, g.goal, g.held.many))).hyps
          (aims_set terms q)
          ∙ ap (all (λ h. listed (goal_of g.S k).hyps (entry g.S.facts h))) own_are
