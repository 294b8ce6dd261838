-- The form of goals with hypotheses, from what it states to the row: the hypotheses' numbers come behind the entries of the lists, which are zero there,
-- and again where a question is left. Assumes nothing.
use mathlib.Core.Path.{◌≡◌, refl, sym, ◌∙◌, subst}
use mathlib.Core.List.{List}
use Prim.Native.Nat.{ℕ, ◌+◌, ◌-◌, ◌^◌, ◌<◌}
use native.Mathlib.Omega.{arith}
use lib.ListN.{length, take, drop, replicate}
use Rattle.rules.specs.Limits.{ENTRIES}
use Rattle.rules.specs.Out.{Out}
use Rattle.rules.specs.Sexp.{item}
use Rattle.rules.specs.Tags.{a_goal_with}
use Rattle.rules.specs.Tree.{Tree, Trees, count_trees}
use Rattle.rules.specs.State.{State}
use Rattle.rules.specs.Forms.{add_goal, goal}
use Rattle.rules.specs.StateTables.{numbers}
use Rattle.terms.specs.declared.store.Mark.{Mark}
use Rattle.terms.specs.Table.{made}
use Rattle.state.specs.declared.sizes.Sizes.{Sizes}
use Rattle.state.specs.Held.{Names}
use Rattle.state.specs.Used.{goals_now}
use Rattle.state.specs.Numbered.{length_numbers}
use Rattle.std.specs.Prelude.{Ok, Err, Result}
use Rattle.questions.specs.declared.Question.{Question}
use Rattle.questions.specs.Numbers.{number_of, detail_of}
use Rattle.forms.specs.declared.stating.Stated.{Stated}
use Rattle.forms.specs.Halted.{ReadsForm, Halts}
use Rattle.forms.specs.Stating.{stating, StatedRead}
use Rattle.cells.specs.Cleared.{ClearedBy}
use Rattle.forms.specs.Goals.{GoalPlace, AddsGoal, PlacedBy, GoalAdded, AimedBy}
use Rattle.forms.proofs.GoalReads.{after_judgment, goal_with, Named, named_halts, named_room, named_added}
use Rattle.forms.proofs.Tails.{tailed, tail_filled, tail_again, tailed_same}

module _ {K : Names} {rows : List ℕ} {n : Sizes} {I W : List ℕ} {m : Mark} {cells : List ℕ} (g : AddsGoal K rows n I W m cells 4) where
  abbrev pub form_given : ReadsForm K n I W m cells 4
  form_given = record { S = g.S; xs = g.xs; reads = g.reads; store = g.store; holds = g.holds; many = g.many }

  module _ {J X : List ℕ} {new : Mark} where
    pub with_stop : {out before : List ℕ} {q d : ℕ} → ((h : ReadsForm K n I W m cells 4) (next : Trees → Tree → State → Out State (Unit {0})) →
        Halts I W J X m h.S (stating h.xs h.S next) q d new × (out ≡ before)) → Halts I W J X m g.S (goal a_goal_with g.xs g.S) q d new × (out ≡ before)
    with_stop {out} {before} {q} {d} b =
        subst (λ z. Halts I W J X m g.S z q d new × (out ≡ before)) (goal_with g.xs g.S) (b form_given (after_judgment g.xs))

    module _ {out : List ℕ} {r : Stated}
        (b : (h : ReadsForm K n I W m cells 4) (next : Trees → Tree → State → Out State (Unit {0})) → StatedRead I W J X m h.S (stating h.xs h.S next) next out r new) where
      with_read : StatedRead I W J X m g.S (stating g.xs g.S (after_judgment g.xs)) (after_judgment g.xs) out r new
      with_read = b form_given (after_judgment g.xs)

      pub with_small : r.judgment < 2 ^ 32
      with_small = omega (arith, with_read.there, with_read.makes.grown.good.room)

      with_named : Named K rows n I W m cells J X g.S g.xs (goal a_goal_with g.xs g.S) with_read.trees r.judgment new
      with_named =
          record {
            reached = record { makes = with_read.makes; here = sym (goal_with g.xs g.S) ∙ with_read.is };
            there = with_read.there;
            known = with_read.known;
          }

      module _ {after : List ℕ} {k : Sizes} where
        with_halts : (q : Question) → ((h : GoalPlace K.text rows n cells) (hs : Trees) (t : Tree) → r.listed ≡ count_trees hs →
            PlacedBy K.text rows after n k r.judgment h.S hs t (add_goal (item h.xs 1) hs t h.S) (Err q)) →
            Halts I W J X m g.S (goal a_goal_with g.xs g.S) (number_of q) (detail_of q) new × (after ≡ rows) × (k ≡ n)
        with_halts q c = named_halts g (omega arith) with_named with_read.count after k (Err q) c refl

        with_added : {u : Unit {0}} → ((h : GoalPlace K.text rows n cells) (hs : Trees) (t : Tree) → r.listed ≡ count_trees hs →
            PlacedBy K.text rows after n k r.judgment h.S hs t (add_goal (item h.xs 1) hs t h.S) (Ok u)) → (lists : List ℕ) {last : List ℕ} → length lists ≡ ENTRIES →
            drop n.entries lists ≡ replicate (ENTRIES - n.entries) 0 → length out ≡ length (take (length lists - n.entries) (drop n.entries lists)) →
            last ≡ tailed lists n.entries out →
            GoalAdded K.text rows after lists last n I W J X m g.S (goal a_goal_with g.xs g.S) k.entries new × (k ≡ goals_now n (n.goals + 1) k.entries)
        with_added {u} c lists {last} long zero o e =
            named_added g (omega arith) with_named with_read.count after k (Ok u) c refl lists last
            (e ∙ tail_filled lists ENTRIES long n.entries g.fits zero (numbers (made J X new) with_read.trees) with_read.cells_are o
            (omega (arith, named_room g (omega arith) with_named with_read.count after k (Ok u) c refl, length_numbers (made J X new) with_read.trees)))

      -- where the goal is refused, the lists are cleared
      pub with_either : (after : List ℕ) (k : Sizes) (o : Result (Unit {0}) Question) → ((h : GoalPlace K.text rows n cells) (hs : Trees) (t : Tree) → r.listed ≡ count_trees hs →
          PlacedBy K.text rows after n k r.judgment h.S hs t (add_goal (item h.xs 1) hs t h.S) o) → (lists : List ℕ) → length lists ≡ ENTRIES →
          drop n.entries lists ≡ replicate (ENTRIES - n.entries) 0 → length out ≡ length (take (length lists - n.entries) (drop n.entries lists)) →
          {L : List ℕ} (last : List ℕ) → L ≡ tailed lists n.entries out → ClearedBy 0 o (take (length L - n.entries) (drop n.entries L)) last →
          AimedBy K.text rows after lists (tailed L n.entries last) n k I W J X m new g.S (goal a_goal_with g.xs g.S) o
      with_either after k (Ok u) c lists long zero w {L} last e d = with_added c lists long zero w (tailed_same L n.entries d ∙ e)
      with_either after k (Err q) c lists long zero w last e d =
          let h = with_halts q c in (h.0, h.1, tail_again lists ENTRIES long n.entries g.fits zero out w e d, h.2)
