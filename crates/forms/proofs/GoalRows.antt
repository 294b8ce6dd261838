-- What `add_goal` answers, question by question, and what the code finds for it: the name, rows 11 and 13. Assumes nothing.
use mathlib.Core.Path.{◌≡◌, refl, ap, ◌∙◌}
use mathlib.Core.Bool.{Bool}
use Rattle.std.specs.Prelude.{Option, Some as some, None as nothing}
use mathlib.Core.List.{List, [], ◌∷◌, ◌++◌}
use Prim.Native.Nat.{ℕ, ◌+◌, ◌-◌, ◌*◌, ◌^◌, ◌<◌, ◌≤◌}
use native.Mathlib.Omega.{arith}
use lib.Dec.{leb, ltb}
use lib.ListN.{length, take, drop}
use lib.Seq.{sets}
use borrow.Author.Tests.{lt-ltb, le-ltb, le-leb, lt-leb}
use Rattle.rules.specs.Limits.{GOALS, ENTRIES}
use Rattle.rules.specs.Lex.{letters}
use Rattle.rules.specs.Out.{Out, ok, refuse, then, ask, room}
use Rattle.rules.specs.Sexp.{Sexp, Sexps, atom, list, item, Name, name}
use Rattle.rules.specs.Tree.{Tree, Trees, count_trees}
use Rattle.rules.specs.Store.{Made}
use Rattle.rules.specs.Declare.{is_new}
use Rattle.rules.specs.State.{State, Goal, goal_named, entries}
use Rattle.rules.specs.Forms.{with_goals, add_goal}
use Rattle.sexp.specs.Encode.{encodes}
use Rattle.sexp.specs.Items.{item_of, place}
use Rattle.sexp.specs.NthItem.{nth_text, nth_part}
use Rattle.sexp.specs.AtomText.{AtomText, name_from, atom_part, atom_high, atom_named}
use Rattle.sexp.specs.FoundLaws.{found_at, found_missing}
use Rattle.sexp.specs.declared.items.Item.{Item}
use Rattle.sexp.specs.declared.items.Item.TheVariants.{Atom, List as Part}
use Rattle.state.specs.declared.sizes.Sizes.{Sizes}
use Rattle.state.specs.Held.{GoalsHeld}
use Rattle.state.specs.Rows.{GoalAt, Fits4}
use Rattle.state.specs.GoalLaws.{goals_long}
use Rattle.forms.proofs.Variables.{is_new_lem, not_new}
use Rattle.forms.specs.Goals.{GoalPlace, new_goal, GoalPlaced}

-- The definition --------------------------------------------------------------------------------------------------------------------

module _ (x : Sexp) (hs : Trees) (j : Tree) (S : State) where
  -- behind the name
  abbrev after_name : Name → Bool → Bool → Bool → Out State (Unit {0})
  after_name n b r e = then (ask 24 b S) (λ _ Y. then (room 11 r Y) (λ _ Z. then (room 13 e Z) (λ _ Q. ok tt (with_goals S (S.goals ++ (new_goal n j hs ∷ []))))))

  abbrev by_name : Sexp → Out State (Unit {0})
  by_name y = then (name 24 y S) (λ n T. then (ask 24 (is_new (goal_named S.goals n.bytes)) T) (λ _ Y. then (room 11 (ltb (length S.goals) GOALS) Y)
      (λ _ Z. then (room 13 (leb (entries S + count_trees hs) ENTRIES) Z) (λ _ Q. ok tt (with_goals S (S.goals ++ (new_goal n j hs ∷ [])))))))

  goal_unnamed : {ys : Sexps} → x ≡ list ys → add_goal x hs j S ≡ refuse 24 0 S
  unfolding add_goal name then
  goal_unnamed e = ap by_name e

  module _ {p : ℕ} {bs : List ℕ} (a : x ≡ atom p bs) where
    goal_asked : add_goal x hs j S
        ≡ after_name (record { start = p; bytes = bs }) (is_new (goal_named S.goals bs)) (ltb (length S.goals) GOALS) (leb (entries S + count_trees hs) ENTRIES)
    unfolding add_goal name then
    goal_asked = ap by_name a

    goal_twice_lem : {k : ℕ} → goal_named S.goals bs ≡ some k → add_goal x hs j S ≡ refuse 24 0 S
    unfolding then
    goal_twice_lem e =
        goal_asked
        ∙ ap (λ (z : Bool). after_name (record { start = p; bytes = bs }) z (ltb (length S.goals) GOALS) (leb (entries S + count_trees hs) ENTRIES)) (not_new (goal_named S.goals bs) e)

    module _ (f : goal_named S.goals bs ≡ nothing) where
      goal_11 : GOALS ≤ length S.goals → add_goal x hs j S ≡ refuse 60 11 S
      unfolding then
      goal_11 l =
          goal_asked ∙ (λ i. after_name (record { start = p; bytes = bs }) (is_new_lem (goal_named S.goals bs) f i) (le-ltb (length S.goals) GOALS l i) (leb (entries S + count_trees hs) ENTRIES))

      module _ (l : length S.goals < GOALS) where
        goal_13 : ENTRIES < entries S + count_trees hs → add_goal x hs j S ≡ refuse 60 13 S
        unfolding then
        goal_13 k =
            goal_asked
            ∙ (λ i. after_name (record { start = p; bytes = bs }) (is_new_lem (goal_named S.goals bs) f i) (lt-ltb (length S.goals) GOALS l i) (lt-leb (entries S + count_trees hs) ENTRIES k i))

        goal_added : entries S + count_trees hs ≤ ENTRIES →
            add_goal x hs j S ≡ ok tt (with_goals S (S.goals ++ (new_goal (record { start = p; bytes = bs }) j hs ∷ [])))
        unfolding then
        goal_added k =
            goal_asked
            ∙ (λ i. after_name (record { start = p; bytes = bs }) (is_new_lem (goal_named S.goals bs) f i) (lt-ltb (length S.goals) GOALS l i) (le-leb (entries S + count_trees hs) ENTRIES k i))

-- The code --------------------------------------------------------------------------------------------------------------------------

module _ {goals rows : List ℕ} {n : Sizes} {cells : List ℕ} (g : GoalPlace goals rows n cells) where
  -- what `put_goal` asks
  pub row_asks : {start end judgment hyps : ℕ} → end ≤ length goals → start ≤ end → judgment < 2 ^ 32 → n.goals < GOALS → hyps ≤ ENTRIES - n.entries →
      GoalAt rows n.goals × Fits4 start end judgment n.entries × (hyps < 2 ^ 32)
  row_asks h k j l m = (
    (goals_long g.held, l),
    record { first = omega (arith, h, k, g.short); second = omega (arith, h, g.short); third = j; fourth = omega (arith, g.fits) },
    omega (arith, m),
  )

  module _ {x : Item} (a : (ys : Sexps) → cells ≡ encodes ys → x ≡ item_of (place ys 1) (item ys 1)) where
    pub place_unnamed : {u w : ℕ} → x ≡ Part u w → (hs : Trees) (j : Tree) → add_goal (item g.xs 1) hs j g.S ≡ refuse 24 0 g.S
    place_unnamed e hs j = goal_unnamed (item g.xs 1) hs j g.S (nth_part g.holds 1 a (omega (arith, g.many)) e).is

    module _ {start : ℕ} (e : x ≡ Atom start) where
      pub place_text : AtomText goals (item g.xs 1) start
      place_text = nth_text g.holds 1 a e

      pub place_inside : start ≤ length goals
      place_inside = omega (arith, place_text.inside)

      abbrev end : ℕ
      end = start + length (letters (drop start goals))

      pub place_high : end ≤ length goals
      place_high = atom_high goals start end place_text.inside refl

      module _ {r : Option ℕ} (b : (M : Made) (gs : List Goal) → GoalsHeld goals rows n.goals M gs → r ≡ (goal_named gs (take (end - start) (drop start goals)))) where
        looked : r ≡ (goal_named g.S.goals (letters (drop start goals)))
        looked = b g.trees g.S.goals g.held
            ∙ ap (λ (z : List ℕ). (goal_named g.S.goals z)) (atom_part goals start end place_text.inside refl)

        pub place_twice : {k : ℕ} → r ≡ some k → (hs : Trees) (j : Tree) → add_goal (item g.xs 1) hs j g.S ≡ refuse 24 0 g.S
        place_twice {k} q hs j =
            goal_twice_lem (item g.xs 1) hs j g.S place_text.is (found_at (goal_named g.S.goals (letters (drop start goals))) r k looked q)

        module _ (q : r ≡ nothing) where
          fresh : goal_named g.S.goals (letters (drop start goals)) ≡ nothing
          fresh = found_missing (goal_named g.S.goals (letters (drop start goals))) r looked q

          pub place_11 : GOALS ≤ n.goals → (hs : Trees) (j : Tree) → add_goal (item g.xs 1) hs j g.S ≡ refuse 60 11 g.S
          place_11 l hs j = goal_11 (item g.xs 1) hs j g.S place_text.is fresh (omega (arith, l, g.held.many))

          module _ (l : n.goals < GOALS) (hs : Trees) (j : Tree) {hyps : ℕ} (c : hyps ≡ count_trees hs) where
            pub place_13 : ENTRIES - n.entries < hyps → add_goal (item g.xs 1) hs j g.S ≡ refuse 60 13 g.S
            place_13 k =
                goal_13 (item g.xs 1) hs j g.S place_text.is fresh (omega (arith, l, g.held.many)) (omega (arith, k, c, g.used, g.fits))

            pub place_added : (judgment : ℕ) (after : List ℕ) → hyps ≤ ENTRIES - n.entries →
                after ≡ sets rows (6 * n.goals) (start ∷ end ∷ judgment ∷ n.entries ∷ hyps ∷ 0 ∷ []) →
                GoalPlaced goals rows after n judgment g.S hs j (add_goal (item g.xs 1) hs j g.S) (n.entries + hyps)
            place_added judgment after k w =
                record {
                  name = name_from goals start;
                  end = end;
                  is = goal_added (item g.xs 1) hs j g.S place_text.is fresh (omega (arith, l, g.held.many)) (omega (arith, k, c, g.used, g.fits));
                  named = atom_named goals start place_text.inside;
                  ends = refl;
                  room = l;
                  used = ap (λ (z : ℕ). n.entries + z) c;
                  fits = omega (arith, k, g.fits);
                  rows_are = w ∙ ap (λ (z : ℕ). sets rows (6 * n.goals) (start ∷ end ∷ judgment ∷ n.entries ∷ z ∷ 0 ∷ [])) c;
                }
