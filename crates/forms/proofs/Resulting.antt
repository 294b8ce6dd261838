-- What `result` answers, question by question, and what the code finds for it. Assumes nothing.
use mathlib.Core.Path.{◌≡◌, sym, ap, ◌∙◌, subst}
use mathlib.Core.Bool.{Bool, true, false, not}
use Rattle.std.specs.Prelude.{Option, Some as some, None as nothing, MatchOption}
use Rattle.std.specs.Bool.{then_some}
use mathlib.Core.List.{List}
use Prim.Native.Nat.{ℕ, ◌+◌, ◌*◌, ◌<◌}
use native.Mathlib.Omega.{arith}
use lib.Dec.{eqb}
use lib.ListN.{length, drop, set}
use borrow.Author.Tests.{eq-eqb, ne_eqb, not-true, not-false}
use Rattle.rules.specs.Out.{Out, ok, refuse, then, ask, found}
use Rattle.rules.specs.Find.{entry, all, change}
use Rattle.rules.specs.Text.{same}
use Rattle.rules.specs.Sexp.{Sexp, Sexps, atom, list, item, rest, name}
use Rattle.rules.specs.Tree.{same_tree}
use Rattle.rules.specs.Store.{Made}
use Rattle.rules.specs.State.{State, Goal, goal_named}
use Rattle.rules.specs.Reference.{Ref, reference}
use Rattle.rules.specs.Forms.{with_made, with_goals, making, listed, taken_goal, result}
use Rattle.rules.specs.Laws.Find.{first_some}
use Rattle.rules.proofs.Laws.ReadWalk.{reference_keeps}
use Rattle.sexp.specs.Encode.{encodes}
use Rattle.sexp.specs.Items.{Holds, Held, place}
use Rattle.sexp.specs.Each.{HeadIs}
use Rattle.referring.specs.Laws.Behind.{from_holds, head_item}
use denote.Ref.{Bor}
use Rattle.terms.specs.declared.store.Mark.{Mark}
use Rattle.terms.specs.Table.{made, tree}
use Rattle.terms.specs.On.{Stopped}
use Rattle.terms.specs.Laws.Growth.{made_length, grown_tree, grown_there}
use Rattle.terms.specs.Laws.Numbers.{same_number}
use Rattle.state.specs.declared.sizes.Sizes.{Sizes}
use Rattle.state.specs.Held.{Names, GoalsHeld}
use Rattle.state.specs.Rows.{GoalAt, cell}
use Rattle.state.specs.RowCells.{no_goal}
use Rattle.state.specs.GoalLaws.{GoalRow, goals_long}
use Rattle.state.specs.FactLaws.{goal_row_of}
use Rattle.referring.specs.Recall.{RefersItem, fact_of}
use Rattle.referring.specs.Referral.{rests_on, ref_of, RefRead}
use Rattle.forms.specs.Halted.{Halts}
use Rattle.forms.specs.Results.{goal_of, Covers, TakesResult, GoalMet, ResultTaken}
use Rattle.referring.specs.Laws.Refers.{refers_ready, refers_item}
use Rattle.forms.specs.Laws.Making.{Reached, reached_start, reached_halts, reached_went, reached_stopped, halts_first, item_holds}

-- The definition --------------------------------------------------------------------------------------------------------------------

-- behind the reference
abbrev pub ref_end : ℕ → State → Bool → Bool → Out State (Unit {0})
ref_end k Z b c = then (ask 51 b Z) (λ _ P. then (ask 52 c P) (λ _ U. ok tt (with_goals U (change U.goals k taken_goal))))

end_51 : (k : ℕ) (Z : State) {b : Bool} (c : Bool) → b ≡ false → ref_end k Z b c ≡ refuse 51 0 Z
unfolding then
end_51 k Z c e = ap (λ (z : Bool). ref_end k Z z c) e

end_52 : (k : ℕ) (Z : State) {b c : Bool} → b ≡ true → c ≡ false → ref_end k Z b c ≡ refuse 52 0 Z
unfolding then
end_52 k Z e f = λ i. ref_end k Z (e i) (f i)

end_taken : (k : ℕ) (Z : State) {b c : Bool} → b ≡ true → c ≡ true → ref_end k Z b c ≡ ok tt (with_goals Z (change Z.goals k taken_goal))
unfolding then
end_taken k Z e f = λ i. ref_end k Z (e i) (f i)

module _ (xs : Sexps) (S : State) where
  abbrev pub after_ref : ℕ → Goal → Ref → State → Out State (Unit {0})
  after_ref k g r Z = ref_end k Z (all (λ h. listed g.hyps (entry S.facts h)) r.hyps) (same_tree r.judgment g.judgment)

  abbrev after_taken : ℕ → Goal → State → Bool → Out State (Unit {0})
  after_taken k g T b = then (ask 50 b T) (λ _ Q. then (making (reference S (item xs 2)) Q) (after_ref k g))

  abbrev after_goal : ℕ → State → Option Goal → Out State (Unit {0})
  after_goal k T o = then (found 50 o T) (λ g Q. after_taken k g Q (not g.taken))

  abbrev after_name : State → Option ℕ → Out State (Unit {0})
  after_name T o = then (found 50 o T) (λ k Y. after_goal k Y (entry S.goals k))

  abbrev by_name : Sexp → Out State (Unit {0})
  by_name y = then (name 50 y S) (λ n T. after_name T (goal_named S.goals n.bytes))

  result_unnamed : {ys : Sexps} → item xs 1 ≡ list ys → result xs S ≡ refuse 50 0 S
  unfolding result name then
  result_unnamed e = ap by_name e

  module _ {p : ℕ} {bs : List ℕ} (a : item xs 1 ≡ atom p bs) where
    result_named : result xs S ≡ after_name S (goal_named S.goals bs)
    unfolding result name then
    result_named = ap by_name a

    result_unknown_lem : goal_named S.goals bs ≡ nothing → result xs S ≡ refuse 50 0 S
    unfolding then
    result_unknown_lem e = result_named ∙ ap (after_name S) e

    module _ {k : ℕ} {g : Goal} (e : goal_named S.goals bs ≡ some k) (f : entry S.goals k ≡ some g) where
      result_goal : result xs S ≡ after_taken k g S (not g.taken)
      unfolding then
      result_goal = result_named ∙ ap (after_name S) e ∙ ap (after_goal k S) f

      result_twice_lem : g.taken ≡ true → result xs S ≡ refuse 50 0 S
      unfolding then
      result_twice_lem t = result_goal ∙ ap (λ (z : Bool). after_taken k g S (not z)) t

      result_open : g.taken ≡ false → result xs S ≡ then (making (reference S (item xs 2)) S) (after_ref k g)
      unfolding then
      result_open t = result_goal ∙ ap (λ (z : Bool). after_taken k g S (not z)) t

named_inside : (gs : List Goal) (bs : List ℕ) (k : ℕ) → goal_named gs bs ≡ some k → k < length gs
unfolding goal_named
named_inside gs bs k e =
    let f = first_some (λ (g : Goal). same g.name.bytes bs) gs 0 k no_goal e in
    omega (arith, f.is, f.inside)

-- The code --------------------------------------------------------------------------------------------------------------------------

-- Goal k is there without a result, and the reference comes next
pub record Aiming {K : Names} {rows facts lists : List ℕ} {n : Sizes} {I W : List ℕ} {m : Mark} {cells : List ℕ} (g : TakesResult K rows facts lists n I W m cells) (k : ℕ) : Type 0 where
  pub there : k < n.goals
  pub row : GoalRow rows lists (made I W m) g.S.goals k (goal_of g.S k)
  pub on : Reached I W m g.S (result g.xs g.S) I W m
      (then (making (reference g.S (item g.xs 2)) (with_made g.S (made I W m))) (after_ref g.xs g.S k (goal_of g.S k)))

module _ {K : Names} {rows facts lists : List ℕ} {n : Sizes} {I W : List ℕ} {m : Mark} {cells : List ℕ} (g : TakesResult K rows facts lists n I W m cells) where
  -- the definition's answer
  abbrev answer : Out State (Unit {0})
  answer = result g.xs g.S

  -- whether the row of goal k says that its result has come
  abbrev row_taken : ℕ → Bool
  row_taken k = not (eqb (cell 6 rows k 5) 0)

  first_halts : {q d : ℕ} → answer ≡ refuse q d g.S → Halts I W I W m g.S answer q d m
  first_halts e = halts_first g.refers.reads.good (refers_ready g.refers) g.store e

  module _ {behind : List ℕ} (a : (ys : Sexps) → cells ≡ encodes ys → behind ≡ drop (place ys 1) cells) where
    pub name_held : Held K.text behind
    name_held = (rest g.xs 1, from_holds g.holds 1 a)

    -- what `head` answers
    module _ (o : Option (Bor (List ℕ))) (b : (ys : Sexps) → Holds K.text behind ys → HeadIs (item ys 0) o) where
      told : HeadIs (item g.xs 1) o
      told = head_item g.holds 1 a o b

      pub no_name : o ≡ nothing → Halts I W I W m g.S (result g.xs g.S) 50 0 m
      no_name e = first_halts (result_unnamed g.xs g.S (subst (HeadIs (item g.xs 1)) e told).1)

      module _ {bytes : Bor (List ℕ)} (e : o ≡ some bytes) where
        abbrev named : List ℕ
        named = bytes.now

        name_is : (p : ℕ) × (item g.xs 1 ≡ atom p named)
        name_is = subst (HeadIs (item g.xs 1)) e told

        module _ {r : Option ℕ} (l : (M : Made) (gs : List Goal) → GoalsHeld K.goals rows n.goals M gs → r ≡ (goal_named gs named)) where
          looked : r ≡ (goal_named g.S.goals named)
          looked = l (made I W m) g.S.goals g.held

          no_goal_lem : r ≡ nothing → Halts I W I W m g.S (result g.xs g.S) 50 0 m
          no_goal_lem q = first_halts (result_unknown_lem g.xs g.S name_is.1 (sym looked ∙ q))

          module _ {k : ℕ} (q : r ≡ some k) where
            is_goal : goal_named g.S.goals named ≡ some k
            is_goal = sym looked ∙ q

            goal_there : k < n.goals
            goal_there = omega (arith, named_inside g.S.goals named k is_goal, g.held.many)

            -- what `is_taken` asks
            pub goal_asks : GoalAt rows k
            goal_asks = (goals_long g.held, omega (arith, goal_there, g.held.few))

            row : GoalRow rows lists (made I W m) g.S.goals k (goal_of g.S k)
            row = goal_row_of k g.refers.recorded g.held goal_there

            goal_taken : row_taken k ≡ true → Halts I W I W m g.S (result g.xs g.S) 50 0 m
            goal_taken v = first_halts (result_twice_lem g.xs g.S name_is.1 is_goal row.is (sym row.taken ∙ v))

            goal_open : row_taken k ≡ false → Aiming g k
            goal_open v =
                record {
                  there = goal_there;
                  row = row;
                  on = reopen (result_open g.xs g.S name_is.1 is_goal row.is (sym row.taken ∙ v));
                }
              where
                reopen : result g.xs g.S ≡ then (making (reference g.S (item g.xs 2)) g.S) (after_ref g.xs g.S k (goal_of g.S k)) →
                    Reached I W m g.S (result g.xs g.S) I W m
                    (then (making (reference g.S (item g.xs 2)) (with_made g.S (made I W m))) (after_ref g.xs g.S k (goal_of g.S k)))
                reopen e =
                    let s = reached_start g.refers.reads.good (refers_ready g.refers) g.store
                    (λ T. then (making (reference g.S (item g.xs 2)) T) (after_ref g.xs g.S k (goal_of g.S k))) in
                    record { makes = s.makes; here = e ∙ s.here }

          -- the goal is kept where its result has not come; P: what is known of the test's answer
          module _ {P : ℕ → Bool → Type 0} (tells : (k : ℕ) (b : Bool) → P k b → b ≡ not (row_taken k)) (p : Option ℕ) where
            abbrev Tested : Option ℕ → Type 0
            Tested o = MatchOption o (p ≡ nothing) (λ k. (b : Bool) × P k b × (p ≡ then_some b k))

            ends : (o : Option ℕ) → r ≡ o → Tested o → p ≡ nothing → Halts I W I W m g.S (result g.xs g.S) 50 0 m
            ends nothing e w z = no_goal_lem e
            ends (some k) e w z = go w.0 (tells k w.0 w.1) w.2
              where
                go : (b : Bool) → b ≡ not (row_taken k) → p ≡ then_some b k → Halts I W I W m g.S (result g.xs g.S) 50 0 m
                go true u v = absurd (let t : p ≡ some k = v in let q : ◌≡◌ {A = ℕ} 0 1 = cc in omega (arith, q))
                go false u v = goal_taken e (not-false (row_taken k) (sym u))

            aims : (o : Option ℕ) → r ≡ o → Tested o → {k : ℕ} → p ≡ some k → Aiming g k
            aims nothing e w {k} z = absurd (let t : p ≡ nothing = w in let q : ◌≡◌ {A = ℕ} 0 1 = cc in omega (arith, q))
            aims (some i) e w {k} z = go w.0 (tells i w.0 w.1) w.2
              where
                go : (b : Bool) → b ≡ not (row_taken i) → p ≡ then_some b i → Aiming g k
                go true u v = let t : p ≡ some i = v in let q : i ≡ k = cc in subst (Aiming g) q (goal_open e (not-true (row_taken i) (sym u)))
                go false u v = absurd (let t : p ≡ nothing = v in let q : ◌≡◌ {A = ℕ} 0 1 = cc in omega (arith, q))

            pub none_kept : Tested r → p ≡ nothing → Halts I W I W m g.S (result g.xs g.S) 50 0 m
            none_kept = ends r (λ i. r)

            pub goal_kept : Tested r → {k : ℕ} → p ≡ some k → Aiming g k
            goal_kept = aims r (λ i. r)

-- The reference ---------------------------------------------------------------------------------------------------------------------

-- what `goal_judgment` asks
pub aim_asks : {K : Names} {rows facts lists : List ℕ} {n : Sizes} {I W : List ℕ} {m : Mark} {cells : List ℕ} (g : TakesResult K rows facts lists n I W m cells)
    {k : ℕ} → Aiming g k → GoalAt rows k
aim_asks g o = (goals_long g.held, omega (arith, o.there, g.held.few))

module _ {K : Names} {rows facts lists : List ℕ} {n : Sizes} {I W : List ℕ} {m : Mark} {cells : List ℕ} (g : TakesResult K rows facts lists n I W m cells) {behind : List ℕ}
    (c : (ys : Sexps) → cells ≡ encodes ys → behind ≡ drop (place ys 2) cells) where
  abbrev pub ref_given : RefersItem K facts n I W m behind
  ref_given = refers_item g.refers (item_holds g.holds 2 (omega (arith, g.many)) c)

  module _ {k : ℕ} (o : Aiming g k) {J X : List ℕ} {new : Mark} where
    pub ref_stops : {q d : ℕ} →
        ((h : RefersItem K facts n I W m behind) → Stopped I W J X m (reference h.S h.x (made I W m)) q d new) →
        Halts I W J X m g.S (result g.xs g.S) q d new
    ref_stops b =
        reached_stopped (reference g.S (item g.xs 2)) (after_ref g.xs g.S k (goal_of g.S k)) o.on
        (reference_keeps g.S (item g.xs 2) (made I W m) (refers_ready g.refers)) (b ref_given)

    module _ {t i : ℕ} {bare : Bool}
        (b : (h : RefersItem K facts n I W m behind) → RefRead I W J X m h.S (reference h.S h.x (made I W m)) t i bare new) where
      pub ref_read : RefRead I W J X m g.S (reference g.S (item g.xs 2) (made I W m)) t i bare new
      ref_read = b ref_given

      -- what `covers` is given
      abbrev pub ref_covers : Covers rows facts lists k i
      ref_covers =
          record {
            S = g.S;
            n = n;
            trees = made I W m;
            goals = K.goals;
            footings = g.footings;
            recorded = g.refers.recorded;
            held = g.held;
            goal = o.there;
            fact = ref_early;
          }
        where
          ref_early : i < n.facts
          ref_early = omega (arith, ref_read.earlier, g.refers.recorded.many)

      reached : Reached I W m g.S (result g.xs g.S) J X new
          (after_ref g.xs g.S k (goal_of g.S k) (ref_of g.S (tree J X new t) i bare) (with_made g.S (made J X new)))
      reached =
          reached_went (reference g.S (item g.xs 2)) (after_ref g.xs g.S k (goal_of g.S k)) o.on
          (reference_keeps g.S (item g.xs 2) (made I W m) (refers_ready g.refers)) ref_read.went

      -- whether the goal lists what the reference rests on
      abbrev lists_all : List ℕ → Bool
      lists_all hs = all (λ h. listed (goal_of g.S k).hyps (entry g.S.facts h)) hs

      abbrev pub Listed : Type 0
      Listed = lists_all (rests_on g.S i bare) ≡ true

      -- an instance rests on nothing
      pub instance_listed : bare ≡ false → Listed
      unfolding rests_on all
      instance_listed e = ap (λ (z : Bool). lists_all (rests_on g.S i z)) e

      module _ (e : bare ≡ true) {y : Bool} (z : (h : Covers rows facts lists k i) → y ≡ all (λ x. listed (goal_of h.S k).hyps (entry h.S.facts x)) (fact_of h.S i).hyps) where
        bare_listed : lists_all (rests_on g.S i bare) ≡ y
        unfolding rests_on
        bare_listed = ap (λ (z : Bool). lists_all (rests_on g.S i z)) e ∙ sym (z ref_covers)

        pub covered : not y ≡ false → Listed
        covered v = bare_listed ∙ not-false y v

        pub not_covered : not y ≡ true → Halts I W J X m g.S (result g.xs g.S) 51 0 new
        not_covered v =
            reached_halts reached (end_51 k (with_made g.S (made J X new)) (same_tree (tree J X new t) (goal_of g.S k).judgment) (bare_listed ∙ not-true y v))

      module _ (v : Listed) {j : ℕ} (w : j ≡ cell 6 rows k 2) where
        old : cell 6 rows k 2 < m.terms
        old = omega (arith, o.row.judgment.below, made_length I W m)

        goal_tree : (goal_of g.S k).judgment ≡ tree J X new (cell 6 rows k 2)
        goal_tree = sym (grown_tree ref_read.went.grown (cell 6 rows k 2) old ∙ o.row.judgment.tree)

        compared : same_tree (tree J X new t) (goal_of g.S k).judgment ≡ eqb t j
        compared =
            ap (same_tree (tree J X new t)) goal_tree
            ∙ same_number ref_read.went.grown.good t (cell 6 rows k 2) ref_read.there (grown_there ref_read.went.grown (cell 6 rows k 2) old)
            ∙ ap (eqb t) (sym w)

        pub other_judgment_lem : (t ≡ j → ⊥) → Halts I W J X m g.S (result g.xs g.S) 52 0 new
        other_judgment_lem d = reached_halts reached (end_52 k (with_made g.S (made J X new)) v (compared ∙ ne_eqb t j d))

        pub result_comes : t ≡ j → GoalMet n I W J X m g.S (result g.xs g.S) k new
        result_comes d =
            record {
              makes = reached.makes;
              goal = o.there;
              is = reached.here ∙ end_taken k (with_made g.S (made J X new)) v (compared ∙ eq-eqb t j d);
            }

-- The row ---------------------------------------------------------------------------------------------------------------------------

module _ {K : Names} {rows facts lists : List ℕ} {n : Sizes} {I W : List ℕ} {m : Mark} {cells : List ℕ} (g : TakesResult K rows facts lists n I W m cells) {J X : List ℕ} {k : ℕ}
    {new : Mark} (f : (h : TakesResult K rows facts lists n I W m cells) → GoalMet n I W J X m h.S (result h.xs h.S) k new) where
  -- what `take_goal` asks
  pub met_asks : GoalAt rows k
  met_asks = let z = f g in (goals_long g.held, omega (arith, z.goal, g.held.few))

  pub result_taken : {after : List ℕ} → after ≡ set rows (6 * k + 5) 1 → ResultTaken rows after n I W J X m g.S (result g.xs g.S) new
  result_taken p = let z = f g in record { makes = z.makes; k = k; goal = z.goal; is = z.is; rows_are = p }
