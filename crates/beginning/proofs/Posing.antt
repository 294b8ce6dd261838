-- What a form of the goals keeps: nothing is proved, and every variable is declared in the goals. Assumes nothing.
use mathlib.Core.Path.{◌≡◌, refl, ◌∙◌}
use mathlib.Core.Bool.{◌&&◌, not}
use mathlib.Core.List.{List}
use Prim.Native.Nat.{ℕ, ◌+◌}
use lib.Dec.{leb, ltb}
use lib.ListN.{length}
use Rattle.rules.specs.Limits.{VARIABLES, GOALS, ENTRIES}
use Rattle.rules.specs.Out.{Out, ok, refuse, then, Act}
use Rattle.rules.specs.Sexp.{Sexp, Sexps, count, item, marked}
use Rattle.rules.specs.Tags.{GoalForm, a_variable, a_goal, a_goal_with, goal_form}
use Rattle.rules.specs.Tree.{Tree, Trees, none, count_trees}
use Rattle.rules.specs.Store.{Made}
use Rattle.rules.specs.Theory.{sort_named, constructor_named, predicate_named}
use Rattle.rules.specs.Declare.{is_new}
use Rattle.rules.specs.State.{State, begin, var_named, goal_named, entries}
use Rattle.rules.specs.Read.{judgment, judgments}
use Rattle.rules.specs.Forms.{with_made, making, add_var, add_goal, goal, take_goal}
use Rattle.rules.specs.Laws.Out.{Ok, fine, off, of_ok, by_name, by_items, by_ask, by_room, by_found}
use Rattle.rules.specs.Laws.Theory.{All, empty, all_snoc}
use Rattle.rules.proofs.Laws.Form.{go_on}
use Rattle.rules.proofs.Laws.Appends.{take_goal_appends}
use Rattle.rules.proofs.Laws.Bounded.{begins_bounded, take_goal_checked}
use Rattle.kernel.specs.Layout.{verdict_formed}
use Rattle.beginning.specs.Posed.{theory_in, Fresh}

-- Variables --------------------------------------------------------------------------------------------------------------------------

abbrev InGoals : State → Type 0
InGoals S = All (λ v. v.text ≡ 2) S.vars

abbrev Keeps : Out State (Unit {0}) → Type 0
Keeps o = Ok (λ a U. InGoals U) o

module _ {A B : Type 0} {P : B → State → Type 0} where
  told_making : (S : State) (f : A → State → Out State B) (o : Out Made A) → ((a : A) (u : Made) → Ok P (f a (with_made S u))) →
      Ok P (then (elim o [ ok a u ↦ ok a (with_made S u) | refuse n d u ↦ refuse n d (with_made S u) ]) f)
  unfolding then
  told_making S f (ok a u) k = k a u
  told_making S f (refuse n d u) k = off

  -- trees are made
  by_making : (act : Act Made A) (S : State) (f : A → State → Out State B) → ((a : A) (u : Made) → Ok P (f a (with_made S u))) →
      Ok P (then (making act S) f)
  unfolding making
  by_making act S f k = told_making S f (act S.made) k

add_var_keeps : (xs : Sexps) (S : State) → InGoals S → Keeps (add_var 2 xs S)
unfolding add_var
add_var_keeps xs S h =
    go_on _ (by_name 21 (item xs 1) S _ λ n e. by_name 21 (item xs 2) S _ λ s e.
    by_found 21 (sort_named S.theory s.bytes) S _ λ k e.
    by_ask 21 (not (marked n.bytes) && (is_new (constructor_named S.theory n.bytes)
    && (is_new (predicate_named S.theory n.bytes) && is_new (var_named S.vars n.bytes)))) S _ λ e.
    by_room 7 (ltb (length S.vars) VARIABLES) S _ λ e. fine (all_snoc h refl))

add_goal_keeps : (x : Sexp) (hs : Trees) (j : Tree) (S : State) → InGoals S → Keeps (add_goal x hs j S)
unfolding add_goal
add_goal_keeps x hs j S h =
    go_on _ (by_name 24 x S _ λ n e. by_ask 24 (is_new (goal_named S.goals n.bytes)) S _ λ e.
    by_room 11 (ltb (length S.goals) GOALS) S _ λ e. by_room 13 (leb (entries S + count_trees hs) ENTRIES) S _ λ f. fine h)

goal_keeps : (t : GoalForm) (xs : Sexps) (S : State) → InGoals S → Keeps (goal t xs S)
unfolding goal
goal_keeps a_variable xs S h = add_var_keeps xs S h
goal_keeps a_goal xs S h = go_on _ (by_making (judgment S (item xs 2)) S _ λ j u. add_goal_keeps (item xs 1) none j (with_made S u) h)
goal_keeps a_goal_with xs S h =
    go_on _ (by_making (judgments S (item xs 2)) S _ λ hs u. by_making (judgment S (item xs 3)) (with_made S u) _ λ j w.
    add_goal_keeps (item xs 1) hs j (with_made S w) h)

take_goal_keeps : (x : Sexp) (S : State) → InGoals S → Keeps (take_goal x S)
unfolding take_goal
take_goal_keeps x S h =
    by_items 20 x S _ λ xs e. by_name 20 (item xs 0) S _ λ a e. by_found 20 (goal_form a.bytes (count xs)) S _ λ t e. goal_keeps t xs S h

-- All ----------------------------------------------------------------------------------------------------------------------------------

pub fresh_first : (theory : List ℕ) → Fresh (begin (theory_in theory))
fresh_first theory =
    record {
      checked = record { theory = verdict_formed theory; bounded = begins_bounded (theory_in theory) };
      facts = refl;
      defs = refl;
      vars = empty;
      counts = refl;
    }

pub fresh_on : (x : Sexp) (S U : State) → take_goal x S ≡ ok tt U → Fresh S → Fresh U
fresh_on x S U e f =
    let a = take_goal_appends x S U e in
    record {
      checked = of_ok (take_goal_checked x S f.checked) e;
      facts = a.facts ∙ f.facts;
      defs = a.defs ∙ f.defs;
      vars = of_ok (take_goal_keeps x S f.vars) e;
      counts = a.counts ∙ f.counts;
    }
