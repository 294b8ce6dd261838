-- The forms of the goals: each keeps a state good, no fact comes and no goal is taken. Of a well state.
use Rattle.std.specs.Prelude.{ℕ, ◌+◌, refl, false, [], ◌∷◌, ltb, leb, length}
use Rattle.std.proofs.Common.{arith, ap, inl, inr}
use Rattle.rules.specs.Limits.{GOALS, ENTRIES}
use Rattle.rules.specs.Out.{Out, ok, refuse, then}
use Rattle.rules.specs.Sexp.{Sexp, Sexps, count, item, Text, ends, fails, more}
use Rattle.rules.specs.Find.{entry}
use Rattle.rules.specs.Tree.{Tree, Trees, none, count_trees}
use Rattle.rules.specs.Store.{Made}
use Rattle.rules.specs.Theory.{Theory}
use Rattle.rules.specs.Declare.{is_new}
use Rattle.rules.specs.State.{State, Goal, begin as start, goal_named, abbreviated, entries}
use Rattle.rules.specs.Read.{judgment, judgments}
use Rattle.rules.specs.Tags.{GoalForm, a_variable, a_goal, a_goal_with, goal_form}
use Rattle.rules.specs.Forms.{with_made, add_goal, goal, take_goal}
use Rattle.rules.specs.Laws.Entry.{entry_front, entry_snoc}
use Rattle.meaning.specs.Trees.Tests.{true_false}
use Rattle.meaning.specs.Unification.Acts.{ok_any}
use Rattle.meaning.specs.Truth.{At}
use Rattle.meaning.specs.Lemmas.Forms.{begin}
use Rattle.meaning.specs.Sets.{Sets}
use Rattle.meaning.specs.Bridge.Asked.{no_some}
use Rattle.meaning.specs.Bridge.Well.{WellTheory, Agree, extends_same}
use Rattle.meaning.specs.Bridge.Ends.{Ends, done, keeping, keeps_ask, keeps_room, keeps_found, keeps_name, keeps_items, making_then}
use Rattle.meaning.proofs.Bridge.Took.{Post}
use Rattle.meaning.proofs.Bridge.Proof.{add-var-ok}
use Rattle.meaning.specs.Runs.{IfTaken, Throughout}
use Rattle.meaning.proofs.Bridge.Run.{Good}

-- nothing is asked of a form of the goals
abbrev pub Anything : State → Sexp → Type 0
Anything S x = Unit {0}

add_goal_ok : (K : Sets) (x : Sexp) (hs : Trees) (j : Tree) (S : State) (m : Made)
    → Ends (λ _ S'. Post K (λ k i. ⊥) (Unit {0}) S S') (add_goal x hs j (with_made S m))
unfolding add_goal then
add_goal_ok K x hs j S m =
    keeping _ (keeps_name 24 x (with_made S m)) (λ n _.
    keeping _ (keeps_ask 24 (is_new (goal_named S.goals n.bytes)) (with_made S m)) (λ _ _.
    keeping _ (keeps_room 11 (ltb (length S.goals) GOALS) (with_made S m)) (λ _ _.
    keeping _ (keeps_room 13 (leb (entries (with_made S m) + count_trees hs) ENTRIES) (with_made S m)) (λ _ _.
    done (record {
      kept = record { theory = refl; vars = extends_same S.vars };
      took = λ vs w _ _. record {
        well = record { rules = w.rules; agree = w.agree; defs = w.defs; facts = w.facts };
        facts = inl refl;
        goals = λ i g q t. elim (entry_snoc S.goals (record { name = n; judgment = j; hyps = hs; taken = false }) i g q) [
          | inl p ↦ inl p
          | inr p ↦ absurd (true_false g.taken t (ap (λ (z : Goal). z.taken) p.1))
        ];
        settles = λ k i b. absurd b;
        stays = λ k g q. (g, entry_front S.goals (record { name = n; judgment = j; hyps = hs; taken = false } ∷ []) k g q, refl, refl);
      };
    })))))

goal_ok : (K : Sets) (g : GoalForm) (xs : Sexps) (S : State) → Ends (λ _ S'. Post K (λ k i. ⊥) (Unit {0}) S S') (goal g xs S)
unfolding goal then
goal_ok K a_variable xs S = add-var-ok K (λ k i b. b) (Unit {0}) 2 xs S
goal_ok K a_goal xs S =
    making_then (judgment S (item xs 2)) S _ (ok_any (judgment S (item xs 2) S.made)) (λ j m _. add_goal_ok K (item xs 1) none j S m)
goal_ok K a_goal_with xs S =
    making_then (judgments S (item xs 2)) S _ (ok_any (judgments S (item xs 2) S.made)) (λ hs m _.
    making_then (judgment S (item xs 3)) (with_made S m) _ (ok_any (judgment S (item xs 3) m)) (λ j m₁ _. add_goal_ok K (item xs 1) hs j S m₁))

pub take_goal_ok : (K : Sets) (x : Sexp) (S : State) → Ends (λ _ S'. Post K (λ k i. ⊥) (Anything S x) S S') (take_goal x S)
unfolding take_goal
take_goal_ok K x S =
    keeping _ (keeps_items 20 x S) (λ xs _.
    keeping _ (keeps_name 20 (item xs 0) S) (λ n _.
    keeping _ (keeps_found 20 (goal_form n.bytes (count xs)) S) (λ g _. goal_ok K g xs S)))

pub anything : (t : Text) (S : State) → Throughout Anything take_goal t S
unfolding Throughout IfTaken
anything ends S = tt
anything (fails n) S = tt
anything (more x p t) S = go (take_goal x S) (λ u. anything t u)
  where
    go : (o : Out State (Unit {0})) → ((u : State) → Throughout Anything take_goal t u) → IfTaken (Unit {0}) (λ u. Throughout Anything take_goal t u) o
    go (ok a u) r = (tt, r u)
    go (refuse n d u) r = tt

-- The goals of a text ---------------------------------------------------------------------------------------------------------------

-- before the goals
pub start_good : (K : Sets) (T : Theory) → WellTheory T → (vs : ℕ → ℕ) → Good K T vs (start T)
unfolding Agree abbreviated At entry
start_good K T w vs = record {
  theory = refl;
  well = record {
    rules = w;
    agree = λ v l. absurd (let z : ⊥ = omega arith in z);
    defs = λ x t e. absurd (no_some e);
    facts = λ i f a. absurd a;
  };
  run = begin;
  goals = λ i g e t. absurd (no_some e);
}
