-- What is claimed of the definition, stated alone. The words are defined in specs: Theorems, Signature (ground terms), Derivation, Truth, Named (the
-- premise, and what a result names), Sets, Runs (a list of forms gone through) and Inversions.
--
--     facts_and_goals        demand 3 up to its last sentence, one claim about a list of forms, with one premise: every recorded fact is true
--                            and every goal that was taken is derivable; facts_true and goals_derivable are its parts
--     facts_and_goals_firm   the same with two sets of rules for each fact, those on which it rests and those that it tolerates, a goal's being
--                            those of the fact that its result names; facts_firm and goals_firm are its parts
--     check_right            the same of the facts and goals that a whole check leaves, whatever it answers
--     accepted_derivable     the goals of an accepted check are derivable
--     inversions_complete    unification fails only where no unifier exists, in every inversion that a check comes to
--
-- They rule out a checker that checks the first form and waves the rest through, that drops a hypothesis, that lets a variable of an empty
-- sort stand in a premise, that pairs cases by their number only, that renames a rule by a variable in use, or that unifies without the
-- occurs check: each records some fact that is not true. A checker that records no fact is ruled out by the definition itself, whose
-- answers `rules` fixes; TheoremsHold shows a goal that is taken, and what the claim says of it.
--
-- The other theorems stand where their words do:
--     derivation_accepted, tree_accepted   (Writing) a written derivation is accepted, unless 2, 5 or 60 refuses it
--     unify_general, unify_sorted          (Unification/Right) what unification finds is most general and well-sorted
--     examples                             (Examples of `rules`) the worked examples hold
use Rattle.std.specs.Prelude.{ℕ, ◌≡◌, refl, true, List, Some as some, None as nothing}
use Rattle.std.proofs.Common.{sym, ◌∙◌, subst, inl, inr}
use Rattle.rules.specs.Out.{ok}
use Rattle.rules.specs.Sexp.{Sexps, Text}
use Rattle.rules.specs.Find.{entry}
use Rattle.rules.specs.Tree.{Tree, Trees, none, sub}
use Rattle.rules.specs.Store.{Made}
use Rattle.rules.specs.Unify.{unify}
use Rattle.rules.specs.Theory.{Theory}
use Rattle.rules.specs.State.{State, Fact, Goal}
use Rattle.rules.specs.Check.{Report, accepts, check}
use Rattle.meaning.specs.Trees.Tree.{Among}
use Rattle.meaning.specs.Derivation.{RuleOf, Derivable}
use Rattle.meaning.specs.Truth.{At, True}
use Rattle.meaning.specs.Named.{RuleHyp}
use Rattle.meaning.specs.Sets.{Sets, of_theory, Within}
use Rattle.meaning.specs.Inversions.{Comes}
use Rattle.meaning.specs.Bridge.Well.{Agree}
use Rattle.meaning.specs.Bridge.Unified.{comes_complete}
use Rattle.meaning.specs.Runs.{Taken, after, Calmly, Respectful, CalmTexts, Results}
use Rattle.meaning.specs.Bridge.Asked.{some_same}
use Rattle.meaning.proofs.Bridge.Took.{Settled}
use Rattle.meaning.proofs.Bridge.Run.{Passed, good_true, good_goal}
use Rattle.meaning.proofs.Bridge.Check.{theory_respected, taken_good, taken_fresh, taken_theory, after_bounded, proof_passed, check_good, AllTaken, accepted_taken}
use Rattle.meaning.specs.Theorems.{sorts_of, Grounds, Follows, Right, Suffices, Firm}

-- Demand 3 --------------------------------------------------------------------------------------------------------------------------

-- K: two sets of rules for each fact, those on which it rests and those that it tolerates, as every form respects them. For a theory and
-- goals that are taken, after every list of proof forms gone through, a refused one at the end included: if no reference and no case of a
-- form taken names a rule hypothesis with premises, all is firm. A footing that reaches through references, applied facts and cases is such
-- a set, so that fewer rules suffice for a fact; with the theory's rules for all sets it is `facts_and_goals`.
pub facts_and_goals_firm : (theory goals : List ℕ) (T : Theory) (S : State) → Taken theory goals T S → (K : Sets) → Within K T
    → (forms : Text) → Calmly forms S → Respectful K forms S → Firm K T S forms
unfolding Agree
facts_and_goals_firm theory goals T S t K w forms c r = record {
  facts = λ i f a n R s. good_true K T w (sorts_of (after forms S)) (after forms S) passed.good i f a n R s.mine s.theirs;
  goals = λ k g e i b R s. (let q = passed.settled k i b in
      good_goal K T w (sorts_of (after forms S)) (after forms S) passed.good i g
      (subst (λ z. Settled K T (sorts_of (after forms S)) (after forms S).facts i z) (some_same (sym q.1 ∙ e)) q.2) R s.mine s.theirs);
  taken = λ k g e q. elim (passed.taken k g e q) [ inl p ↦ absurd (taken_fresh theory goals T S t k g p q) | inr p ↦ p ];
}
  where
    passed : Passed K T (sorts_of (after forms S)) (Results forms S) S (after forms S)
    passed =
        proof_passed K T w S (taken_theory theory goals T S t) (λ us a. taken_good theory goals T S t K us a) forms c r (sorts_of (after forms S)) (λ v l. refl)

-- the theory's rules suffice for every fact
all_suffice : (T : Theory) (i : ℕ) → Suffices (of_theory T) i (RuleOf T)
all_suffice T i = record { mine = λ r k. k; theirs = λ r k. k }

-- Demand 3 up to its last sentence, of a list of forms behind a theory and goals that are taken, with its premise
pub facts_and_goals : (theory goals : List ℕ) (T : Theory) (S : State) → Taken theory goals T S → (forms : Text) → Calmly forms S → Right T (after forms S)
facts_and_goals theory goals T S t forms c = record {
  facts = λ i f a n. firm.facts i f a n (RuleOf T) (all_suffice T i);
  goals = λ k g e q. (let b = firm.taken k g e q in firm.goals k g e b.0 b.1 (RuleOf T) (all_suffice T b.0));
}
  where
    firm : Firm (of_theory T) T S forms
    firm = facts_and_goals_firm theory goals T S t (of_theory T) (λ n r k. k) forms c (theory_respected T forms S (taken_theory theory goals T S t))

-- Its parts -------------------------------------------------------------------------------------------------------------------------

pub facts_firm : (theory goals : List ℕ) (T : Theory) (S : State) → Taken theory goals T S → (K : Sets) → Within K T
    → (forms : Text) → Calmly forms S → Respectful K forms S
    → (i : ℕ) (f : Fact) → At (after forms S).facts i f → ¬ (RuleHyp f) → (R : ℕ → Type 0) → Suffices K i R
    → True T (sorts_of (after forms S)) R (after forms S).facts f
facts_firm theory goals T S t K w forms c r = (facts_and_goals_firm theory goals T S t K w forms c r).facts

-- i: the fact that the goal's result names
pub goals_firm : (theory goals : List ℕ) (T : Theory) (S : State) → Taken theory goals T S → (K : Sets) → Within K T
    → (forms : Text) → Calmly forms S → Respectful K forms S
    → (k : ℕ) (g : Goal) → entry (after forms S).goals k ≡ some g → (i : ℕ) → Results forms S k i → (R : ℕ → Type 0) → Suffices K i R
    → Follows T R (after forms S) g
goals_firm theory goals T S t K w forms c r = (facts_and_goals_firm theory goals T S t K w forms c r).goals

-- Every recorded fact other than a rule hypothesis with premises is true.
pub facts_true : (theory goals : List ℕ) (T : Theory) (S : State) → Taken theory goals T S → (forms : Text) → Calmly forms S
    → (i : ℕ) (f : Fact) → At (after forms S).facts i f → ¬ (RuleHyp f)
    → True T (sorts_of (after forms S)) (RuleOf T) (after forms S).facts f
facts_true theory goals T S t forms c = (facts_and_goals theory goals T S t forms c).facts

nothing_listed : (ts : Trees) → ts ≡ none → (t : Tree) → ¬ (Among t ts)
unfolding Among
nothing_listed ts e t i = subst (λ us. Among t us) e i

-- Every goal with its result taken and without listed judgments is derivable in every ground instance.
pub goals_derivable : (theory goals : List ℕ) (T : Theory) (S : State) → Taken theory goals T S → (forms : Text) → Calmly forms S
    → (k : ℕ) (g : Goal) → entry (after forms S).goals k ≡ some g → g.taken ≡ true → g.hyps ≡ none
    → (γ : ℕ → Tree) → Grounds T (after forms S) g γ → Derivable T (sub γ g.judgment)
goals_derivable theory goals T S t forms c k g e q n γ v =
    (facts_and_goals theory goals T S t forms c).goals k g e q γ v (λ t i. absurd (nothing_listed g.hyps n t i))

-- Unification -----------------------------------------------------------------------------------------------------------------------

-- For a theory and goals that are taken, behind any list of forms, calm or not, taken or refused: where an inversion comes to unify a
-- hypothesis with a rule's conclusion and finds nothing, no replacement makes them equal. This rules out that a rule is passed over, or a
-- case refused by 46, because the number of variables was too low for the steps.
pub inversions_complete : (theory goals : List ℕ) (T : Theory) (S : State) → Taken theory goals T S → (forms : Text)
    → (xs : Sexps) (n : ℕ) (s t : Tree) (m m' : Made) → Comes (after forms S) xs n s t m → unify n s t m ≡ ok nothing m'
    → (σ : ℕ → Tree) → ¬ (sub σ s ≡ sub σ t)
inversions_complete theory goals T S k forms = comes_complete (after forms S) (after_bounded theory goals T S k forms)

-- The whole check -------------------------------------------------------------------------------------------------------------------

-- All is right that a check leaves, whether it accepts or refuses, and in whichever text
pub check_right : (theory goals proof : List ℕ) → CalmTexts theory goals proof
    → let S = (check theory goals proof).state in Right S.theory S
unfolding Agree
check_right theory goals proof c =
    let S = (check theory goals proof).state in
    let g = check_good theory goals proof c (sorts_of S) (λ v l. refl) in
    record {
      facts = λ i f a n. good_true (of_theory S.theory) S.theory (λ n r k. k) (sorts_of S) S g i f a n (RuleOf S.theory) (λ r k. k) (λ r k. k);
      goals = λ k h e t. (let s = g.goals k h e t in
          good_goal (of_theory S.theory) S.theory (λ n r k. k) (sorts_of S) S g s.0 h s.1 (RuleOf S.theory) (λ r k. k) (λ r k. k));
    }

-- The facts that a check leaves are true
pub check_facts_true : (theory goals proof : List ℕ) → CalmTexts theory goals proof
    → let S = (check theory goals proof).state in
    (i : ℕ) (f : Fact) → At S.facts i f → ¬ (RuleHyp f) → True S.theory (sorts_of S) (RuleOf S.theory) S.facts f
check_facts_true theory goals proof c = (check_right theory goals proof c).facts

-- The goals of an accepted check are derivable, under each ground replacement under which the judgments that they list are
pub accepted_derivable : (theory goals proof : List ℕ) → CalmTexts theory goals proof → (r : Report) → (check theory goals proof).answer ≡ accepts r
    → let S = (check theory goals proof).state in
    (k : ℕ) (g : Goal) → entry S.goals k ≡ some g → Follows S.theory (RuleOf S.theory) S g
unfolding AllTaken
accepted_derivable theory goals proof c r e k g q = (check_right theory goals proof c).goals k g q (accepted_taken theory goals proof r e k g q)
