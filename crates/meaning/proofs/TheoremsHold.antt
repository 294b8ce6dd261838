-- The theorems are not empty. Example A: its texts are taken, its premise holds, and what `goals_derivable` says of it is that `Child t`
-- is derivable for every ground term t of sort Pass, and `goals_firm` that the rules c0 and c1 suffice. Example G: its texts are accepted
-- though the goal `Bad first` is not derivable, so the premise of the theorems is needed; it does not hold of G, and the hypothesis that G
-- names is not true itself. A run that is calm although rule hypotheses with premises stand in places that do not count. Example I:
-- a unification that finds nothing. Assumes nothing.
use Rattle.std.specs.Prelude.{ℕ, zero, suc, ◌≡◌, refl, ◌⊎◌, true, false, List, [], ◌∷◌, ◌++◌, Some as some, None as nothing}
use Rattle.std.proofs.Common.{arith, sym, ◌∙◌, ap, subst, inl, inr}
use Rattle.rules.specs.Out.{ok}
use Rattle.rules.specs.Text.{bytes}
use Rattle.rules.specs.Sexp.{Sexps, atom, list, nil, Text, ends, fails, more, read}
use Rattle.rules.specs.Tags.{a_result}
use Rattle.rules.specs.Find.{entry}
use Rattle.rules.specs.Tree.{Tree, var, app, none, more as more_trees, sub}
use Rattle.rules.specs.Store.{Made}
use Rattle.rules.specs.Unify.{unify}
use Rattle.rules.specs.Theory.{Theory, no_name, no_theory, rule}
use Rattle.rules.specs.Declare.{declare}
use Rattle.rules.specs.Laws.Declare.{reached}
use Rattle.rules.specs.Laws.Reached.{end_of}
use Rattle.rules.specs.State.{State, Fact, Goal, begin}
use Rattle.rules.specs.Loop.{whole}
use Rattle.rules.specs.Forms.{take_goal}
use Rattle.rules.specs.Run.{line, running}
use Rattle.rules.specs.Examples.{theory}
use Rattle.meaning.specs.Trees.Tree.{Occ, Occs, In, Among}
use Rattle.meaning.specs.Trees.Tests.{true_false}
use Rattle.meaning.specs.Signature.{sig, Value}
use Rattle.meaning.specs.Derivation.{Der, node, RuleOf, Derivable}
use Rattle.meaning.specs.Truth.{At, HypOf, Needs, Free, Mentions, Holds, Gives, Entails, True}
use Rattle.meaning.specs.Lemmas.Sound.{ders_in}
use Rattle.meaning.specs.Named.{Points, Refers, tag_of, RuleHyp, GoalAt, ResultAs, ResultOf}
use Rattle.meaning.specs.Bridge.Asked.{at_unique}
use Rattle.meaning.specs.Runs.{Taken, after, OrLater, Somewhere, Calmly, Results}
use Rattle.meaning.proofs.Premise.{throughout, calm, calm_run, resting, respects, respectful_run, testing}
use Rattle.meaning.specs.Inversions.{asked, first_names, tried, Turn, Comes}
use Rattle.meaning.specs.Theorems.{sorts_of}
use Rattle.meaning.proofs.Theorems.{facts_firm, goals_firm, facts_true, goals_derivable, inversions_complete}

-- Example A -------------------------------------------------------------------------------------------------------------------------

abbrev goals_a : List ℕ
goals_a = bytes "(var x Pass) (goal g (Child x))"

abbrev proof_a : List ℕ
proof_a = bytes "(var y Pass) (step 0 c0 ()) (hyp 1 (Child y)) (step 2 c1 (1)) (induct 3 x (Child x) ((0) (2 y))) (result g 3)"

unfoldable pub T : Theory
T = reached (whole declare (read theory) no_theory)

unfoldable pub S : State
S = end_of (whole take_goal (read goals_a) (begin T))

taken_a : Taken theory goals_a T S
unfolding running T S reached end_of
taken_a = record { theory_forms = 13; theory_taken = refl; goal_forms_lem = 2; goals_taken = refl }

test_a : throughout calm (read proof_a) S ≡ true
unfolding running T S reached end_of testing
test_a = refl

calm_a : Calmly (read proof_a) S
calm_a = calm_run (read proof_a) S test_a

-- `Child` is symbol 2, and sort 1 is Pass
abbrev Child : Tree → Tree
Child t = app 2 (more_trees t none)

abbrev Pass : ℕ
Pass = 1

-- its goal, behind its forms
abbrev goal_a : Goal
goal_a = record { name = record { start = 19; bytes = bytes "g" }; judgment = Child (var 0); hyps = none; taken = true }

goal_taken : entry (after (read proof_a) S).goals 0 ≡ some goal_a
unfolding running T S reached end_of after
goal_taken = refl

sort_of_x : sorts_of (after (read proof_a) S) 0 ≡ Pass
unfolding running T S reached end_of after
sort_of_x = refl

only_x : (w : ℕ) → Occ w (Child (var 0)) ⊎ Occs w none → w ≡ 0
unfolding Occ
only_x w (inl (inl e)) = e
only_x w (inl (inr e)) = absurd e
only_x w (inr e) = absurd e

-- what the theorem gives for it
pub child : (t : Tree) → Value (sig T) t Pass → Derivable T (Child t)
unfolding sub
child t v = goals_derivable theory goals_a T S taken_a (read proof_a) calm_a 0 goal_a goal_taken refl refl (λ _. t) (λ w o. sorted w (only_x w o))
  where
    sorted : (w : ℕ) → w ≡ 0 → Value (sig T) t (sorts_of (after (read proof_a) S) w)
    sorted w e = subst (λ s. Value (sig T) t s) (sym (ap (sorts_of (after (read proof_a) S)) e ∙ sort_of_x)) v

-- Its footings, which reach through references and cases: fact 3 rests on c0 and c1 alone
footings : ℕ → List ℕ
footings zero = 0 ∷ []
footings (suc zero) = []
footings (suc (suc zero)) = 1 ∷ []
footings (suc (suc (suc n))) = 0 ∷ 1 ∷ []

respects_a : throughout (respects footings) (read proof_a) S ≡ true
unfolding running T S reached end_of testing footings
respects_a = refl

-- its result, the sixth form, names fact 3
result_a : Results (read proof_a) S 0 3
unfolding running T S reached end_of Somewhere OrLater ResultOf tag_of ResultAs GoalAt Refers Points
result_a = inr (inr (inr (inr (inr (inl (a_result, refl, (refl, refl)))))))

two_rules : (r : ℕ) → In r (0 ∷ 1 ∷ []) → RuleOf T r
unfolding running T reached In
two_rules r (inl e) = omega arith
two_rules r (inr (inl e)) = omega arith
two_rules r (inr (inr e)) = absurd e

-- what `goals_firm` gives for it: these two rules suffice
pub child_by_two : (t : Tree) → Value (sig T) t Pass → Der T (λ r. In r (0 ∷ 1 ∷ [])) (Child t)
unfolding sub Among footings
child_by_two t v =
    goals_firm theory goals_a T S taken_a (resting T footings) (λ n r k. k) (read proof_a) calm_a (respectful_run T footings (read proof_a) S respects_a)
    0 goal_a goal_taken 3 result_a (λ r. In r (0 ∷ 1 ∷ [])) (record { mine = λ r k. k; theirs = two_rules }) (λ _. t) (λ w o. sorted w (only_x w o)) (λ u i. absurd i)
  where
    sorted : (w : ℕ) → w ≡ 0 → Value (sig T) t (sorts_of (after (read proof_a) S) w)
    sorted w e = subst (λ s. Value (sig T) t s) (sym (ap (sorts_of (after (read proof_a) S)) e ∙ sort_of_x)) v

-- Example G -------------------------------------------------------------------------------------------------------------------------

abbrev goals_g : List ℕ
goals_g = bytes "(var x Pass) (var y Pass) (goal g (Bad first))"

abbrev proof_g : List ℕ
proof_g =
    bytes "(hyp 0 (Adult x)) (hyp 1 (Adult first)) (invert 2 1 () (Bad first) ()) (hyp 3 ((Adult y)) (Bad first) ()) (induct 4 x (0) (Bad first) ((2) (3 y))) (step 5 a1 ()) (apply 6 4 ((x (renew first))) (5)) (result g 6)"

-- `Bad` is symbol 4, `first` is 0
abbrev bad_first : Tree
bad_first = app 4 (more_trees (app 0 none) none)

head : Tree → ℕ
head (var v) = 0
head (app c ts) = c

-- no rule concludes it
not_derivable : (j : Tree) → Derivable T j → head j ≡ 4 → ⊥
unfolding running T reached head sub
not_derivable j (node zero ρ k u v ds e) q = let z : ◌≡◌ {A = ℕ} 2 4 = ap head e ∙ q in omega arith
not_derivable j (node (suc zero) ρ k u v ds e) q = let z : ◌≡◌ {A = ℕ} 2 4 = ap head e ∙ q in omega arith
not_derivable j (node (suc (suc zero)) ρ k u v ds e) q = let z : ◌≡◌ {A = ℕ} 3 4 = ap head e ∙ q in omega arith
not_derivable j (node (suc (suc (suc zero))) ρ k u v ds e) q = let z : ◌≡◌ {A = ℕ} 5 4 = ap head e ∙ q in omega arith
not_derivable j (node (suc (suc (suc (suc r)))) ρ k u v ds e) q = omega arith

-- the check accepts the goal all the same
pub premise_needed : (line theory goals_g proof_g ≡ 1 ∷ 7 ∷ 1 ∷ 0 ∷ 3 ∷ 1 ∷ 1 ∷ 0 ∷ []) × ¬ (Derivable T bad_first)
unfolding running head
premise_needed = (refl, λ d. not_derivable bad_first d refl)

unfoldable pub SG : State
SG = end_of (whole take_goal (read goals_g) (begin T))

taken_g : Taken theory goals_g T SG
unfolding running T SG reached end_of
taken_g = record { theory_forms = 13; theory_taken = refl; goal_forms_lem = 3; goals_taken = refl }

abbrev goal_g : Goal
goal_g = record { name = record { start = 32; bytes = bytes "g" }; judgment = bad_first; hyps = none; taken = true }

goal-G : entry (after (read proof_g) SG).goals 0 ≡ some goal_g
unfolding running T SG reached end_of after
goal-G = refl

no_variable : (v : ℕ) → Occ v bad_first ⊎ Occs v none → ⊥
unfolding Occ
no_variable v (inl (inl o)) = o
no_variable v (inl (inr o)) = o
no_variable v (inr o) = o

-- so the premise does not hold of it: the second case of its induction names the rule hypothesis
pub not_calm : ¬ (Calmly (read proof_g) SG)
unfolding sub head
not_calm c =
    not_derivable bad_first
    (goals_derivable theory goals_g T SG taken_g (read proof_g) c 0 goal_g goal-G refl refl (λ _. app 0 none) (λ v o. absurd (no_variable v o))) refl

-- Why such a hypothesis is not claimed to be true -------------------------------------------------------------------------------------

-- the hypothesis of example G: Bad first, if Adult y
abbrev hyp_g : Fact
hyp_g = record { judgment = bad_first; hyps = 3 ∷ []; assumed = true; premises = more_trees (app 3 (more_trees (var 1) none)) none; general = []; footing = [] }

recorded : At (after (read proof_g) SG).facts 3 hyp_g
unfolding running T SG reached end_of after At
recorded = refl

sort_of_y : sorts_of (after (read proof_g) SG) 1 ≡ Pass
unfolding running T SG reached end_of after
sort_of_y = refl

argument : Tree → ℕ
argument (var v) = 9
argument (app c none) = 9
argument (app c (more_trees t ts)) = head t

-- `Adult` is symbol 3: only `Adult (renew first)` is derivable
not_adult : (j : Tree) → Derivable T j → head j ≡ 3 → argument j ≡ 0 → ⊥
unfolding running T reached head argument sub
not_adult j (node zero ρ k u v ds e) q p = let z : ◌≡◌ {A = ℕ} 2 3 = ap head e ∙ q in omega arith
not_adult j (node (suc zero) ρ k u v ds e) q p = let z : ◌≡◌ {A = ℕ} 2 3 = ap head e ∙ q in omega arith
not_adult j (node (suc (suc zero)) ρ k u v ds e) q p = let z : ◌≡◌ {A = ℕ} 1 0 = ap argument e ∙ p in omega arith
not_adult j (node (suc (suc (suc zero))) ρ k u v ds e) q p = let z : ◌≡◌ {A = ℕ} 5 3 = ap head e ∙ q in omega arith
not_adult j (node (suc (suc (suc (suc r)))) ρ k u v ds e) q p = omega arith

-- so it holds where y is `first`
hyp_holds : (vs : ℕ → ℕ) → Holds T vs (RuleOf T) (λ _. app 0 none) hyp_g
unfolding Holds Mentions Occ In sub head argument Among
hyp_holds vs δ vary ds =
    absurd
    (not_adult (app 3 (more_trees (δ 1) none))
    (ders_in T (RuleOf T) (more_trees (app 3 (more_trees (δ 1) none)) none) (app 3 (more_trees (δ 1) none)) ds (inl refl)) refl
    (ap head (vary.same 1 (inr (inl (inl refl))) (λ i. i))))

first_value : Value (sig T) (app 0 none) Pass
unfolding running T reached Value sig
first_value = (omega arith, refl, tt)

hyp_valued : (v : ℕ) → Mentions v hyp_g → Value (sig T) (app 0 none) (sorts_of (after (read proof_g) SG) v)
unfolding Mentions Occ
hyp_valued v (inl (inl o)) = absurd o
hyp_valued v (inl (inr o)) = absurd o
hyp_valued v (inr (inl (inl e))) =
    subst (λ k. Value (sig T) (app 0 none) (sorts_of (after (read proof_g) SG) k)) (sym e)
    (subst (λ s. Value (sig T) (app 0 none) s) (sym sort_of_y) first_value)
hyp_valued v (inr (inl (inr o))) = absurd o
hyp_valued v (inr (inr o)) = absurd o

only_hyp : (g : Fact) → HypOf (after (read proof_g) SG).facts hyp_g g → hyp_g ≡ g
unfolding HypOf In
only_hyp g (h, inl e, a) =
    at_unique (after (read proof_g) SG).facts 3 hyp_g g recorded (subst (λ k. At (after (read proof_g) SG).facts k g) e a)
only_hyp g (h, inr e, a) = absurd e

-- and then its judgment would be derivable, were it true
pub hypothesis_not_true : ¬ (True T (sorts_of (after (read proof_g) SG)) (RuleOf T) (after (read proof_g) SG).facts hyp_g)
unfolding True Entails Gives Needs Free sub head
hypothesis_not_true t = not_derivable bad_first (t (λ _. app 0 none) needed held) refl
  where
    needed : (v : ℕ) → Needs (HypOf (after (read proof_g) SG).facts hyp_g) bad_first v
        → Value (sig T) (app 0 none) (sorts_of (after (read proof_g) SG) v)
    needed v (inl o) = absurd (no_variable v (inl o))
    needed v (inr (g, x, f)) = hyp_valued v (subst (λ z. Mentions v z) (sym (only_hyp g x)) f.0)

    held : (g : Fact) → HypOf (after (read proof_g) SG).facts hyp_g g
        → Holds T (sorts_of (after (read proof_g) SG)) (RuleOf T) (λ _. app 0 none) g
    held g x =
        subst (λ z. Holds T (sorts_of (after (read proof_g) SG)) (RuleOf T) (λ _. app 0 none) z) (only_hyp g x) (hyp_holds (sorts_of (after (read proof_g) SG)))

-- A calm run with rule hypotheses ----------------------------------------------------------------------------------------------------

-- behind the goals of example G, with variables x and y: two rule hypotheses with premises, one in the first place of `apply`, the other in
-- the context of `invert`, in its cases for a rule of another predicate and for no rule, which are ignored, and in a last form that is refused
abbrev ruled : List ℕ
ruled =
    bytes "(hyp 0 ((Child x)) (Child (renew x)) (x)) (hyp 1 ((Adult y)) (Bad first) ()) (step 2 c0 ()) (apply 3 0 ((x first)) (2)) (hyp 4 (Same x x)) (invert 5 4 (1) (Bad first) ((c0 1 ()) (c9 1 ()))) (result g 1)"

-- it is calm all the same, since these places do not count
test_ruled : throughout calm (read ruled) SG ≡ true
unfolding running T SG reached end_of testing
test_ruled = refl

pub calm_ruled : Calmly (read ruled) SG
calm_ruled = calm_run (read ruled) SG test_ruled

-- what the theorem says of facts 3 and 5: Child (renew first), and Bad first, if what they rest on holds
abbrev renewed_first : Fact
renewed_first =
    record { judgment = Child (app 1 (more_trees (app 0 none) none)); hyps = 0 ∷ []; assumed = false; premises = none; general = []; footing = 0 ∷ [] }

abbrev bad_again : Fact
bad_again = record { judgment = bad_first; hyps = 1 ∷ 4 ∷ []; assumed = false; premises = none; general = []; footing = [] }

ruled_there : At (after (read ruled) SG).facts 3 renewed_first × At (after (read ruled) SG).facts 5 bad_again
unfolding running T SG reached end_of after At
ruled_there = (refl, refl)

abbrev TrueRuled : Fact → Type 0
TrueRuled f = True T (sorts_of (after (read ruled) SG)) (RuleOf T) (after (read ruled) SG).facts f

pub ruled_true : TrueRuled renewed_first × TrueRuled bad_again
unfolding RuleHyp
ruled_true = (
  facts_true theory goals_g T SG taken_g (read ruled) calm_ruled 3 renewed_first ruled_there.0 (λ h. true_false false h.0 refl),
  facts_true theory goals_g T SG taken_g (read ruled) calm_ruled 5 bad_again ruled_there.1 (λ h. true_false false h.0 refl),
)

-- its footings as recorded: fact 3 rests on c0, by its reference, and on no rule of the hypothesis that it applies
recorded_footing : ℕ → List ℕ
recorded_footing n = elim (entry (after (read ruled) SG).facts n) [ some f ↦ f.footing | nothing ↦ [] ]

respects_ruled : throughout (respects recorded_footing) (read ruled) SG ≡ true
unfolding running T SG reached end_of after testing recorded_footing
respects_ruled = refl

footing_three : recorded_footing 3 ≡ 0 ∷ []
unfolding running T SG reached end_of after recorded_footing
footing_three = refl

only_c0 : (r : ℕ) → In r (0 ∷ []) → RuleOf T r
unfolding running T reached In
only_c0 r (inl e) = omega arith
only_c0 r (inr e) = absurd e

-- so c0 suffices for it
pub ruled_firm : True T (sorts_of (after (read ruled) SG)) (λ r. In r (0 ∷ [])) (after (read ruled) SG).facts renewed_first
unfolding RuleHyp
ruled_firm =
    facts_firm theory goals_g T SG taken_g (resting T recorded_footing) (λ n r k. k) (read ruled) calm_ruled
    (respectful_run T recorded_footing (read ruled) SG respects_ruled) 3 renewed_first ruled_there.0 (λ h. true_false false h.0 refl) (λ r. In r (0 ∷ []))
    (record { mine = λ r k. subst (λ l. In r l) footing_three k; theirs = only_c0 })

-- A unification that finds nothing ----------------------------------------------------------------------------------------------------

-- example I: an inversion of Same x x comes to unify it with the conclusion of `s` over a variable made for it, Same z (renew z)
items_of : Text → Sexps
items_of ends = nil
items_of (fails n) = nil
items_of (more (atom p bs) q t) = nil
items_of (more (list xs) q t) = xs

abbrev hyp_i : List ℕ
hyp_i = bytes "(hyp 0 (Same x x))"

abbrev state_i : State
state_i = after (read hyp_i) SG

abbrev invert_i : Sexps
invert_i = items_of (read (bytes "(invert 1 0 () (Bad first) ())"))

abbrev same_i : Tree
same_i = app 5 (more_trees (var 0) (more_trees (var 0) none))

abbrev renew_i : Tree
renew_i = app 1 (more_trees (var 2) none)

abbrev rule_i : Tree
rule_i = app 5 (more_trees (var 2) (more_trees renew_i none))

abbrev before_i : Made
before_i = app 0 none ∷ bad_first ∷ var 0 ∷ same_i ∷ []

abbrev made_i : Made
made_i = app 0 none ∷ bad_first ∷ var 0 ∷ same_i ∷ var 2 ∷ renew_i ∷ rule_i ∷ []

comes-I : Comes state_i invert_i 3 same_i rule_i made_i
unfolding running T SG reached end_of after items_of asked Turn tried
comes-I = record {
  place = 0;
  inversion = record { hypothesis = same_i; judgment = bad_first; context = []; cases = [] };
  before = before_i;
  asks = refl;
  rule = rule state_i.theory 3;
  names = first_names state_i;
  made = before_i;
  turn = inl (refl, refl, refl);
  trial = record { renamed = 2 ∷ []; names = record { vars = state_i.vars ++ (record { sort = 1; text = 0; name = no_name } ∷ []); seen = [] }; conclusion = rule_i };
  tries = refl;
  unifies = (refl, refl, refl);
}

nothing_found : (m : Made) × (unify 3 same_i rule_i made_i ≡ ok nothing m)
unfolding running
nothing_found = (_, refl)

-- and rightly
pub no_unifier : (σ : ℕ → Tree) → ¬ (sub σ same_i ≡ sub σ rule_i)
no_unifier = inversions_complete theory goals_g T SG taken_g (read hyp_i) invert_i 3 same_i rule_i made_i nothing_found.0 comes-I nothing_found.1
