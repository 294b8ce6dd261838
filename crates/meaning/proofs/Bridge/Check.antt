-- From the parts to the whole check: the state that an answer is given in is good, and where the answer is an acceptance every goal was
-- taken. Assumes nothing.
use Prim.Native.Nat.{ℕ, zero, suc}
use Rattle.std.proofs.Common.{arith, sym, ◌∙◌, ap, subst, inl, inr}
use Rattle.std.specs.Prelude.{◌≡◌, Bool, not, eqb, length, Option, Some as some, None as nothing}
use Rattle.std.proofs.Math.Path.{refl}
use Rattle.std.proofs.Math.Bool.{true, false}
use mathlib.Core.List.{List, [], ◌∷◌}
use Rattle.rules.specs.Text.{short, plain}
use Rattle.rules.specs.Out.{Out, ok, refuse}
use Rattle.rules.specs.Sexp.{Sexp, Sexps, atom, list, item, Text, ends, fails, more, read}
use Rattle.rules.specs.Find.{entry, every}
use Rattle.rules.specs.Theory.{Theory, no_theory}
use Rattle.rules.specs.Declare.{declare}
use Rattle.rules.specs.Laws.Theory.{WellFormed}
use Rattle.rules.specs.Laws.Declare.{reached, theory_formed, nothing_formed}
use Rattle.rules.specs.Laws.Reached.{end_of}
use Rattle.rules.proofs.Laws.Bounded.{BoundedCheck, goals_bounded, forms_bounded}
use Rattle.rules.specs.State.{State, Goal, begin, sort_of_var}
use Rattle.rules.specs.Loop.{Judged, done, refused, through, unread, whole}
use Rattle.rules.specs.Tags.{Tag, a_var, a_def, a_step, a_hyp, a_rule_hyp, an_induct, an_induct_with, an_apply, an_invert, a_result}
use Rattle.rules.specs.Forms.{take_goal, take_form}
use Rattle.rules.specs.Check.{Report, Answer, accepts, refuses, Outcome, refused_in, report, missing, ended, after_proof, after_goals, after_theory, first_failing, readable, fitting, check}
use Rattle.meaning.specs.Named.{Calm, ResultOf}
use Rattle.meaning.specs.Runs.{Taken, after, IfTaken, Throughout, OrLater, Somewhere, Calmly, Respectful, CalmTexts, Results}
use Rattle.meaning.specs.Derivation.{RuleOf}
use Rattle.meaning.specs.Sets.{Sets, of_theory, RuleAt, RuleAs, Tagged, Respects, Within}
use Rattle.meaning.specs.Bridge.Asked.{no_some, some_same}
use Rattle.meaning.specs.Bridge.Well.{WellTheory, Agree, agree_extends}
use Rattle.meaning.specs.Bridge.Read.{rule_known}
use Rattle.meaning.specs.Bridge.Ends.{Ends, done as taken}
use Rattle.meaning.proofs.Bridge.Took.{Post}
use Rattle.meaning.specs.Bridge.Theory.{well_theory}
use Rattle.meaning.proofs.Bridge.Take.{Asks, take_form_ok}
use Rattle.meaning.proofs.Bridge.Run.{Good, Passed, passed_none, passed_void, run_extends, run_passed}
use Rattle.meaning.proofs.Bridge.Goals.{Anything, take_goal_ok, anything, start_good}

-- The premise -----------------------------------------------------------------------------------------------------------------------

-- what is asked of every form, from its parts
asks : (K : Sets) (T : Theory) → Within K T → (t : Text) (S : State) → S.theory ≡ T → Calmly t S → Respectful K t S
    → Throughout (Asks K) take_form t S
unfolding Throughout IfTaken
asks K T w ends S e c r = tt
asks K T w (fails n) S e c r = tt
asks K T w (more x p t) S e c r = go (take_form x S) (take_form_ok K x S) c r (λ u q d h. asks K T w t u q d h)
  where
    go : (o : Out State (Unit {0})) → Ends (λ _ S'. Post K (ResultOf S x) (Asks K S x) S S') o → IfTaken (Calm S x) (λ u. Calmly t u) o
        → IfTaken (Respects K S x) (λ u. Respectful K t u) o
        → ((u : State) → u.theory ≡ T → Calmly t u → Respectful K t u → Throughout (Asks K) take_form t u)
        → IfTaken (Asks K S x) (λ u. Throughout (Asks K) take_form t u) o
    go (ok a u) (taken h) c r k =
        (record { calm = c.0; respects = r.0; within = subst (λ z. Within K z) (sym e) w }, k u (h.kept.theory ∙ e) c.1 r.1)
    go (refuse n d u) h c r k = tt

rule_there : (T : Theory) (x : Sexp) (r : ℕ) → RuleAt T x r → RuleOf T r
unfolding RuleAt
rule_there T (atom p bs) r e = rule_known T bs r e
rule_there T (list xs) r e = absurd e

rule_as : (t : Tag) (S : State) (xs : Sexps) (r : ℕ) → RuleAs t S xs r → RuleOf S.theory r
unfolding RuleAs
rule_as a_step S xs r e = rule_there S.theory (item xs 2) r e
rule_as a_var S xs r e = absurd e
rule_as a_def S xs r e = absurd e
rule_as a_hyp S xs r e = absurd e
rule_as a_rule_hyp S xs r e = absurd e
rule_as an_induct S xs r e = absurd e
rule_as an_induct_with S xs r e = absurd e
rule_as an_apply S xs r e = absurd e
rule_as an_invert S xs r e = absurd e
rule_as a_result S xs r e = absurd e

tagged_rule : (S : State) (x : Sexp) (r : ℕ) → Tagged RuleAs S x r → RuleOf S.theory r
unfolding Tagged
tagged_rule S (atom p bs) r h = absurd h
tagged_rule S (list xs) r h = rule_as h.0 S xs r h.2

-- the theory's rules respect every form
pub theory_respected : (T : Theory) (t : Text) (S : State) → S.theory ≡ T → Respectful (of_theory T) t S
unfolding Throughout IfTaken
theory_respected T ends S e = tt
theory_respected T (fails n) S e = tt
theory_respected T (more x p t) S e = go (take_form x S) (take_form_ok (of_theory T) x S) (λ u q. theory_respected T t u q)
  where
    go : (o : Out State (Unit {0})) → Ends (λ _ S'. Post (of_theory T) (ResultOf S x) (Asks (of_theory T) S x) S S') o
        → ((u : State) → u.theory ≡ T → Respectful (of_theory T) t u) → IfTaken (Respects (of_theory T) S x) (λ u. Respectful (of_theory T) t u) o
    go (ok a u) (taken h) k =
        (record { rests = λ r q. subst (λ z. RuleOf z r) e (tagged_rule S x r q); cites = λ i q. ((λ r q. q), (λ r q. q)) }, k u (h.kept.theory ∙ e))
    go (refuse n d u) h k = tt

-- The proof -------------------------------------------------------------------------------------------------------------------------

-- the goals have no results
nowhere : (t : Text) (S : State) → ¬ (Somewhere (λ U x. ⊥) take_goal t S)
unfolding Somewhere OrLater
nowhere ends S b = b
nowhere (fails n) S b = b
nowhere (more x p t) S b = go (take_goal x S) b (λ u c. nowhere t u c)
  where
    go : (o : Out State (Unit {0})) → OrLater ⊥ (λ u. Somewhere (λ U x. ⊥) take_goal t u) o → ((u : State) → ¬ (Somewhere (λ U x. ⊥) take_goal t u)) → ⊥
    go (ok a u) (inl b) k = b
    go (ok a u) (inr b) k = k u b
    go (refuse n d u) b k = b

whole_passed : (K : Sets) (T : Theory) → WellTheory T → (t : Text) (vs : ℕ → ℕ) → Agree vs (end_of (whole take_goal t (begin T))).vars
    → Passed K T vs (λ k i. ⊥) (begin T) (end_of (whole take_goal t (begin T)))
unfolding whole end_of
whole_passed K T w t vs a = go (unread t 0) a
  where
    go : (o : Option (ℕ × ℕ))
        → Agree vs (end_of {S = State} (elim o as (λ _. Judged State) [ nothing ↦ through take_goal t 0 (begin T) | some r ↦ refused r.0 0 r.1 (begin T) ])).vars
        → Passed K T vs (λ k i. ⊥) (begin T)
        (end_of {S = State} (elim o as (λ _. Judged State) [ nothing ↦ through take_goal t 0 (begin T) | some r ↦ refused r.0 0 r.1 (begin T) ]))
    go nothing b =
        passed_void K T vs (λ n i. Somewhere (λ U x. ⊥) take_goal t (begin T)) (λ n i. nowhere t (begin T)) (begin T) (end_of (through take_goal t 0 (begin T)))
        (run_passed K take_goal Anything (λ S x k i. ⊥) (take_goal_ok K) T vs t 0 (begin T) (start_good K T w vs) (anything t (begin T)) b)
    go (some r) b = passed_none K T vs (λ k i. ⊥) (λ k i b. b) (begin T) (start_good K T w vs)

whole_good : (K : Sets) (T : Theory) → WellTheory T → (t : Text) (vs : ℕ → ℕ) → Agree vs (end_of (whole take_goal t (begin T))).vars
    → Good K T vs (end_of (whole take_goal t (begin T)))
whole_good K T w t vs a = (whole_passed K T w t vs a).good

-- the theory is as declared ones are
taken_formed : (theory goals : List ℕ) (T : Theory) (S : State) → Taken theory goals T S → WellFormed T
unfolding reached
taken_formed theory goals T S t = subst (λ z. WellFormed (reached z)) t.theory_taken (theory_formed theory)

-- whatever the forms, every tree behind them is over variables that are there
pub after_bounded : (theory goals : List ℕ) (T : Theory) (S : State) → Taken theory goals T S → (forms : Text) → BoundedCheck (after forms S)
unfolding after end_of
after_bounded theory goals T S t forms =
    forms_bounded S (subst (λ z. BoundedCheck (end_of z)) t.goals_taken (goals_bounded T (taken_formed theory goals T S t) (read goals))) forms 0

-- behind the goals, before the proof
taken_passed : (theory goals : List ℕ) (T : Theory) (S : State) → Taken theory goals T S → (K : Sets) (vs : ℕ → ℕ) → Agree vs S.vars
    → Passed K T vs (λ k i. ⊥) (begin T) S
unfolding end_of
taken_passed theory goals T S t K vs a =
    subst (λ z. Passed K T vs (λ k i. ⊥) (begin T) z) (ap end_of t.goals_taken)
    (whole_passed K T (well_theory T (taken_formed theory goals T S t)) (read goals) vs
    (subst (λ (z : State). Agree vs z.vars) (sym (ap end_of t.goals_taken)) a))

pub taken_good : (theory goals : List ℕ) (T : Theory) (S : State) → Taken theory goals T S → (K : Sets) (vs : ℕ → ℕ) → Agree vs S.vars → Good K T vs S
taken_good theory goals T S t K vs a = (taken_passed theory goals T S t K vs a).good

-- no goal is taken there
pub taken_fresh : (theory goals : List ℕ) (T : Theory) (S : State) → Taken theory goals T S → (k : ℕ) (g : Goal) → entry S.goals k ≡ some g
    → ¬ (g.taken ≡ true)
unfolding Agree entry
taken_fresh theory goals T S t k g e q =
    elim ((taken_passed theory goals T S t (of_theory T) (λ v. sort_of_var S.vars v) (λ v l. refl)).taken k g e q) [ inl p ↦ no_some p | inr p ↦ p.1 ]

pub taken_theory : (theory goals : List ℕ) (T : Theory) (S : State) → Taken theory goals T S → S.theory ≡ T
unfolding Agree
taken_theory theory goals T S t = (taken_good theory goals T S t (of_theory T) (λ v. sort_of_var S.vars v) (λ v l. refl)).theory

pub proof_passed : (K : Sets) (T : Theory) → Within K T → (S : State) → S.theory ≡ T → ((vs : ℕ → ℕ) → Agree vs S.vars → Good K T vs S)
    → (forms : Text) → Calmly forms S → Respectful K forms S → (vs : ℕ → ℕ) → Agree vs (after forms S).vars
    → Passed K T vs (Results forms S) S (after forms S)
unfolding after
proof_passed K T w S e g forms c r vs a =
    run_passed K take_form (Asks K) ResultOf (take_form_ok K) T vs forms 0 S
    (g vs (agree_extends vs S.vars (end_of (through take_form forms 0 S)).vars (run_extends K take_form (Asks K) ResultOf (take_form_ok K) forms 0 S) a))
    (asks K T w forms S e c r) a

through_good : (T : Theory) (S : State) → S.theory ≡ T → ((us : ℕ → ℕ) → Agree us S.vars → Good (of_theory T) T us S) → (forms : Text) → Calmly forms S
    → (vs : ℕ → ℕ) → Agree vs (end_of (through take_form forms 0 S)).vars → Good (of_theory T) T vs (end_of (through take_form forms 0 S))
unfolding after
through_good T S e g forms c vs a = (proof_passed (of_theory T) T (λ n r k. k) S e g forms c (theory_respected T forms S e) vs a).good

-- The whole check -------------------------------------------------------------------------------------------------------------------

-- the state of each outcome is good, over its own theory
abbrev Fair : (ℕ → ℕ) → Outcome → Type 0
Fair vs o = Agree vs o.state.vars → Good (of_theory o.state.theory) o.state.theory vs o.state

fair : (vs : ℕ → ℕ) (T : Theory) (S : State) → Good (of_theory T) T vs S → Good (of_theory S.theory) S.theory vs S
fair vs T S g = subst (λ z. Good (of_theory z) z vs S) (sym g.theory) g

module _ (theory goals proof : List ℕ) (calm : CalmTexts theory goals proof) (vs : ℕ → ℕ) where
  after_proof_fair : (J : Judged State) → (Agree vs (end_of J).vars → Good (of_theory (end_of J).theory) (end_of J).theory vs (end_of J)) → Fair vs (after_proof J)
  unfolding after_proof ended refused_in end_of
  after_proof_fair (done k S) h = go (missing S)
    where
      go : (l : List ℕ) → Fair vs (ended k S l)
      go [] = h
      go (x ∷ l) = h
  after_proof_fair (refused n d k S) h = h

  after_goals_fair : (T : Theory) (J : Judged State) → ((us : ℕ → ℕ) → Agree us (end_of J).vars → Good (of_theory T) T us (end_of J))
      → ((k : ℕ) (S : State) → J ≡ done k S → Calmly (read proof) S) → Fair vs (after_goals proof J)
  unfolding after_goals refused_in end_of Agree
  after_goals_fair T (refused n d k S) g c = λ a. fair vs T S (g vs a)
  after_goals_fair T (done k S) g c = go (eqb (length S.goals) 0)
    where
      go : (b : Bool) → Fair vs (elim b as (λ _. Outcome) [ true ↦ refused_in 2 25 0 k S | false ↦ after_proof (through take_form (read proof) 0 S) ])
      go true = λ a. fair vs T S (g vs a)
      go false = after_proof_fair (through take_form (read proof) 0 S)
          (λ a. fair vs T (end_of (through take_form (read proof) 0 S)) (through_good T S (g (λ v. sort_of_var S.vars v) (λ v l. refl)).theory g (read proof) (c k S refl) vs a))

  calm_of : (k : ℕ) (T : Theory) → whole declare (read theory) no_theory ≡ done k T → (l : ℕ) (S : State)
      → whole take_goal (read goals) (begin T) ≡ done l S → Calmly (read proof) S
  unfolding CalmTexts
  calm_of k T e l S q = calm T S (record { theory_forms = k; theory_taken = e; goal_forms_lem = l; goals_taken = q })

  after_theory_fair : (J : Judged Theory) → whole declare (read theory) no_theory ≡ J → WellFormed (reached J) → Fair vs (after_theory goals proof J)
  unfolding after_theory refused_in reached
  after_theory_fair (refused n d k T) e w = λ a. start_good (of_theory T) T (well_theory T w) vs
  after_theory_fair (done k T) e w =
      after_goals_fair T (whole take_goal (read goals) (begin T)) (λ us a. whole_good (of_theory T) T (well_theory T w) (read goals) us a)
      (λ l S q. calm_of k T e l S q)

  readable_fair : (k : ℕ) → Fair vs (readable theory goals proof k)
  unfolding readable refused_in
  readable_fair zero = after_theory_fair (whole declare (read theory) no_theory) refl (theory_formed theory)
  readable_fair (suc k) = λ a. start_good (of_theory no_theory) no_theory (well_theory no_theory nothing_formed) vs

  fitting_fair : (k : ℕ) → Fair vs (fitting theory goals proof k)
  unfolding fitting refused_in
  fitting_fair zero = readable_fair (first_failing plain theory goals proof)
  fitting_fair (suc k) = λ a. start_good (of_theory no_theory) no_theory (well_theory no_theory nothing_formed) vs

  pub check_good : Agree vs (check theory goals proof).state.vars
      → Good (of_theory (check theory goals proof).state.theory) (check theory goals proof).state.theory vs (check theory goals proof).state
  unfolding check
  check_good = fitting_fair (first_failing short theory goals proof)

-- An acceptance ---------------------------------------------------------------------------------------------------------------------

none_listed : {A : Type 0} (p : A → Bool) (xs : List A) (k i : ℕ) (x : A) → every p xs k ≡ [] → entry xs i ≡ some x → p x ≡ false
unfolding every entry
none_listed p [] k i x e q = absurd (no_some q)
none_listed p (y ∷ ys) k i x e q = go (p y) refl e i q (λ l j r. none_listed p ys (suc k) j x l r)
  where
    go : (b : Bool) → p y ≡ b → ◌≡◌ {A = List ℕ} (elim b as (λ _. List ℕ) [ true ↦ k ∷ every p ys (suc k) | false ↦ every p ys (suc k) ]) []
        → (i : ℕ) → entry (y ∷ ys) i ≡ some x
        → (every p ys (suc k) ≡ [] → (j : ℕ) → entry ys j ≡ some x → p x ≡ false) → p x ≡ false
    go true h l i q r = absurd (not_empty l)
      where
        not_empty : ◌≡◌ {A = List ℕ} (k ∷ every p ys (suc k)) [] → ⊥
        not_empty l = let z : ◌≡◌ {A = ℕ} 0 1 = cc in omega arith
    go false h l zero q r = ap p (sym (some_same q)) ∙ h
    go false h l (suc i) q r = r l i q

-- every goal of the state was taken
unfoldable pub AllTaken : Outcome → Type 0
AllTaken o = (i : ℕ) (g : Goal) → entry o.state.goals i ≡ some g → g.taken ≡ true

all_taken : (k : ℕ) (S : State) → missing S ≡ [] → AllTaken (record { answer = accepts (report S); state = S })
unfolding AllTaken missing
all_taken k S e i g q = not-false g.taken (none_listed (λ (g : Goal). not g.taken) S.goals 1 i g e q)
  where
    not-false : (b : Bool) → not b ≡ false → b ≡ true
    not-false true h = refl
    not-false false h = sym h

-- what an acceptance says of an outcome
unfoldable Fulfilled : Outcome → Answer → Type 0
Fulfilled o (accepts r) = AllTaken o
Fulfilled o (refuses r) = Unit {0}

abbrev Honest : Outcome → Type 0
Honest o = Fulfilled o o.answer

ended_honest : (k : ℕ) (S : State) → Honest (ended k S (missing S))
unfolding ended refused_in Fulfilled
ended_honest k S = go (missing S) refl
  where
    go : (l : List ℕ) → missing S ≡ l → Honest (ended k S l)
    go [] e = all_taken k S e
    go (x ∷ l) e = tt

after_proof_honest : (J : Judged State) → Honest (after_proof J)
unfolding after_proof refused_in Fulfilled
after_proof_honest (done k S) = ended_honest k S
after_proof_honest (refused n d k S) = tt

after_goals_honest : (proof : List ℕ) (J : Judged State) → Honest (after_goals proof J)
unfolding after_goals refused_in Fulfilled
after_goals_honest proof (refused n d k S) = tt
after_goals_honest proof (done k S) = go (eqb (length S.goals) 0)
  where
    go : (b : Bool) → Honest (elim b as (λ _. Outcome) [ true ↦ refused_in 2 25 0 k S | false ↦ after_proof (through take_form (read proof) 0 S) ])
    go true = tt
    go false = after_proof_honest (through take_form (read proof) 0 S)

after_theory_honest : (goals proof : List ℕ) (J : Judged Theory) → Honest (after_theory goals proof J)
unfolding after_theory refused_in Fulfilled
after_theory_honest goals proof (refused n d k T) = tt
after_theory_honest goals proof (done k T) = after_goals_honest proof (whole take_goal (read goals) (begin T))

readable_honest : (theory goals proof : List ℕ) (k : ℕ) → Honest (readable theory goals proof k)
unfolding readable refused_in Fulfilled
readable_honest theory goals proof zero = after_theory_honest goals proof (whole declare (read theory) no_theory)
readable_honest theory goals proof (suc k) = tt

fitting_honest : (theory goals proof : List ℕ) (k : ℕ) → Honest (fitting theory goals proof k)
unfolding fitting refused_in Fulfilled
fitting_honest theory goals proof zero = readable_honest theory goals proof (first_failing plain theory goals proof)
fitting_honest theory goals proof (suc k) = tt

pub accepted_taken : (theory goals proof : List ℕ) (r : Report) → (check theory goals proof).answer ≡ accepts r → AllTaken (check theory goals proof)
unfolding check Fulfilled
accepted_taken theory goals proof r e =
    subst (λ a. Fulfilled (check theory goals proof) a) e (fitting_honest theory goals proof (first_failing short theory goals proof))
