-- Every form of the proof, as an action on the state, does to it what `Took` says. Of a well state.
use Rattle.std.specs.Prelude.{ℕ, ◌≡◌, refl, ◌⊎◌, Bool, true, false, ◌&&◌, not, List, [], ◌∷◌, ◌++◌, ltb, leb, length, Option, Some as some, None as nothing}
use Rattle.std.proofs.Common.{arith, sym, subst, inl, inr}
use Rattle.rules.specs.Limits.{VARIABLES, DEFS}
use Rattle.rules.specs.Out.{Out, then}
use Rattle.rules.specs.Text.{same}
use Rattle.rules.specs.Sexp.{Sexp, Sexps, item, marked}
use Rattle.rules.specs.Find.{all, has}
use Rattle.rules.specs.Tree.{Tree, Trees, none}
use Rattle.rules.specs.Store.{Made}
use Rattle.rules.specs.Theory.{Rule, rule, sort_named, constructor_named, predicate_named}
use Rattle.rules.specs.Declare.{is_new}
use Rattle.rules.specs.State.{State, Fact, Var, Def, no_counts, var_named, abbreviated, is_plain, sort_of}
use Rattle.rules.specs.Read.{term, judgment, judgments, vars_list}
use Rattle.rules.specs.Step.{step}
use Rattle.rules.specs.Apply.{apply}
use Rattle.rules.specs.Induct.{keep_vars, induct, induct_with}
use Rattle.rules.specs.Invert.{Case, case_named, Inversion, Names, renamed, invert_rule, invert_rules, taken_vars, suit, invert}
use Rattle.rules.specs.Tags.{Tag, a_def, a_step, a_hyp, a_rule_hyp, an_induct, an_induct_with, an_apply, an_invert}
use Rattle.rules.specs.Forms.{with_made, with_vars, with_defs, add_var, add_def, hypothesis, one_hypothesis, one_induction, one_inversion, some_instances}
use Rattle.rules.specs.Forms.{add_hyp, add_rule_hyp, add_step, add_apply, add_induct, add_induct_with, add_invert}
use Rattle.meaning.specs.Trees.Tree.{In}
use Rattle.meaning.specs.Trees.Tests.{true_false}
use Rattle.meaning.specs.Unification.Acts.{Ok, done as fine, ok_then, ok_any}
use Rattle.meaning.specs.Truth.{At}
use Rattle.meaning.specs.Lemmas.Forms.{hyp}
use Rattle.meaning.specs.Named.{ItemOf, NamesAs, ResultAs, SomeRefers, SomeCases, RuleHyp}
use Rattle.meaning.specs.Derivation.{RuleOf}
use Rattle.meaning.specs.Sets.{Sets, RuleAs, CitesAs}
use Rattle.meaning.specs.Bridge.Asked.{some_same, ok_map, ok_ask}
use Rattle.meaning.specs.Bridge.Well.{Typed, Judgment, Judgments, Agree, Extends, Well, extends_same, extends_one, extends_both}
use Rattle.meaning.specs.Bridge.Read.{term_ok, judgment_ok, judgments_ok}
use Rattle.meaning.proofs.Bridge.Refs.{calm_free, Citable, FreeOfRules}
use Rattle.meaning.proofs.Bridge.Step.{Fine, step_ok}
use Rattle.meaning.proofs.Bridge.Apply.{in_here, apply_ok}
use Rattle.meaning.proofs.Bridge.Induct.{CasesFree, induct_ok, induct_with_ok}
use Rattle.meaning.specs.Bridge.Names.{made_for, make_vars_ok}
use Rattle.meaning.proofs.Bridge.Invert.{invert_ok}
use Rattle.meaning.specs.Bridge.Ends.{Ends, done, ends_map, keeping, keeps_ask, keeps_room, keeps_found, keeps_name, keeps_vars_list, making_then}
use Rattle.meaning.proofs.Bridge.Took.{Post, ok_all, no_result, well_vars, add_fact_lem, fact_post}

-- what is asked of a form: the facts that it names are no rule hypotheses with premises, and the sets respect what it cites
pub record Clear (K : Sets) (t : Tag) (S : State) (xs : Sexps) : Type 0 where
  pub calm : (i : ℕ) (f : Fact) → NamesAs t S xs i → At S.facts i f → ¬ (RuleHyp f)
  pub rests : (r : ℕ) → RuleAs t S xs r → K.part (length S.facts) r
  pub cites : (i : ℕ) → CitesAs t S xs i
      → ((r : ℕ) → K.part i r → K.part (length S.facts) r) × ((r : ℕ) → K.known (length S.facts) r → K.known i r)
  pub within : (r : ℕ) → K.known (length S.facts) r → RuleOf S.theory r

abbrev pub After : Sets → Tag → Sexps → State → Out State (Unit {0}) → Type 0
After K t xs S o = Ends (λ _ S'. Post K (ResultAs t S xs) (Clear K t S xs) S S') o

-- a state and what is asked of it
abbrev Given : Sets → Tag → Sexps → State → Type 0
Given K t xs S = (vs : ℕ → ℕ) × Well S vs × Clear K t S xs

-- Variables and abbreviations -------------------------------------------------------------------------------------------------------

pub add-var-ok : {By : ℕ → ℕ → Type 0} (K : Sets) → ((k i : ℕ) → ¬ (By k i)) → (C : Type 0) (text : ℕ) (xs : Sexps) (S : State)
    → Ends (λ _ S'. Post K By C S S') (add_var text xs S)
unfolding add_var then
add-var-ok K void C text xs S =
    keeping _ (keeps_name 21 (item xs 1) S) (λ n _.
    keeping _ (keeps_name 21 (item xs 2) S) (λ s _.
    keeping _ (keeps_found 21 (sort_named S.theory s.bytes) S) (λ k _.
    keeping _ (keeps_ask 21 (not (marked n.bytes) && (is_new (constructor_named S.theory n.bytes)
    && (is_new (predicate_named S.theory n.bytes) && is_new (var_named S.vars n.bytes)))) S) (λ _ _.
    keeping _ (keeps_room 7 (ltb (length S.vars) VARIABLES) S) (λ _ _.
    done (record {
      kept = record { theory = refl; vars = extends_one S.vars (record { sort = k; text = text; name = n }) };
      took = λ vs w _ a. no_result K void S vs (with_vars S (S.vars ++ (record { sort = k; text = text; name = n } ∷ []))) refl
          (well_vars S vs w S.made (S.vars ++ (record { sort = k; text = text; name = n } ∷ []))
          (extends_one S.vars (record { sort = k; text = text; name = n })) a)
          (inl refl);
    }))))))

abbreviated-more : (ds : List Def) (d : Def) (x : List ℕ) (t : Tree) → abbreviated (ds ++ (d ∷ [])) x ≡ some t
    → (abbreviated ds x ≡ some t) ⊎ (d.term ≡ t)
unfolding abbreviated
abbreviated-more [] d x t e = go (same d.name.bytes x) e
  where
    go : (b : Bool) → elim b as (λ _. Option Tree) [ true ↦ some d.term | false ↦ nothing ] ≡ some t → (nothing ≡ some t) ⊎ (d.term ≡ t)
    go true q = inr (some_same q)
    go false q = inl q
abbreviated-more (c ∷ ds) d x t e = go (same c.name.bytes x) e (λ q. abbreviated-more ds d x t q)
  where
    go : (b : Bool) → elim b as (λ _. Option Tree) [ true ↦ some c.term | false ↦ abbreviated (ds ++ (d ∷ [])) x ] ≡ some t
        → (abbreviated (ds ++ (d ∷ [])) x ≡ some t → (abbreviated ds x ≡ some t) ⊎ (d.term ≡ t))
        → (elim b as (λ _. Option Tree) [ true ↦ some c.term | false ↦ abbreviated ds x ] ≡ some t) ⊎ (d.term ≡ t)
    go true q h = inl q
    go false q h = h q

well-def : (S : State) (vs : ℕ → ℕ) → Well S vs → (m : Made) (d : Def)
    → Typed S.theory vs (length S.vars) d.term (sort_of S.theory S.vars d.term) → Well (with_defs (with_made S m) (S.defs ++ (d ∷ []))) vs
well-def S vs w m d y = record {
  rules = w.rules;
  agree = w.agree;
  defs = λ x t e. elim (abbreviated-more S.defs d x t e) [
    | inl q ↦ w.defs x t q
    | inr q ↦ subst (λ z. Typed S.theory vs (length S.vars) z (sort_of S.theory S.vars z)) q y
  ];
  facts = w.facts;
}

pub add-def-ok : (K : Sets) (xs : Sexps) (S : State) → After K a_def xs S (add_def xs S)
unfolding add_def then ResultAs
add-def-ok K xs S =
    keeping _ (keeps_name 33 (item xs 1) S) (λ n _.
    keeping _ (keeps_ask 33 (marked n.bytes && leb 2 (length n.bytes)) S) (λ _ _.
    making_then (term S (item xs 2)) S _
    (ok_all {I = (vs : ℕ → ℕ) × Well S vs} {P = λ i t. Typed S.theory i.0 (length S.vars) t (sort_of S.theory S.vars t)}
    (term S (item xs 2) S.made) (λ i. term_ok S i.0 i.1 (item xs 2) S.made)) (λ t m y.
    keeping _ (keeps_ask 33 (is_new (abbreviated S.defs n.bytes)) (with_made S m)) (λ _ _.
    keeping _ (keeps_room 10 (ltb (length S.defs) DEFS) (with_made S m)) (λ _ _.
    done (record {
      kept = record { theory = refl; vars = extends_same S.vars };
      took = λ vs w _ _. no_result K (λ k i b. b) S vs (with_defs (with_made S m) (S.defs ++ (record { name = n; term = t } ∷ []))) refl
          (well-def S vs w m (record { name = n; term = t }) (y (vs, w))) (inl refl);
    }))))))

-- Hypotheses ------------------------------------------------------------------------------------------------------------------------

hyp_fine : (K : Sets) (S : State) (vs : ℕ → ℕ) (w : Well S vs) (j : Tree) (ps : Trees) (gs : List ℕ) → Judgment S.theory vs (length S.vars) j
    → Judgments S.theory vs (length S.vars) ps → Fine K S vs w (hypothesis (length S.facts) j ps gs)
unfolding In
hyp_fine K S vs w j ps gs a b = record {
  well = record {
    judgment = a;
    premises = b;
    hyps = λ h i. elim i [ inl e ↦ omega arith | inr e ↦ absurd e ];
    derived = λ e. absurd (true_false true refl e);
  };
  form = hyp (record { own = in_here (length S.facts) });
}

pub add-hyp-ok : (K : Sets) (xs : Sexps) (S : State) → After K a_hyp xs S (add_hyp xs S)
unfolding add_hyp then Judgments ResultAs
add-hyp-ok K xs S =
    making_then (judgment S (item xs 2)) S _
    (ok_all {I = (vs : ℕ → ℕ) × Well S vs} {P = λ i t. Judgment S.theory i.0 (length S.vars) t}
    (judgment S (item xs 2) S.made) (λ i. judgment_ok S i.0 i.1 (item xs 2) S.made)) (λ j m y.
    ends_map (λ _ S' e. subst (λ z. Post K (ResultAs a_hyp S xs) (Clear K a_hyp S xs) S z) (sym e)
    (fact_post K (λ k i b. b) S m S.vars (extends_same S.vars) (hypothesis (length S.facts) j none []) _ (λ vs w _ _. hyp_fine K S vs w j none [] (y (vs, w)) tt)))
    (add_fact_lem (hypothesis (length S.facts) j none []) one_hypothesis (with_made S m)))

pub add-rule-hyp-ok : (K : Sets) (xs : Sexps) (S : State) → After K a_rule_hyp xs S (add_rule_hyp xs S)
unfolding add_rule_hyp then ResultAs
add-rule-hyp-ok K xs S =
    making_then (judgments S (item xs 2)) S _
    (ok_all {I = (vs : ℕ → ℕ) × Well S vs} {P = λ i t. Judgments S.theory i.0 (length S.vars) t}
    (judgments S (item xs 2) S.made) (λ i. judgments_ok S i.0 i.1 (item xs 2) S.made)) (λ ps m x.
    making_then (judgment S (item xs 3)) (with_made S m) _
    (ok_all {I = (vs : ℕ → ℕ) × Well S vs} {P = λ i t. Judgment S.theory i.0 (length S.vars) t}
    (judgment S (item xs 3) m) (λ i. judgment_ok S i.0 i.1 (item xs 3) m)) (λ j m₁ y.
    keeping _ (keeps_vars_list 36 S (item xs 4) (with_made S m₁) (ok_any (vars_list 36 S (item xs 4) (with_made S m₁)))) (λ gs _.
    ends_map (λ _ S' e. subst (λ z. Post K (ResultAs a_rule_hyp S xs) (Clear K a_rule_hyp S xs) S z) (sym e)
    (fact_post K (λ k i b. b) S m₁ S.vars (extends_same S.vars) (hypothesis (length S.facts) j ps gs) _
    (λ vs w _ _. hyp_fine K S vs w j ps gs (y (vs, w)) (x (vs, w)))))
    (add_fact_lem (hypothesis (length S.facts) j ps gs) one_hypothesis (with_made S m₁)))))

-- The forms of their own files ------------------------------------------------------------------------------------------------------

refs-free : (K : Sets) (S : State) (vs : ℕ → ℕ) (w : Well S vs) (y : Sexp)
    → ((i : ℕ) (f : Fact) → SomeRefers y i → At S.facts i f → ¬ (RuleHyp f))
    → ((i : ℕ) → SomeRefers y i → Citable K S vs w (length S.facts) i)
    → (x : Sexp) → ItemOf x y → FreeOfRules K S vs w (length S.facts) x
unfolding SomeRefers FreeOfRules
refs-free K S vs w y c e x k i f r a =
    (calm_free S.theory vs (length S.vars) (length S.facts) f (w.facts i f a) (c i f (x, k, r) a), e i (x, k, r))

cases_free : (K : Sets) (S : State) (vs : ℕ → ℕ) (w : Well S vs) (y : Sexp)
    → ((i : ℕ) (f : Fact) → SomeCases y i → At S.facts i f → ¬ (RuleHyp f))
    → ((i : ℕ) → SomeCases y i → Citable K S vs w (length S.facts) i) → CasesFree K S vs w y
unfolding SomeCases CasesFree
cases_free K S vs w y c e x k i f r a =
    (calm_free S.theory vs (length S.vars) (length S.facts) f (w.facts i f a) (c i f (x, k, r) a), e i (x, k, r))

pub add-step-ok : (K : Sets) (xs : Sexps) (S : State) → After K a_step xs S (add_step xs S)
unfolding add_step then NamesAs RuleAs CitesAs Citable ResultAs
add-step-ok K xs S =
    making_then (step S xs) S _
    (ok_all {I = Given K a_step xs S} {P = λ i r. Fine K S i.0 i.1 r.0} (step S xs S.made)
    (λ i. step_ok K S i.0 i.1 xs (refs-free K S i.0 i.1 (item xs 3) i.2.calm i.2.cites) i.2.rests S.made)) (λ r m y.
    ends_map (λ _ S' e. subst (λ z. Post K (ResultAs a_step S xs) (Clear K a_step S xs) S z) (sym e)
    (fact_post K (λ k i b. b) S m S.vars (extends_same S.vars) r.0 _ (λ vs w c _. y (vs, w, c))))
    (add_fact_lem r.0 (some_instances r.1) (with_made S m)))

pub add-apply-ok : (K : Sets) (xs : Sexps) (S : State) → After K an_apply xs S (add_apply xs S)
unfolding add_apply then NamesAs RuleAs CitesAs Citable ResultAs
add-apply-ok K xs S =
    making_then (apply S xs) S _
    (ok_all {I = Given K an_apply xs S} {P = λ i f. Fine K S i.0 i.1 f} (apply S xs S.made)
    (λ i. apply_ok K S i.0 i.1 xs (λ k p. i.2.cites k (inl p))
    (refs-free K S i.0 i.1 (item xs 4) i.2.calm (λ k p. i.2.cites k (inr p))) S.made)) (λ f m y.
    ends_map (λ _ S' e. subst (λ z. Post K (ResultAs an_apply S xs) (Clear K an_apply S xs) S z) (sym e)
    (fact_post K (λ k i b. b) S m S.vars (extends_same S.vars) f _ (λ vs w c _. y (vs, w, c))))
    (add_fact_lem f no_counts (with_made S m)))

pub add-induct-ok : (K : Sets) (xs : Sexps) (S : State) → After K an_induct xs S (add_induct xs S)
unfolding add_induct then NamesAs RuleAs CitesAs Citable ResultAs
add-induct-ok K xs S =
    making_then (induct S xs) S _
    (ok_all {I = Given K an_induct xs S} {P = λ i f. Fine K S i.0 i.1 f} (induct S xs S.made)
    (λ i. induct_ok K S i.0 i.1 xs (cases_free K S i.0 i.1 (item xs 4) i.2.calm i.2.cites) S.made)) (λ f m y.
    ends_map (λ _ S' e. subst (λ z. Post K (ResultAs an_induct S xs) (Clear K an_induct S xs) S z) (sym e)
    (fact_post K (λ k i b. b) S m S.vars (extends_same S.vars) f _ (λ vs w c _. y (vs, w, c))))
    (add_fact_lem f one_induction (with_made S m)))

pub add-induct-with-ok : (K : Sets) (xs : Sexps) (S : State) → After K an_induct_with xs S (add_induct_with xs S)
unfolding add_induct_with then NamesAs RuleAs CitesAs Citable ResultAs
add-induct-with-ok K xs S =
    making_then (induct_with S xs) S _
    (ok_all {I = Given K an_induct_with xs S} {P = λ i f. Fine K S i.0 i.1 f} (induct_with S xs S.made)
    (λ i. induct_with_ok K S i.0 i.1 xs (cases_free K S i.0 i.1 (item xs 5) i.2.calm i.2.cites) S.made)) (λ f m y.
    ends_map (λ _ S' e. subst (λ z. Post K (ResultAs an_induct_with S xs) (Clear K an_induct_with S xs) S z) (sym e)
    (fact_post K (λ k i b. b) S m S.vars (extends_same S.vars) f _ (λ vs w c _. y (vs, w, c))))
    (add_fact_lem f one_induction (with_made S m)))

-- made variables stand behind those that were there
renamed-extends : (S : State) (I : Inversion) (R : Rule) (c : Option Case) (N : Names) (m : Made)
    → Ok (λ r. Extends N.vars r.1.vars) (renamed S I R c N m)
unfolding renamed Extends
renamed-extends S I R (some c) N m =
    ok_then (ok_ask 42 (suit S.vars c.vars R.vars) m) (λ _ m₁ _.
    ok_then (ok_ask 42 (all (λ v. not (taken_vars S I v) && not (has N.seen v)) c.vars) m₁) (λ _ m₂ _. fine (extends_same N.vars)))
renamed-extends S I R nothing N m = ok_then (make_vars_ok R.vars N.vars m) (λ zs m₁ e. fine (made_for R.vars, e))

rules-extend : (S : State) (I : Inversion) (rs : List ℕ) (N : Names) (m : Made) → Ok (λ M. Extends N.vars M.vars) (invert_rules S I rs N m)
unfolding invert_rules invert_rule
rules-extend S I [] N m = fine (extends_same N.vars)
rules-extend S I (r ∷ rs) N m =
    ok_then (one (rule S.theory r)) (λ M m₁ e. ok_map (λ L g. extends_both N.vars M.vars L.vars e g) (rules-extend S I rs M m₁))
  where
    one : (R : Rule) → Ok (λ M. Extends N.vars M.vars) (invert_rule S I R N m)
    one R =
        ok_then (renamed-extends S I R (case_named I.cases R.name.bytes) N m) (λ r m₁ e.
        ok_then (ok_any (keep_vars r.0 m₁)) (λ _ m₂ _. ok_then (ok_any _) (λ _ m₃ _. ok_then (ok_any _) (λ _ m₄ _. ok_then (ok_any _) (λ _ m₅ _. fine e)))))

invert-extends : (S : State) (xs : Sexps) (m : Made) → Ok (λ r. Extends S.vars r.1) (invert S xs m)
unfolding invert
invert-extends S xs m =
    ok_then (ok_any _) (λ i m₁ _. ok_then (ok_any _) (λ k m₂ _. ok_then (ok_ask 40 (is_plain k) m₂) (λ _ m₃ _. ok_then (ok_any _) (λ hs m₄ _.
    ok_then (ok_any _) (λ j m₅ _. ok_then (ok_any _) (λ ys m₆ _. ok_then (ok_any _) (λ cs m₇ _.
    ok_then (rules-extend S _ _ (record { vars = S.vars; seen = [] }) m₇) (λ N m₈ e. fine e))))))))

pub add-invert-ok : (K : Sets) (xs : Sexps) (S : State) → After K an_invert xs S (add_invert xs S)
unfolding add_invert then NamesAs RuleAs CitesAs Citable ResultAs
add-invert-ok K xs S =
    making_then (invert S xs) S _
    (ok_all {I = Unit {0} ⊎ Given K an_invert xs S} {P = λ i r. Made-by r i} (invert S xs S.made) (λ i. by i)) (λ r m y.
    ends_map (λ _ S' e. subst (λ z. Post K (ResultAs an_invert S xs) (Clear K an_invert S xs) S z) (sym e)
    (fact_post K (λ k i b. b) S m r.1 (y (inl tt)) r.0 _ (λ vs w c a. y (inr (vs, w, c)) a)))
    (add_fact_lem r.0 one_inversion (with_vars (with_made S m) r.1)))
  where
    Made-by : Fact × List Var → Unit {0} ⊎ Given K an_invert xs S → Type 0
    Made-by r (inl u) = Extends S.vars r.1
    Made-by r (inr g) = Agree g.0 r.1 → Fine K S g.0 g.1 r.0

    by : (i : Unit {0} ⊎ Given K an_invert xs S) → Ok (λ r. Made-by r i) (invert S xs S.made)
    by (inl u) = invert-extends S xs S.made
    by (inr (vs, w, c)) =
        ok_map (λ r h. h.1) (invert_ok K S vs w xs c.within
        (λ i f n a. (calm_free S.theory vs (length S.vars) (length S.facts) f (w.facts i f a) (c.calm i f n a), c.cites i n)) S.made)
