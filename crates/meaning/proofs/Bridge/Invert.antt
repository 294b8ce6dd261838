-- `invert`: the fact that the definition takes is well-sorted, and satisfies what the form's lemma asks. Of a well state. The variables
-- that it makes are there from the next state on, so that the sorts must agree with that state's.
use Prim.Native.Nat.{ℕ, ◌+◌, ◌<◌}
use native.Mathlib.Omega.{arith}
use Rattle.std.specs.Prelude.{◌≡◌, ◌⊎◌, true, false, ◌&&◌, ◌||◌, Option, Some as some, None as nothing}
use Rattle.std.proofs.Math.Path.{refl, ap, subst}
use Rattle.std.proofs.Common.{sym, ◌∙◌, eq-eqb}
use Rattle.std.proofs.Math.Logic.{inl, inr}
use Rattle.std.proofs.Math.Bool.{not}
use mathlib.Core.List.{List, [], ◌∷◌, ◌++◌}
use Rattle.std.proofs.Math.ListN.{length, get_or}
use Rattle.rules.specs.Out.{ok}
use Rattle.rules.specs.Sexp.{Sexps, item}
use Rattle.rules.specs.Find.{entry, every, all, has, union, rising}
use Rattle.rules.specs.Tree.{Tree, Trees, app, none, variables, variables_of, same_tree, sub}
use Rattle.rules.specs.Store.{Made}
use Rattle.rules.specs.Theory.{Theory, Rule, no_name, no_rule, rule, head_is, rules_of}
use Rattle.rules.specs.Unify.{Binding, along, unify}
use Rattle.rules.specs.State.{State, Fact, Var, sort_of_var, is_plain, mentioned}
use Rattle.rules.specs.Induct.{keep_vars}
use Rattle.rules.specs.Invert.{Case, case_named, Inversion, mentioned_at, context_vars, taken_vars, Names, suit, up_from, renamed as renamed_to, renaming}
use Rattle.rules.specs.Invert.{allowed_in, invert_case, case_or_not, invert_rule, invert_rules, predicate_of, invert}
use Rattle.meaning.specs.Trees.Tree.{Occ, Occs, Sorted, In, sorted_sub, sub_occ}
use Rattle.meaning.specs.Trees.Tests.{true_false, same_tree_true, occ_variables, occs_variables_of}
use Rattle.meaning.specs.Unification.Acts.{Ok, done, stopped, ok_then, ok_any, substitute_ok}
use Rattle.meaning.specs.Unification.Right.{unify_complete, unify_general, unify_sorts}
use Rattle.meaning.specs.Signature.{sig, PROP, arity, rule_sort}
use Rattle.meaning.specs.Derivation.{RuleOf}
use Rattle.meaning.specs.Truth.{Mentions, At, HypOf}
use Rattle.meaning.specs.Lemmas.Inverts.{renamed, Used, Apart}
use Rattle.meaning.specs.Lemmas.Forms.{InContext, InvertCase, InvertCased, lone, paired, InvertRule, invert as an_invert}
use Rattle.meaning.specs.Named.{ItemOf, CasesFor, SomeInverts}
use Rattle.meaning.specs.Sets.{Sets}
use Rattle.meaning.specs.Bridge.Asked.{both_true, true_left, true_right, not-true, ok_self, ok_ask, ok_map, ok_items, ok_index, at_entry, at_below, every_in, in_every, all_in, in_has, rising_in, in_rising}
use Rattle.meaning.specs.Bridge.Well.{Judgment, Judgments, WellRule, WellTheory, Agree, Extends, Well, app_form, judgments_small, extends_same, extends_both, extends_length, agree_extends}
use Rattle.meaning.specs.Bridge.Read.{VarsOk, fact_ok, judgment_ok}
use Rattle.meaning.proofs.Bridge.Refs.{HypsOk, hyp_list_ok, Citable, cite}
use Rattle.meaning.proofs.Bridge.Apply.{is_plain_lem, in_here}
use Rattle.meaning.proofs.Bridge.Step.{Fine}
use Rattle.meaning.specs.Bridge.Names.{get_in, get_distinct, suit_sorts, get_up, made_for, make_vars_ok, made_length, made_sort}
use Rattle.meaning.specs.Bridge.Case.{CasesOk, read_cases_ok, case_found, Uncaptured, rule_premises_ok, context_facts_ok, allowed_in_lem, premises_and_context}

-- The renaming ----------------------------------------------------------------------------------------------------------------------

context_vars_lem : (fs : List Fact) (hs : List ℕ) (d : Fact) (v : ℕ) → InContext fs hs d → Mentions v d → context_vars fs hs v ≡ true
unfolding context_vars InContext In mentioned_at mentioned Mentions
context_vars_lem fs [] d v i m = absurd i.1
context_vars_lem fs (k ∷ hs) d v (h, inl e, a) m =
    true_left (mentioned_at (entry fs k) v) (context_vars fs hs v)
    (ap (λ (o : Option Fact). mentioned_at o v) (at_entry fs k d (subst (λ z. At fs z d) e a)) ∙ here m)
  where
    here : Occ v d.judgment ⊎ Occs v d.premises → (variables d.judgment v || variables_of d.premises v) ≡ true
    here (inl o) = true_left (variables d.judgment v) (variables_of d.premises v) (occ_variables d.judgment v o)
    here (inr o) = true_right (variables d.judgment v) (variables_of d.premises v) (occs_variables_of d.premises v o)
context_vars_lem fs (k ∷ hs) d v (h, inr i, a) m =
    true_right (mentioned_at (entry fs k) v) (context_vars fs hs v) (context_vars_lem fs hs d v (h, i, a) m)

-- I: the inversion; its judgments are well-sorted, and its cases were read from ys
module _ (K : Sets) (U : State) (vs : ℕ → ℕ) (w : Well U vs) (I : Inversion) (ys : Sexps)
    (hj : Judgment U.theory vs (length U.vars) I.hypothesis) (jj : Judgment U.theory vs (length U.vars) I.judgment)
    (co : CasesOk U ys I.cases) where
  abbrev C : Fact → Type 0
  C = InContext U.facts I.context

  used_taken : (v : ℕ) → Used I.hypothesis I.judgment C v → taken_vars U I v ≡ true
  unfolding Used taken_vars
  used_taken v (inl (inl o)) =
      true_left (variables I.hypothesis v || variables I.judgment v) (context_vars U.facts I.context v)
      (true_left (variables I.hypothesis v) (variables I.judgment v) (occ_variables I.hypothesis v o))
  used_taken v (inl (inr o)) =
      true_left (variables I.hypothesis v || variables I.judgment v) (context_vars U.facts I.context v)
      (true_right (variables I.hypothesis v) (variables I.judgment v) (occ_variables I.judgment v o))
  used_taken v (inr (d, i, m)) =
      true_right (variables I.hypothesis v || variables I.judgment v) (context_vars U.facts I.context v)
      (context_vars_lem U.facts I.context d v i m)

  used_small : (v : ℕ) → Used I.hypothesis I.judgment C v → v < length U.vars
  unfolding Used InContext Mentions
  used_small v (inl (inl o)) = hj.typed.small v o
  used_small v (inl (inr o)) = jj.typed.small v o
  used_small v (inr (d, i, inl o)) = (w.facts i.0 d i.2).judgment.typed.small v o
  used_small v (inr (d, i, inr o)) = judgments_small U.theory vs (length U.vars) d.premises (w.facts i.0 d i.2).premises v o

  -- xs: the names of the rule's variables; zs: the variables from then on
  pub record RenamedOk (R : Rule) (xs : List ℕ) (zs : List Var) : Type 0 where
    pub below : (i : ℕ) → i < arity R → get_or xs i 0 < length zs
    pub fit : Agree vs zs → (i : ℕ) → i < arity R → vs (get_or xs i 0) ≡ rule_sort R i
    pub distinct : (i j : ℕ) → i < arity R → j < arity R → get_or xs i 0 ≡ get_or xs j 0 → i ≡ j
    pub fresh : (i : ℕ) → i < arity R → ¬ (Used I.hypothesis I.judgment C (get_or xs i 0))

  renamed_ok : (R : Rule) (c : Option Case) (N : Names) → Extends U.vars N.vars → case_named I.cases R.name.bytes ≡ c → (m : Made)
      → Ok (λ r. Extends N.vars r.1.vars × RenamedOk R r.0 r.1.vars) (renamed_to U I R c N m)
  unfolding renamed_to arity rule_sort VarsOk Agree Extends
  renamed_ok R (some c) N ex ec m =
      ok_then (ok_ask 42 (suit U.vars c.vars R.vars) m) (λ _ m₁ s.
      ok_then (ok_ask 42 (all (λ v. not (taken_vars U I v) && not (has N.seen v)) c.vars) m₁) (λ _ m₂ t.
      done (extends_same N.vars, good (suit_sorts U.vars c.vars R.vars (record { name = no_name; sort = 0 }) s) t)))
    where
      known : VarsOk (length U.vars) c.vars
      known = (case_found U ys I.cases R.name.bytes c co ec).0.known

      good : (length c.vars ≡ length R.vars)
          × ((i : ℕ) → i < length R.vars → sort_of_var U.vars (get_or c.vars i 0) ≡ (get_or R.vars i (record { name = no_name; sort = 0 })).sort)
          → all (λ v. not (taken_vars U I v) && not (has N.seen v)) c.vars ≡ true → RenamedOk R c.vars N.vars
      good (e, f) t = record {
        below = λ i l. (let p = small i l in let q = extends_length U.vars N.vars ex in omega arith);
        fit = λ _ i l. sym (w.agree (get_or c.vars i 0) (small i l)) ∙ f i l;
        distinct = λ i j l k q. get_distinct c.vars known.0 i j (omega (arith, e, l)) (omega (arith, e, k)) q;
        fresh = λ i l u. true_false (taken_vars U I (get_or c.vars i 0)) (used_taken (get_or c.vars i 0) u)
            (not-true (taken_vars U I (get_or c.vars i 0))
            (both_true (not (taken_vars U I (get_or c.vars i 0))) (not (has N.seen (get_or c.vars i 0)))
            (all_in (λ v. not (taken_vars U I v) && not (has N.seen v)) c.vars (get_or c.vars i 0) t (inside i l))).0);
      }
        where
          inside : (i : ℕ) → i < length R.vars → In (get_or c.vars i 0) c.vars
          inside i l = get_in c.vars i (omega arith)

          small : (i : ℕ) → i < length R.vars → get_or c.vars i 0 < length U.vars
          small i l = known.1 (get_or c.vars i 0) (inside i l)
  renamed_ok R nothing N ex ec m =
      ok_then (make_vars_ok R.vars N.vars m) (λ zs m₁ e. done ((made_for R.vars, e), good zs e))
    where
      good : (zs : List Var) → zs ≡ N.vars ++ made_for R.vars → RenamedOk R (up_from (length N.vars) (length R.vars)) zs
      good zs e = record {
        below = λ i l. (let p = get_up (length N.vars) (length R.vars) i l in
            let q = ap (λ k. length k) e ∙ made_length N.vars R.vars in omega arith);
        fit = λ a i l. fits a i l;
        distinct = λ i j l k q.
            (let p = get_up (length N.vars) (length R.vars) i l in let r = get_up (length N.vars) (length R.vars) j k in omega arith);
        fresh = λ i l u.
            (let p = get_up (length N.vars) (length R.vars) i l in
            let q = used_small (get_or (up_from (length N.vars) (length R.vars)) i 0) u in
            let r = extends_length U.vars N.vars ex in omega arith);
      }
        where
          fits : Agree vs zs → (i : ℕ) → i < length R.vars
              → vs (get_or (up_from (length N.vars) (length R.vars)) i 0) ≡ (get_or R.vars i (record { name = no_name; sort = 0 })).sort
          fits a i l =
              ap vs (get_up (length N.vars) (length R.vars) i l)
              ∙ (sym (a (length N.vars + i) (let q = ap (λ k. length k) e ∙ made_length N.vars R.vars in omega arith))
              ∙ (ap (λ (k : List Var). sort_of_var k (length N.vars + i)) e ∙ made_sort N.vars R.vars (record { name = no_name; sort = 0 }) i l))

  -- One rule ------------------------------------------------------------------------------------------------------------------------

  -- new: the fact of the form
  module _ (new : Fact) (ej : new.judgment ≡ I.judgment) (k : Fact) (ek : k.judgment ≡ I.hypothesis) where
    abbrev CaseHolds : Rule → (ℕ → ℕ) → (ℕ → Tree) → Type 0
    CaseHolds R nm θ = InvertCase U.theory vs K.known K.part U.facts (length U.facts) new C R nm θ

    invert_case_ok : (R : Rule) (xs : List ℕ) (θ : List Binding) (c : Case)
        → ((f : Fact) → At U.facts c.fact f → (f.premises ≡ none) × Citable K U vs w (length U.facts) c.fact) → (m : Made)
        → Ok (λ _. CaseHolds R (λ i. get_or xs i 0) (along θ)) (invert_case U I R (renaming xs) θ c m)
    unfolding invert_case renaming renamed HypOf Uncaptured
    invert_case_ok R xs θ c calm m =
        ok_then (substitute_ok (along θ) I.judgment m) (λ j m₁ p.
        ok_then (rule_premises_ok (renamed (λ i. get_or xs i 0)) (along θ) R.premises m₁) (λ az m₂ ra.
        ok_then (context_facts_ok U θ I.context I.context (λ h i. i) m₂) (λ bs m₃ cb.
        ok_then (fact_ok U c.fact m₃) (λ f m₄ a.
        ok_then (ok_ask 43 (same_tree f.judgment j) m₄) (λ _ m₅ sj.
        ok_map (λ _ sa. record {
          g = f;
          cites = cite K U vs w (length U.facts) f c.fact a (calm f a);
          proves = same_tree_true f.judgment j sj ∙ (p ∙ ap (sub (along θ)) (sym ej));
          allowed = λ h x. allowed_in_lem R (λ i. get_or xs i 0) C (along θ) (az ++ bs) h
              (premises_and_context U R (λ i. get_or xs i 0) θ I.context az bs ra cb.0)
              (subst (λ o. allowed_in (az ++ bs) o ≡ true) (at_entry U.facts x.0 h x.2)
              (all_in (λ h. allowed_in (az ++ bs) (entry U.facts h)) f.hyps x.0 sa x.1));
          uncaptured = λ d i v z n o. cb.1 d i v z n o;
        })
        (ok_ask 44 (all (λ h. allowed_in (az ++ bs) (entry U.facts h)) f.hyps) m₅))))))

    abbrev LookedHolds : Rule → Type 0
    LookedHolds R = InvertRule U.theory vs K.known K.part U.facts (length U.facts) new k C R

    module _ (R : Rule) (wr : WellRule U.theory R)
        (calm : (c : Case) → case_named I.cases R.name.bytes ≡ some c → (f : Fact) → At U.facts c.fact f → (f.premises ≡ none) × Citable K U vs w (length U.facts) c.fact)
        (xs : List ℕ) (zs : List Var) (ex : Extends U.vars zs) (ro : RenamedOk R xs zs) where
      abbrev nm : ℕ → ℕ
      nm i = get_or xs i 0

      abbrev t : Tree
      t = sub (renamed nm) R.conclusion

      below : (v : ℕ) → Occ v I.hypothesis ⊎ Occ v t → v < length zs
      unfolding renamed Occ
      below v (inl o) = let p = hj.typed.small v o in let q = extends_length U.vars zs ex in omega arith
      below v (inr o) =
          let r = sub_occ (renamed nm) R.conclusion v o in
          subst (λ z. z < length zs) (sym r.2) (ro.below r.0 (wr.bound r.0 (inl r.1)))

      t_sorted : Agree vs zs → Sorted (sig U.theory) vs t PROP
      unfolding renamed Sorted
      t_sorted a = sorted_sub (sig U.theory) (rule_sort R) vs (renamed nm) R.conclusion PROP wr.concl (λ i o. ro.fit a i (wr.bound i (inl o)))

      abbrev CasedHolds : Type 0
      CasedHolds = InvertCased U.theory vs K.known K.part U.facts (length U.facts) new k.judgment C R nm

      looked : Agree vs zs → CasedHolds → LookedHolds R
      looked a c = record {
        name = nm;
        fit = ro.fit a;
        distinct = ro.distinct;
        fresh = λ i l u. ro.fresh i l (subst (λ z. Used z I.judgment C (nm i)) ek (subst (λ z. Used k.judgment z C (nm i)) ej u));
        cased = c;
      }

      case_or_not_ok : (m₀ m₁ : Made) (r : Option (List Binding)) → unify (length zs) I.hypothesis t m₀ ≡ ok r m₁
          → (o : Option Case) → case_named I.cases R.name.bytes ≡ o → (m : Made)
          → Ok (λ _. Agree vs zs → LookedHolds R) (case_or_not U I R (renaming xs) r o m)
      unfolding case_or_not Apart
      case_or_not_ok m₀ m₁ nothing e nothing eo m =
          done (λ a. looked a (lone (λ γ q. unify_complete (length zs) I.hypothesis t m₀ m₁ below e γ (ap (sub γ) (sym ek) ∙ q))))
      case_or_not_ok m₀ m₁ nothing e (some c) eo m = stopped
      case_or_not_ok m₀ m₁ (some θ) e nothing eo m = stopped
      case_or_not_ok m₀ m₁ (some θ) e (some c) eo m =
          ok_map (λ _ h a. looked a (paired (along θ) (record {
            sorts = unify_sorts (sig U.theory) vs (length zs) I.hypothesis t PROP m₀ m₁ θ hj.typed.sorts (t_sorted a) e;
            absorbs = λ γ q. (unify_general (length zs) I.hypothesis t m₀ m₁ θ e).general γ (ap (sub γ) (sym ek) ∙ q);
          }) h))
          (invert_case_ok R xs θ c (calm c eo) m)

    invert_rule_ok : (R : Rule) → WellRule U.theory R
        → ((c : Case) → case_named I.cases R.name.bytes ≡ some c → (f : Fact) → At U.facts c.fact f → (f.premises ≡ none) × Citable K U vs w (length U.facts) c.fact)
        → (N : Names) → Extends U.vars N.vars → (m : Made)
        → Ok (λ N'. Extends N.vars N'.vars × (Agree vs N'.vars → LookedHolds R)) (invert_rule U I R N m)
    unfolding invert_rule renaming renamed
    invert_rule_ok R wr calm N ex m =
        ok_then (renamed_ok R (case_named I.cases R.name.bytes) N ex refl m) (λ r m₁ ro.
        ok_then (ok_any (keep_vars r.0 m₁)) (λ _ m₂ _.
        ok_then (substitute_ok (renamed (λ i. get_or r.0 i 0)) R.conclusion m₂) (λ t m₃ et.
        ok_then (ok_self (unify (length r.1.vars) I.hypothesis t m₃)) (λ θ m₄ eu.
        ok_then (case_or_not_ok R wr calm r.0 r.1.vars (extends_both U.vars N.vars r.1.vars ex ro.0) ro.1 m₃ eu.0 θ
        (subst (λ z. unify (length r.1.vars) I.hypothesis z m₃ ≡ ok θ eu.0) et eu.1)
        (case_named I.cases R.name.bytes) refl m₄) (λ _ m₅ h.
        done (ro.0, h))))))

    -- All rules of the predicate ------------------------------------------------------------------------------------------------------

    invert_rules_ok : (rs : List ℕ) → ((r : ℕ) → In r rs → WellRule U.theory (rule U.theory r))
        → ((r : ℕ) → In r rs → (c : Case) → case_named I.cases (rule U.theory r).name.bytes ≡ some c
        → (f : Fact) → At U.facts c.fact f → (f.premises ≡ none) × Citable K U vs w (length U.facts) c.fact)
        → (N : Names) → Extends U.vars N.vars → (m : Made)
        → Ok (λ N'. Extends N.vars N'.vars × (Agree vs N'.vars → (r : ℕ) → In r rs → LookedHolds (rule U.theory r)))
        (invert_rules U I rs N m)
    unfolding invert_rules In
    invert_rules_ok [] wr calm N ex m = done (extends_same N.vars, λ a r i. absurd i)
    invert_rules_ok (r ∷ rs) wr calm N ex m =
        ok_then (invert_rule_ok (rule U.theory r) (wr r (inl refl)) (calm r (inl refl)) N ex m) (λ M m₁ h.
        ok_map (λ N' g. (
          extends_both N.vars M.vars N'.vars h.0 g.0,
          λ a s i. elim i [
            | inl e ↦ subst (λ z. LookedHolds (rule U.theory z)) (sym e) (h.1 (agree_extends vs M.vars N'.vars g.0 a))
            | inr j ↦ g.1 a s j
          ],
        ))
        (invert_rules_ok rs (λ s i. wr s (inr i)) (λ s i. calm s (inr i)) M (extends_both U.vars N.vars M.vars ex h.0) m₁))

-- The form --------------------------------------------------------------------------------------------------------------------------

rules_of_below : (T : Theory) (p r : ℕ) → In r (rules_of T p) → r < length T.rules
unfolding rules_of
rules_of_below T p r i =
    let q = in_every (λ (s : Rule). head_is p s.conclusion) no_rule T.rules 0 r i in
    let e = q.1 in let l = q.2 in omega arith

in_rules_of : (T : Theory) (p r : ℕ) (qs : Trees) → r < length T.rules → (rule T r).conclusion ≡ app p qs → In r (rules_of T p)
unfolding rules_of rule head_is
in_rules_of T p r qs l e =
    subst (λ z. In z (every (λ (s : Rule). head_is p s.conclusion) T.rules 0)) (let z : 0 + r ≡ r = omega arith in z)
    (every_in (λ (s : Rule). head_is p s.conclusion) no_rule T.rules 0 r l (ap (head_is p) e ∙ eq-eqb p p refl))

module _ (K : Sets) (U : State) (vs : ℕ → ℕ) (w : Well U vs) where
  pub invert_ok : (xs : Sexps) → ((r : ℕ) → K.known (length U.facts) r → RuleOf U.theory r)
      → ((i : ℕ) (f : Fact) → SomeInverts U (item xs 2) (item xs 5) i → At U.facts i f → (f.premises ≡ none) × Citable K U vs w (length U.facts) i)
      → (m : Made) → Ok (λ r. Extends U.vars r.1 × (Agree vs r.1 → Fine K U vs w r.0)) (invert U xs m)
  unfolding invert HypsOk SomeInverts ItemOf Judgments WellTheory predicate_of
  invert_ok xs theirs calm m =
      ok_then (ok_index 34 (item xs 2) m) (λ i m₁ pt.
      ok_then (fact_ok U i m₁) (λ k m₂ a.
      ok_then (ok_ask 40 (is_plain k) m₂) (λ _ m₃ ep.
      ok_then (hyp_list_ok (λ f. f.assumed) U (item xs 3) m₃) (λ hs m₄ ho.
      ok_then (judgment_ok U vs w (item xs 4) m₄) (λ j m₅ jo.
      ok_then (ok_items 41 (item xs 5) m₅) (λ ys m₆ ez.
      ok_then (read_cases_ok U ys m₆) (λ cs m₇ co.
      ok_then (invert_rules_ok K U vs w (record { hypothesis = k.judgment; judgment = j; context = hs; cases = cs }) ys (w.facts i k a).judgment jo co
      (new i j hs) refl k refl (rules_of U.theory (predicate_of k.judgment))
      (λ r q. w.rules r (rules_of_below U.theory (predicate_of k.judgment) r q))
      (λ r q c ec f b.
      let s = case_found U ys cs (rule U.theory r).name.bytes c co ec in
      calm c.fact f (
        i,
        k,
        r,
        s.0.raw,
        pt,
        a,
        q,
        subst (λ z. ItemOf s.0.raw z) (sym ez) s.0.listed,
        subst (λ n. CasesFor n s.0.raw c.fact) s.1 s.0.reads,
      ) b)
      (record { vars = U.vars; seen = [] }) (extends_same U.vars) m₇) (λ N m₈ h.
      done (h.0, λ ag. finish i k a ep hs ho j jo (h.1 ag))))))))))
    where
      new : ℕ → Tree → List ℕ → Fact
      new i j hs = record {
        judgment = j;
        hyps = rising (length U.facts) (union (has (i ∷ [])) (has hs));
        assumed = false;
        premises = none;
        general = [];
        footing = [];
      }

      own : (i : ℕ) (hs : List ℕ) → i < length U.facts → In i (rising (length U.facts) (union (has (i ∷ [])) (has hs)))
      own i hs l = rising_in (length U.facts) (union (has (i ∷ [])) (has hs)) i l (true_left (has (i ∷ []) i) (has hs i) (in_has (i ∷ []) i (in_here i)))

      inside : (i : ℕ) (hs : List ℕ) (h : ℕ) → h < length U.facts → In h hs → In h (rising (length U.facts) (union (has (i ∷ [])) (has hs)))
      inside i hs h l q = rising_in (length U.facts) (union (has (i ∷ [])) (has hs)) h l (true_right (has (i ∷ []) h) (has hs h) (in_has hs h q))

      finish : (i : ℕ) (k : Fact) → At U.facts i k → is_plain k ≡ true → (hs : List ℕ)
          → ((h : ℕ) → In h hs → (g : Fact) × At U.facts h g × (g.assumed ≡ true))
          → (j : Tree) → Judgment U.theory vs (length U.vars) j
          → ((r : ℕ) → In r (rules_of U.theory (predicate_of k.judgment))
          → InvertRule U.theory vs K.known K.part U.facts (length U.facts) (new i j hs) k (InContext U.facts hs) (rule U.theory r))
          → Fine K U vs w (new i j hs)
      finish i k a ep hs ho j jo looked = record {
        well = record {
          judgment = jo;
          premises = tt;
          hyps = λ h q. (let l = (in_rising (length U.facts) (union (has (i ∷ [])) (has hs)) h q).0 in omega arith);
          derived = λ _. refl;
        };
        form = an_invert (record {
          plain = refl;
          k = k;
          place = i;
          at = a;
          own = own i hs (at_below U.facts i k a);
          k_plain = (is_plain_lem k ep).1;
          context = hs;
          inside = λ h q. (let r = ho h q in inside i hs h (at_below U.facts h r.0 r.1) q);
          head = shape.0;
          arguments = shape.1;
          form = shape.2;
          looked = λ r l qs e. looked r (subst (λ p. In r (rules_of U.theory p)) (sym (ap predicate_of shape.2)) (in_rules_of U.theory shape.0 r qs (theirs r l) e));
        });
      }
        where
          shape : (c : ℕ) × (ts : Trees) × (k.judgment ≡ app c ts)
          shape = app_form k.judgment (w.facts i k a).judgment.shape
