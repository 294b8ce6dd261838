-- `induct`, of both kinds: the fact that the definition takes is well-sorted, and satisfies what the form's lemma asks. Of a well state.
use Prim.Native.Nat.{ℕ, suc, ◌+◌, ◌<◌}
use native.Mathlib.Omega.{arith}
use Rattle.std.specs.Prelude.{◌≡◌, ◌⊎◌, Bool, ◌&&◌, ◌||◌, eqb, get_or, Some as some}
use Rattle.std.proofs.Math.Path.{refl, sym, ap, subst}
use Rattle.std.proofs.Common.{◌∙◌, ap₂}
use Rattle.std.proofs.Math.Logic.{inl, inr}
use Rattle.std.proofs.Math.Bool.{true, false, not}
use mathlib.Core.List.{List, [], ◌∷◌, ◌++◌, append_assoc}
use Rattle.std.proofs.Math.ListN.{length}
use borrow.Author.Tests.{eqb-true, eqb-false, eq-eqb}
use Rattle.rules.specs.Sexp.{Sexp, Sexps, nil, cons, count, item, rest}
use Rattle.rules.specs.Find.{entry, every, any, all, has}
use Rattle.rules.specs.Tree.{Tree, Trees, var, app, none, more, variables, variables_of, same_tree, same_trees, among, single}
use Rattle.rules.specs.Store.{Made}
use Rattle.rules.specs.Theory.{Theory, no_symbol, inputs, output, constructors}
use Rattle.rules.specs.State.{State, Fact, sort_of_var, is_none, is_plain}
use Rattle.rules.specs.Reference.{judgments_at}
use Rattle.rules.specs.Induct.{Motive as MotiveOf, motive_vars, case_vars, keep_vars, Hyp, hypothesis_at, hypotheses, allowed_plain, allowed_rule, allowed_hyp}
use Rattle.rules.specs.Induct.{induct_case, induct_cases, induct_on, induct, induct_with}
use Rattle.meaning.specs.Trees.Tree.{Occ, Occs, In, Among}
use Rattle.meaning.specs.Trees.Tests.{true_false, or_true, same_tree_true, same_trees_true, among_true, variables_true, variables_of_true, occ_variables, occs_variables_of}
use Rattle.meaning.specs.Unification.Acts.{Ok, done, ok_then, keep_ok, substitute_ok, substitutes_ok}
use Rattle.meaning.specs.Signature.{sig}
use Rattle.meaning.specs.Truth.{At, HypOf, Plain}
use Rattle.meaning.specs.Trees.Replace.{vars, Fit, Distinct}
use Rattle.meaning.specs.Lemmas.Inducts.{CaseHyp, premise, plainly, ruled, Motive, Below, at, ats}
use Rattle.meaning.specs.Lemmas.Forms.{InductCase, induct as an_induct}
use Rattle.meaning.specs.Named.{Item, ItemOf, Cases}
use Rattle.meaning.specs.Sets.{Sets}
use Rattle.meaning.specs.Bridge.Asked.{both_true, either_true, true_left, true_right, not-true, ok_ask, ok_map, ok_if, ok_items, ok_index, at_entry, at_unique, at_below, every_in, all_in}
use Rattle.meaning.specs.Bridge.Well.{Judgments, Agree, Well}
use Rattle.meaning.specs.Bridge.Read.{in_snoc, distinct_snoc, not_has, variable_ok, fact_ok, judgment_ok}
use Rattle.meaning.proofs.Bridge.Refs.{is_none_lem, HypsOk, hyp_list_ok, judgments_at_lem, Citable, cite}
use Rattle.meaning.proofs.Bridge.Apply.{is_plain_lem}
use Rattle.meaning.proofs.Bridge.Step.{Fine}

-- Lists of variables and trees ------------------------------------------------------------------------------------------------------

fit_snoc : (vs : ℕ → ℕ) (ys ss : List ℕ) (v s : ℕ) → Fit vs ys ss → vs v ≡ s → Fit vs (ys ++ (v ∷ [])) (ss ++ (s ∷ []))
unfolding Fit
fit_snoc vs [] [] v s f e = (e, tt)
fit_snoc vs [] (z ∷ ss) v s f e = absurd f
fit_snoc vs (y ∷ ys) [] v s f e = absurd f
fit_snoc vs (y ∷ ys) (z ∷ ss) v s f e = (f.0, fit_snoc vs ys ss v s f.1 e)

pub keep_vars_ok : (ys : List ℕ) (m : Made) → Ok (λ ts. ts ≡ vars ys) (keep_vars ys m)
unfolding keep_vars vars
keep_vars_ok [] m = done refl
keep_vars_ok (y ∷ ys) m = ok_then (keep_ok (var y) m) (λ t m₁ p. ok_then (keep_vars_ok ys m₁) (λ ts m₂ q. done (ap₂ more p q)))

-- the set of the motive's variables
motive_true : (M : MotiveOf) (v : ℕ) → motive_vars M v ≡ true → Motive M.premises M.judgment v
unfolding motive_vars Motive
motive_true M v e = elim (either_true (variables M.judgment v) (variables_of M.premises v) e) [
  | inl p ↦ inl (variables_true M.judgment v p)
  | inr p ↦ inr (variables_of_true M.premises v p)
]

motive_false : (M : MotiveOf) (v : ℕ) → not (motive_vars M v) ≡ true → ¬ (Motive M.premises M.judgment v)
unfolding motive_vars Motive
motive_false M v e m = true_false (motive_vars M v) (holds m) (not-true (motive_vars M v) e)
  where
    holds : Occ v M.judgment ⊎ Occs v M.premises → (variables M.judgment v || variables_of M.premises v) ≡ true
    holds (inl o) = true_left (variables M.judgment v) (variables_of M.premises v) (occ_variables M.judgment v o)
    holds (inr o) = true_right (variables M.judgment v) (variables_of M.premises v) (occs_variables_of M.premises v o)

-- M: what is proved by induction
module _ (K : Sets) (U : State) (vs : ℕ → ℕ) (w : Well U vs) (M : MotiveOf) (sorted : M.sort ≡ vs M.variable) where
  abbrev x : ℕ
  x = M.variable

  abbrev P : Trees
  P = M.premises

  abbrev J : Tree
  J = M.judgment

  -- A case's terms ------------------------------------------------------------------------------------------------------------------

  pub record CaseVars (ss ys : List ℕ) : Type 0 where
    pub fit : Fit vs ys ss
    pub distinct : Distinct ys
    pub fresh : (y : ℕ) → In y ys → ¬ (Motive P J y)

  case_vars_ok : (xs : Sexps) (gone ss ys : List ℕ) (m : Made) → count xs ≡ length ss → CaseVars gone ys
      → Ok (λ zs. CaseVars (gone ++ ss) zs) (case_vars U M xs ss ys m)
  unfolding case_vars count Agree
  case_vars_ok nil gone [] ys m e h = done (subst (λ l. CaseVars l ys) (sym (nil_right gone)) h)
    where
      nil_right : (l : List ℕ) → l ++ [] ≡ l
      nil_right [] = refl
      nil_right (a ∷ l) = ap (λ k. a ∷ k) (nil_right l)
  case_vars_ok nil gone (s ∷ ss) ys m e h = absurd (let z : ⊥ = omega arith in z)
  case_vars_ok (cons y xs) gone [] ys m e h = absurd (let z : ⊥ = omega arith in z)
  case_vars_ok (cons y xs) gone (s ∷ ss) ys m e h =
      ok_then (variable_ok 42 U y m) (λ v m₁ l.
      ok_then (ok_ask 42 (eqb (sort_of_var U.vars v) s && (not (motive_vars M v) && not (has ys v))) m₁) (λ _ m₂ t.
      ok_map (λ zs k. subst (λ l. CaseVars l zs) (append_assoc gone (s ∷ []) ss) k)
      (case_vars_ok xs (gone ++ (s ∷ [])) ss (ys ++ (v ∷ [])) m₂ (omega arith) (more_vars v l t))))
    where
      more_vars : (v : ℕ) → v < length U.vars → (eqb (sort_of_var U.vars v) s && (not (motive_vars M v) && not (has ys v))) ≡ true
          → CaseVars (gone ++ (s ∷ [])) (ys ++ (v ∷ []))
      more_vars v l t =
          let a = both_true (eqb (sort_of_var U.vars v) s) (not (motive_vars M v) && not (has ys v)) t in
          let b = both_true (not (motive_vars M v)) (not (has ys v)) a.1 in
          record {
            fit = fit_snoc vs ys gone v s h.fit (sym (w.agree v l) ∙ eqb-true (sort_of_var U.vars v) s a.0);
            distinct = distinct_snoc ys v h.distinct (not_has ys v b.1);
            fresh = λ z i. elim (in_snoc ys v z i) [
              | inl j ↦ h.fresh z j
              | inr q ↦ (λ k. motive_false M v b.0 (subst (λ u. Motive P J u) q k))
            ];
          }

  -- each is the motive at a variable of which Q holds
  unfoldable HypsOf : (ℕ → Type 0) → List Hyp → Type 0
  HypsOf Q [] = Unit {0}
  HypsOf Q (h ∷ hs) = ((y : ℕ) × Q y × (h.premises ≡ ats x (var y) P) × (h.judgment ≡ at x (var y) J)) × HypsOf Q hs

  hypothesis_ok : (v : ℕ) (m : Made) → Ok (λ h. (h.premises ≡ ats x (var v) P) × (h.judgment ≡ at x (var v) J)) (hypothesis_at M v m)
  unfolding hypothesis_at
  hypothesis_ok v m =
      ok_then (keep_ok (var v) m) (λ y m₁ e.
      ok_then (substitutes_ok (single x y) P m₁) (λ ps m₂ p.
      ok_then (substitute_ok (single x y) J m₂) (λ j m₃ q.
      done (p ∙ ap (λ z. ats x z P) e, q ∙ ap (λ z. at x z J) e))))

  hypotheses_ok : (Q : ℕ → Type 0) (ys ss : List ℕ) → Fit vs ys ss → ((y : ℕ) → In y ys → vs y ≡ vs x → Q y) → (m : Made)
      → Ok (λ hs. HypsOf Q hs) (hypotheses M ys ss m)
  unfolding hypotheses HypsOf Fit In
  hypotheses_ok Q [] ss f q m = done tt
  hypotheses_ok Q (y ∷ ys) [] f q m = absurd f
  hypotheses_ok Q (y ∷ ys) (s ∷ ss) f q m =
      ok_if (eqb s M.sort) _ _ m
      (λ e. ok_then (hypothesis_ok y m) (λ h m₁ p. ok_then (hypotheses_ok Q ys ss f.1 (λ z i. q z (inr i)) m₁)
      (λ hs m₂ r. done ((y, q y (inl refl) (f.0 ∙ (eqb-true s M.sort e ∙ sorted)), p.0, p.1), r))))
      (λ _. hypotheses_ok Q ys ss f.1 (λ z i. q z (inr i)) m)

  -- What a case may rest on ---------------------------------------------------------------------------------------------------------

  any_judgment : (Q : ℕ → Type 0) (hs : List Hyp) (h : Fact) → HypsOf Q hs → any (λ i. same_tree i.judgment h.judgment) hs ≡ true
      → (y : ℕ) × Q y × (h.judgment ≡ at x (var y) J)
  unfolding HypsOf any
  any_judgment Q [] h r e = absurd (true_false false e refl)
  any_judgment Q (i ∷ hs) h r e = elim (or_true (same_tree i.judgment h.judgment) (any (λ i. same_tree i.judgment h.judgment) hs) e) [
    | inl p ↦ (r.0.0, r.0.1, sym (same_tree_true i.judgment h.judgment p) ∙ r.0.3)
    | inr p ↦ any_judgment Q hs h r.1 p
  ]

  any_rule : (Q : ℕ → Type 0) (hs : List Hyp) (h : Fact) → HypsOf Q hs
      → any (λ i. same_trees i.premises h.premises && same_tree i.judgment h.judgment) hs ≡ true
      → (y : ℕ) × Q y × (h.premises ≡ ats x (var y) P) × (h.judgment ≡ at x (var y) J)
  unfolding HypsOf any
  any_rule Q [] h r e = absurd (true_false false e refl)
  any_rule Q (i ∷ hs) h r e =
      elim (or_true (same_trees i.premises h.premises && same_tree i.judgment h.judgment)
      (any (λ i. same_trees i.premises h.premises && same_tree i.judgment h.judgment) hs) e) [
        | inl p ↦ (let b = both_true (same_trees i.premises h.premises) (same_tree i.judgment h.judgment) p in
            (r.0.0, r.0.1, sym (same_trees_true i.premises h.premises b.0) ∙ r.0.2, sym (same_tree_true i.judgment h.judgment b.1) ∙ r.0.3))
        | inr p ↦ any_rule Q hs h r.1 p
      ]

  allowed_ok : (c : ℕ) (ys : List ℕ) (ps : Trees) (ihs : List Hyp) → ps ≡ ats x (app c (vars ys)) P → HypsOf (Below vs x ys) ihs
      → (h : Fact) → allowed_hyp M ps ihs (some h) ≡ true → CaseHyp vs x P J c ys h
  unfolding allowed_hyp allowed_plain allowed_rule
  allowed_ok c ys ps ihs ep r h e = go (is_plain h) refl e
    where
      plain_case : Plain h → (among ps h.judgment || (is_none P && any (λ i. same_tree i.judgment h.judgment) ihs)) ≡ true
          → CaseHyp vs x P J c ys h
      plain_case p q = elim (either_true (among ps h.judgment) (is_none P && any (λ i. same_tree i.judgment h.judgment) ihs) q) [
        | inl a ↦ premise p (subst (λ ts. Among h.judgment ts) ep (among_true ps h.judgment a))
        | inr a ↦ (let b = both_true (is_none P) (any (λ i. same_tree i.judgment h.judgment) ihs) a in
            let y = any_judgment (Below vs x ys) ihs h r b.1 in plainly p (is_none_lem P b.0) y.0 y.1 y.2)
      ]

      rule_case : (all (λ g. motive_vars M g && not (eqb g x)) h.general
          && any (λ i. same_trees i.premises h.premises && same_tree i.judgment h.judgment) ihs) ≡ true → CaseHyp vs x P J c ys h
      rule_case q =
          let b = both_true (all (λ g. motive_vars M g && not (eqb g x)) h.general)
          (any (λ i. same_trees i.premises h.premises && same_tree i.judgment h.judgment) ihs) q in
          let y = any_rule (Below vs x ys) ihs h r b.1 in
          ruled
          (λ v i. (let k = both_true (motive_vars M v) (not (eqb v x)) (all_in (λ g. motive_vars M g && not (eqb g x)) h.general v b.0 i) in
          (motive_true M v k.0, eqb-false v x (not-true (eqb v x) k.1))))
          y.0 y.1 y.2 y.3

      go : (b : Bool) → is_plain h ≡ b
          → elim b as (λ _. Bool) [
            | true ↦ among ps h.judgment || (is_none P && any (λ i. same_tree i.judgment h.judgment) ihs)
            | false ↦ h.assumed && (all (λ g. motive_vars M g && not (eqb g x)) h.general
                && any (λ i. same_trees i.premises h.premises && same_tree i.judgment h.judgment) ihs)
          ] ≡ true
          → CaseHyp vs x P J c ys h
      go true p q = plain_case (is_plain_lem h p).1 q
      go false p q = rule_case (both_true h.assumed _ q).1

  -- Cases ---------------------------------------------------------------------------------------------------------------------------

  -- the facts that z names as a case have no premises, and may be cited
  unfoldable pub CaseFree : Sexp → Type 0
  CaseFree z = (i : ℕ) (f : Fact) → Cases z i → At U.facts i f → (f.premises ≡ none) × Citable K U vs w (length U.facts) i

  module _ (hs : List ℕ) where
    abbrev new : Fact
    new = record { judgment = M.judgment; hyps = hs; assumed = false; premises = none; general = []; footing = [] }

    abbrev OneCase : ℕ → Type 0
    OneCase c = InductCase U.theory vs K.known K.part U.facts (length U.facts) new x P c

    induct_case_ok : (z : Sexp) (c : ℕ) → CaseFree z → (m : Made) → Ok (λ _. OneCase c) (induct_case U M z c m)
    unfolding induct_case CaseFree Cases sig HypOf Below count rest Distinct In Fit
    induct_case_ok z c calm m =
        ok_then (ok_items 41 z m) (λ ys m₁ ez.
        ok_then (ok_index 41 (item ys 0) m₁) (λ i m₂ pt.
        ok_then (ok_ask 41 (eqb (count ys) (suc (length (inputs U.theory c)))) m₂) (λ _ m₃ ec.
        ok_then (case_vars_ok (rest ys 1) [] (inputs U.theory c) [] m₃ (shorter ys (length (inputs U.theory c)) (eqb-true (count ys) (suc (length (inputs U.theory c))) ec))
        (record { fit = tt; distinct = tt; fresh = λ y i. absurd i })) (λ zs m₄ cv.
        ok_then (keep_vars_ok zs m₄) (λ ts m₅ et.
        ok_then (keep_ok (app c ts) m₅) (λ t m₆ e.
        ok_then (substitute_ok (single x t) J m₆) (λ j m₇ ej.
        ok_then (substitutes_ok (single x t) P m₇) (λ ps m₈ ep.
        ok_then (hypotheses_ok (Below vs x zs) zs (inputs U.theory c) cv.fit (λ y i q. (i, q)) m₈) (λ ihs m₉ hi.
        ok_then (fact_ok U i m₉) (λ f m₁₀ a.
        ok_then (ok_ask 43 (same_tree f.judgment j) m₁₀) (λ _ m₁₁ sj.
        ok_map (λ _ sa. record {
          ys = zs;
          fit = cv.fit;
          distinct = cv.distinct;
          fresh = cv.fresh;
          g = f;
          cites = cite K U vs w (length U.facts) f i a (calm i f (subst (λ u. Cases u i) (sym ez) pt) a);
          proves = same_tree_true f.judgment j sj ∙ (ej ∙ ap (λ u. at x u J) (e ∙ ap (app c) et));
          allowed = λ h k. allowed_ok c zs ps ihs (ep ∙ ap (λ u. ats x u P) (e ∙ ap (app c) et)) hi h
              (subst (λ o. allowed_hyp M ps ihs o ≡ true) (at_entry U.facts k.0 h k.2)
              (all_in (λ h. allowed_hyp M ps ihs (entry U.facts h)) f.hyps k.0 sa k.1));
        })
        (ok_ask 44 (all (λ h. allowed_hyp M ps ihs (entry U.facts h)) f.hyps) m₁₁))))))))))))
      where
        shorter : (ys : Sexps) (n : ℕ) → count ys ≡ suc n → count (rest ys 1) ≡ n
        shorter nil n e = absurd (let z : ⊥ = omega arith in z)
        shorter (cons y nil) n e = omega arith
        shorter (cons y (cons z zs)) n e = omega arith

    induct_cases_ok : (zs : Sexps) (cs : List ℕ) → count zs ≡ length cs → ((z : Sexp) → Item z zs → CaseFree z) → (m : Made)
        → Ok (λ _. (c : ℕ) → In c cs → OneCase c) (induct_cases U M zs cs m)
    unfolding induct_cases count Item In
    induct_cases_ok nil [] e k m = done (λ c i. absurd i)
    induct_cases_ok nil (c ∷ cs) e k m = absurd (let z : ⊥ = omega arith in z)
    induct_cases_ok (cons z zs) [] e k m = absurd (let z : ⊥ = omega arith in z)
    induct_cases_ok (cons z zs) (c ∷ cs) e k m =
        ok_then (induct_case_ok z c (k z (inl refl)) m) (λ _ m₁ h.
        ok_map (λ _ r d i. elim i [ inl q ↦ subst (λ u. OneCase u) (sym q) h | inr j ↦ r d j ])
        (induct_cases_ok zs cs (omega arith) (λ y i. k y (inr i)) m₁))

-- The form --------------------------------------------------------------------------------------------------------------------------

-- every constructor of a sort is listed
constructor_in : (T : Theory) (s c : ℕ) → c < length T.symbols → output T c ≡ s → In c (constructors T s)
unfolding constructors output
constructor_in T s c l e =
    subst (λ z. In z (every (λ d. eqb d.output s) T.symbols 0)) (let z : 0 + c ≡ c = omega arith in z)
    (every_in (λ d. eqb d.output s) no_symbol T.symbols 0 c l (eq-eqb (get_or T.symbols c no_symbol).output s e))

module _ (K : Sets) (U : State) (vs : ℕ → ℕ) (w : Well U vs) where
  -- the same of the cases of a list
  unfoldable pub CasesFree : Sexp → Type 0
  CasesFree y = (z : Sexp) → ItemOf z y → (i : ℕ) (f : Fact) → Cases z i → At U.facts i f → (f.premises ≡ none) × Citable K U vs w (length U.facts) i

  induct_on_ok : (x : ℕ) → x < length U.vars → (hs : List ℕ) → HypsOk is_plain U hs → (y z : Sexp) → CasesFree z → (m : Made)
      → Ok (λ f. Fine K U vs w f) (induct_on U x hs y z m)
  unfolding induct_on HypsOk CasesFree ItemOf CaseFree Agree Judgments HypOf sig
  induct_on_ok x l hs ho y z calm m =
      ok_then (judgment_ok U vs w y m) (λ j m₁ jo.
      ok_then (ok_items 41 z m₁) (λ cs m₂ ez.
      ok_then (ok_ask 41 (eqb (count cs) (length (constructors U.theory (sort_of_var U.vars x)))) m₂) (λ _ m₃ ec.
      ok_then (ok_ask 45 (motive_vars (motive j) x) m₃) (λ _ m₄ em.
      ok_then (induct_cases_ok K U vs w (motive j) (w.agree x l) hs cs (constructors U.theory (sort_of_var U.vars x))
      (eqb-true (count cs) (length (constructors U.theory (sort_of_var U.vars x))) ec)
      (λ u i. calm u (subst (λ v. ItemOf u v) (sym ez) i)) m₄) (λ _ m₅ co.
      done (record {
        well = record {
          judgment = jo;
          premises = tt;
          hyps = λ h i. (let r = ho h i in let q = at_below U.facts h r.0 r.1 in omega arith);
          derived = λ _. refl;
        };
        form = an_induct (record {
          plain = refl;
          x = x;
          P = judgments_at U.facts hs;
          backed = λ t i.
              let r = judgments_at_lem U.facts hs (λ h k. (let g = ho h k in (g.0, g.1))) t i in
              (r.1, (r.0, r.2, r.3), plain r.0 r.1 r.2 r.3, r.4);
          motive = motive_true (motive j) x em;
          cases = λ c k o. co c (constructor_in U.theory (sort_of_var U.vars x) c k (o ∙ sym (w.agree x l)));
        });
      }))))))
    where
      motive : Tree → MotiveOf
      motive j = record { variable = x; sort = sort_of_var U.vars x; judgment = j; premises = judgments_at U.facts hs }

      plain : (h : ℕ) (g : Fact) → In h hs → At U.facts h g → Plain g
      plain h g i a =
          let r = ho h i in
          (is_plain_lem g (subst (λ (f : Fact). is_plain f ≡ true) (same_at r.0 r.1) r.2)).1
        where
          same_at : (f : Fact) → At U.facts h f → f ≡ g
          same_at f b = at_unique U.facts h f g b a

  pub induct_ok : (xs : Sexps) → CasesFree (item xs 4) → (m : Made) → Ok (λ f. Fine K U vs w f) (induct U xs m)
  unfolding induct HypsOk In
  induct_ok xs calm m =
      ok_then (variable_ok 36 U (item xs 2) m) (λ x m₁ l. induct_on_ok x l [] (λ h i. absurd i) (item xs 3) (item xs 4) calm m₁)

  pub induct_with_ok : (xs : Sexps) → CasesFree (item xs 5) → (m : Made) → Ok (λ f. Fine K U vs w f) (induct_with U xs m)
  unfolding induct_with
  induct_with_ok xs calm m =
      ok_then (variable_ok 36 U (item xs 2) m) (λ x m₁ l.
      ok_then (hyp_list_ok is_plain U (item xs 3) m₁) (λ hs m₂ ho. induct_on_ok x l hs ho (item xs 4) (item xs 5) calm m₂))
