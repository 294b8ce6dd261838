-- What is read is well-sorted over the variables that are there: terms, judgments, variables, facts named by number. Of a well state.
use Rattle.std.specs.Prelude.{ℕ, ◌<◌, ◌≡◌, ◌⊎◌, ◌&&◌, not, eqb, leb, get_or, Some as some}
use Rattle.std.proofs.Math.Path.{refl, sym, subst}
use Rattle.std.proofs.Common.{inl, inr, eqb-true}
use Rattle.std.proofs.Math.Bool.{true, false}
use mathlib.Core.List.{List, [], ◌∷◌, ◌++◌}
use Rattle.std.proofs.Math.ListN.{length}
use Rattle.rules.specs.Text.{same}
use Rattle.rules.specs.Sexp.{Sexp, Sexps, atom, list, nil, cons, count, item, rest, name, marked}
use Rattle.rules.specs.Find.{entry, has}
use Rattle.rules.specs.Tree.{Tree, Trees, var, app, none, more}
use Rattle.rules.specs.Store.{Made, keep}
use Rattle.rules.specs.Theory.{Theory, no_symbol, no_rule, inputs, output, is_predicate, constructor_named, predicate_named, rule_named}
use Rattle.rules.specs.State.{State, Var, no_var, sort_of, fit, var_named, abbreviated, is_empty}
use Rattle.rules.specs.Read.{variable, others, vars_list, named, term, compound, terms, term_of, judgment, judgment_each, judgments}
use Rattle.rules.specs.Reference.{fact_at}
use Rattle.meaning.specs.Trees.Tree.{Occ, Occs, Sorted, Sorteds, In}
use Rattle.meaning.specs.Trees.Tests.{true_false, and_true}
use Rattle.meaning.specs.Unification.Acts.{Ok, done, stopped, ok_then, ok_any, keep_ok}
use Rattle.meaning.specs.Signature.{sig, PROP}
use Rattle.meaning.specs.Truth.{At}
use Rattle.meaning.specs.Trees.Replace.{Distinct}
use Rattle.meaning.specs.Bridge.Asked.{both_true, not-true, ok_ask, ok_found, ok_map, ok_if, ok_case, ok_items, first_zero, entry_at, in_has}
use Rattle.meaning.specs.Bridge.Well.{IsApp, Typed, Judgment, Judgments, Agree, Well}

-- Look-ups by name ------------------------------------------------------------------------------------------------------------------

pub constructor_known : (T : Theory) (x : List ℕ) (c : ℕ) → constructor_named T x ≡ some c → c < length T.symbols
unfolding constructor_named
constructor_known T x c e = (first_zero (λ s. not (is_predicate s) && same s.name.bytes x) no_symbol T.symbols c e).0

pub predicate_known : (T : Theory) (x : List ℕ) (c : ℕ) → predicate_named T x ≡ some c → (c < length T.symbols) × (output T c ≡ PROP)
unfolding predicate_named is_predicate output
predicate_known T x c e =
    let r = first_zero (λ s. is_predicate s && same s.name.bytes x) no_symbol T.symbols c e in (
      r.0,
      eqb-true (get_or T.symbols c no_symbol).output 0
          (both_true (is_predicate (get_or T.symbols c no_symbol)) (same (get_or T.symbols c no_symbol).name.bytes x) r.1).0,
    )

pub rule_known : (T : Theory) (x : List ℕ) (r : ℕ) → rule_named T x ≡ some r → r < length T.rules
unfolding rule_named
rule_known T x r e = (first_zero (λ s. same s.name.bytes x) no_rule T.rules r e).0

pub var_known : (xs : List Var) (x : List ℕ) (v : ℕ) → var_named xs x ≡ some v → v < length xs
unfolding var_named
var_known xs x v e = (first_zero (λ y. same y.name.bytes x) no_var xs v e).0

pub variable_ok : {S : Type 0} (k : ℕ) (U : State) (x : Sexp) (s : S) → Ok (λ v. v < length U.vars) (variable k U x s)
unfolding variable
variable_ok k U x s = ok_then (ok_any (name k x s)) (λ a s' _. ok_map (λ v e. var_known U.vars a.bytes v e) (ok_found k (var_named U.vars a.bytes) s'))

pub fact_ok : {S : Type 0} (U : State) (i : ℕ) (s : S) → Ok (λ f. At U.facts i f) (fact_at U i s)
unfolding fact_at
fact_ok U i s = ok_map (λ f e. entry_at U.facts i f e) (ok_found 34 (entry U.facts i) s)

-- Lists of variables --------------------------------------------------------------------------------------------------------------

pub in_snoc : (xs : List ℕ) (y v : ℕ) → In v (xs ++ (y ∷ [])) → In v xs ⊎ (v ≡ y)
unfolding In
in_snoc [] y v (inl e) = inr e
in_snoc [] y v (inr e) = absurd e
in_snoc (x ∷ xs) y v (inl e) = inl (inl e)
in_snoc (x ∷ xs) y v (inr i) = elim (in_snoc xs y v i) [ inl j ↦ inl (inr j) | inr e ↦ inr e ]

pub distinct_snoc : (xs : List ℕ) (y : ℕ) → Distinct xs → ¬ (In y xs) → Distinct (xs ++ (y ∷ []))
unfolding Distinct In
distinct_snoc [] y d n = (λ i. i, tt)
distinct_snoc (x ∷ xs) y d n =
    (λ i. elim (in_snoc xs y x i) [ inl j ↦ d.0 j | inr e ↦ n (inl (sym e)) ], distinct_snoc xs y d.1 (λ i. n (inr i)))

pub not_has : (xs : List ℕ) (v : ℕ) → not (has xs v) ≡ true → ¬ (In v xs)
not_has xs v e i = true_false (has xs v) (in_has xs v i) (not-true (has xs v) e)

-- each given once, each a variable that is there
unfoldable pub VarsOk : ℕ → List ℕ → Type 0
VarsOk n ys = Distinct ys × ((v : ℕ) → In v ys → v < n)

vars_snoc : (n : ℕ) (ys : List ℕ) (v : ℕ) → VarsOk n ys → v < n → ¬ (In v ys) → VarsOk n (ys ++ (v ∷ []))
unfolding VarsOk
vars_snoc n ys v h l e = (distinct_snoc ys v h.0 e, λ z i. elim (in_snoc ys v z i) [ inl j ↦ h.1 z j | inr q ↦ subst (λ k. k < n) (sym q) l ])

others_ok : {S : Type 0} (k : ℕ) (U : State) (xs : Sexps) (ys : List ℕ) (s : S) → VarsOk (length U.vars) ys
    → Ok (λ zs. VarsOk (length U.vars) zs) (others k U xs ys s)
unfolding others
others_ok k U nil ys s h = done h
others_ok k U (cons x xs) ys s h =
    ok_then (variable_ok k U x s) (λ v s' l. ok_then (ok_ask k (not (has ys v)) s')
    (λ _ s'' e. others_ok k U xs (ys ++ (v ∷ [])) s'' (vars_snoc (length U.vars) ys v h l (not_has ys v e))))

pub vars_list_ok : {S : Type 0} (k : ℕ) (U : State) (x : Sexp) (s : S) → Ok (λ zs. VarsOk (length U.vars) zs) (vars_list k U x s)
unfolding vars_list VarsOk Distinct In
vars_list_ok k U x s = ok_then (ok_items k x s) (λ xs s' _. others_ok k U xs [] s' (tt, λ v i. absurd i))

-- Terms -------------------------------------------------------------------------------------------------------------------------

module _ (U : State) (vs : ℕ → ℕ) (w : Well U vs) where
  -- of the sort that the definition gives it
  abbrev pub Own : Tree → Type 0
  Own t = Typed U.theory vs (length U.vars) t (sort_of U.theory U.vars t)

  unfoldable pub Owns : Trees → Type 0
  Owns none = Unit {0}
  Owns (more t ts) = Own t × Owns ts

  var_own : (v : ℕ) → v < length U.vars → Own (var v)
  unfolding Sorted Occ sort_of Agree
  var_own v l = record { sorts = sym (w.agree v l); small = λ z o. subst (λ k. k < length U.vars) (sym o) l }

  fit_sorted : (ts : Trees) (ss : List ℕ) → Owns ts → fit U.theory U.vars ts ss ≡ true → Sorteds (sig U.theory) vs ts ss
  unfolding Owns fit Sorted
  fit_sorted none [] o e = tt
  fit_sorted none (s ∷ ss) o e = true_false false e refl
  fit_sorted (more t ts) [] o e = true_false false e refl
  fit_sorted (more t ts) (s ∷ ss) o e =
      let r = and_true (eqb (sort_of U.theory U.vars t) s) (fit U.theory U.vars ts ss) e in (
        subst (λ z. Sorted (sig U.theory) vs t z) (eqb-true (sort_of U.theory U.vars t) s r.0) o.0.sorts,
        fit_sorted ts ss o.1 r.1,
      )

  owns_small : (ts : Trees) → Owns ts → (v : ℕ) → Occs v ts → v < length U.vars
  unfolding Owns Occ
  owns_small none o v i = absurd i
  owns_small (more t ts) o v (inl i) = o.0.small v i
  owns_small (more t ts) o v (inr i) = owns_small ts o.1 v i

  app_typed : (c : ℕ) (ts : Trees) → c < length U.theory.symbols → Owns ts → fit U.theory U.vars ts (inputs U.theory c) ≡ true
      → Typed U.theory vs (length U.vars) (app c ts) (output U.theory c)
  unfolding Sorted Occ sig
  app_typed c ts l o e = record { sorts = (l, refl, fit_sorted ts (inputs U.theory c) o e); small = λ v i. owns_small ts o v i }

  app_own : (c : ℕ) (ts : Trees) → c < length U.theory.symbols → Owns ts → fit U.theory U.vars ts (inputs U.theory c) ≡ true
      → Own (app c ts)
  unfolding sort_of
  app_own c ts l o e = app_typed c ts l o e

  empty_fit : (ss : List ℕ) → is_empty ss ≡ true → fit U.theory U.vars none ss ≡ true
  unfolding is_empty fit
  empty_fit [] e = refl
  empty_fit (s ∷ ss) e = e

  kept : (t : Tree) (m : Made) → Own t → Ok (λ u. Own u) (keep t m)
  kept t m o = ok_map (λ u e. subst (λ z. Own z) (sym e) o) (keep_ok t m)

  named_ok : (x : List ℕ) (m : Made) → Ok (λ t. Own t) (named U x m)
  unfolding named Owns
  named_ok x m =
      ok_case (var_named U.vars x) _ _ m
      (λ v e. kept (var v) m (var_own v (var_known U.vars x v e)))
      (λ _. ok_then (ok_found 22 (constructor_named U.theory x) m) (λ c m' e.
      ok_then (ok_ask 23 (is_empty (inputs U.theory c)) m') (λ _ m'' f.
      kept (app c none) m'' (app_own c none (constructor_known U.theory x c e) tt (empty_fit (inputs U.theory c) f)))))

  mutual
    unfolding term Owns

    pub term_ok : (x : Sexp) (m : Made) → Ok (λ t. Own t) (term U x m)
    term_ok (atom p bs) m =
        ok_if (marked bs) _ _ m (λ _. ok_map (λ t e. w.defs bs t e) (ok_found 22 (abbreviated U.defs bs) m)) (λ _. named_ok bs m)
    term_ok (list xs) m = compound_ok xs m

    compound_ok : (xs : Sexps) (m : Made) → Ok (λ t. Own t) (compound U xs m)
    compound_ok nil m = stopped
    compound_ok (cons x xs) m =
        ok_then (ok_any (name 22 x m)) (λ n m₁ _.
        ok_then (ok_found 22 (constructor_named U.theory n.bytes) m₁) (λ c m₂ e.
        ok_then (ok_ask 23 (leb 1 (count xs)) m₂) (λ _ m₃ _.
        ok_then (terms_ok xs m₃) (λ ts m₄ o.
        ok_then (ok_ask 23 (fit U.theory U.vars ts (inputs U.theory c)) m₄) (λ _ m₅ f.
        kept (app c ts) m₅ (app_own c ts (constructor_known U.theory n.bytes c e) o f))))))

    pub terms_ok : (xs : Sexps) (m : Made) → Ok (λ ts. Owns ts) (terms U xs m)
    terms_ok nil m = done tt
    terms_ok (cons x xs) m = ok_then (term_ok x m) (λ t m₁ o. ok_then (terms_ok xs m₁) (λ ts m₂ os. done (o, os)))

  pub term_of_ok : (x : Sexp) (s : ℕ) (m : Made) → Ok (λ t. Typed U.theory vs (length U.vars) t s) (term_of U x s m)
  unfolding term_of
  term_of_ok x s m =
      ok_then (term_ok x m) (λ t m₁ o. ok_then (ok_ask 23 (eqb (sort_of U.theory U.vars t) s) m₁)
      (λ _ m₂ e. done (subst (λ z. Typed U.theory vs (length U.vars) t z) (eqb-true (sort_of U.theory U.vars t) s e) o)))

  pub judgment_ok : (x : Sexp) (m : Made) → Ok (λ t. Judgment U.theory vs (length U.vars) t) (judgment U x m)
  unfolding judgment IsApp
  judgment_ok x m =
      ok_then (ok_items 22 x m) (λ xs m₁ _.
      ok_then (ok_any (name 22 (item xs 0) m₁)) (λ n m₂ _.
      ok_then (ok_found 22 (predicate_named U.theory n.bytes) m₂) (λ p m₃ e.
      ok_then (terms_ok (rest xs 1) m₃) (λ ts m₄ o.
      ok_then (ok_ask 23 (fit U.theory U.vars ts (inputs U.theory p)) m₄) (λ _ m₅ f.
      ok_map (λ u q. subst (λ z. Judgment U.theory vs (length U.vars) z) (sym q) (good p ts (predicate_known U.theory n.bytes p e) o f))
      (keep_ok (app p ts) m₅))))))
    where
      good : (p : ℕ) (ts : Trees) → (p < length U.theory.symbols) × (output U.theory p ≡ PROP) → Owns ts
          → fit U.theory U.vars ts (inputs U.theory p) ≡ true → Judgment U.theory vs (length U.vars) (app p ts)
      good p ts k o f = record {
        typed = subst (λ z. Typed U.theory vs (length U.vars) (app p ts) z) k.1 (app_typed p ts k.0 o f);
        shape = tt;
      }

  pub judgment_each_ok : (xs : Sexps) (m : Made) → Ok (λ ts. Judgments U.theory vs (length U.vars) ts) (judgment_each U xs m)
  unfolding judgment_each Judgments
  judgment_each_ok nil m = done tt
  judgment_each_ok (cons x xs) m = ok_then (judgment_ok x m) (λ t m₁ j. ok_then (judgment_each_ok xs m₁) (λ ts m₂ js. done (j, js)))

  pub judgments_ok : (x : Sexp) (m : Made) → Ok (λ ts. Judgments U.theory vs (length U.vars) ts) (judgments U x m)
  unfolding judgments
  judgments_ok x m = ok_then (ok_items 22 x m) (λ xs m₁ _. judgment_each_ok xs m₁)
