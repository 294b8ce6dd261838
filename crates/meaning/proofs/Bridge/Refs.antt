-- References, bindings, lists of hypotheses and question 39: what the definition takes of them is what the forms' lemmas ask. Of a well
-- state.
use Rattle.std.specs.Prelude.{ℕ, zero, suc, ◌<◌, ◌≡◌, ◌⊎◌, Bool, ◌&&◌, ◌||◌, not, eqb, Option, Some as some, None as nothing}
use Rattle.std.proofs.Math.Path.{refl, subst}
use Rattle.std.proofs.Common.{sym, ◌∙◌, ap}
use Rattle.std.proofs.Math.Logic.{inl, inr}
use Rattle.std.proofs.Math.Bool.{true, false}
use mathlib.Core.List.{List, [], ◌∷◌}
use Rattle.std.proofs.Math.ListN.{length}
use Rattle.rules.specs.Sexp.{Sexp, Sexps, atom, list, nil, cons, count, item, rest}
use Rattle.rules.specs.Find.{Set, entry, has, union, minus, least}
use Rattle.rules.specs.Tree.{Tree, Trees, none, more, variables, variables_of, sub}
use Rattle.rules.specs.Store.{Made}
use Rattle.rules.specs.Theory.{Theory}
use Rattle.rules.specs.Unify.{Binding, along, insert}
use Rattle.rules.specs.State.{State, Fact, sort_of_var, is_empty, is_none, mentioned, free, free_at, hyp_vars}
use Rattle.rules.specs.Reference.{binding, is_bound, bindings, Ref, instance, reference, hyp_each, hyp_list, judgment_of, judgments_at, outside, scoped}
use Rattle.rules.specs.Step.{Refs, no_refs, with_ref, references}
use Rattle.meaning.specs.Trees.Tree.{Occ, Sorted, In, Among}
use Rattle.meaning.specs.Trees.Tests.{true_false, variables_true, variables_of_true}
use Rattle.meaning.specs.Unification.Acts.{Ok, done, stopped, ok_then, substitute_ok}
use Rattle.meaning.specs.Unification.List.{Each, along_cases, each_insert}
use Rattle.meaning.specs.Signature.{sig}
use Rattle.meaning.specs.Truth.{Mentions, Free, At}
use Rattle.meaning.specs.Lemmas.Forms.{Cites, Ref as RefForm, bare, inst, Refs as RefForms}
use Rattle.meaning.specs.Named.{Points, Item, Refers, RuleHyp}
use Rattle.meaning.specs.Sets.{Sets}
use Rattle.meaning.specs.Bridge.Asked.{both_true, either_true, not-true, ok_ask, ok_map, ok_items, ok_index, entry_at, at_entry, has_in, in_has, in_rising, least_zero}
use Rattle.meaning.specs.Bridge.Well.{Typed, Judgment, Judgments, WellFact, Agree, Well, judgment_sub}
use Rattle.meaning.specs.Bridge.Read.{variable_ok, fact_ok, term_of_ok}

-- Small tests -----------------------------------------------------------------------------------------------------------------------

pub is_none_lem : (ts : Trees) → is_none ts ≡ true → ts ≡ none
unfolding is_none
is_none_lem none e = refl
is_none_lem (more t ts) e = absurd (true_false false e refl)

pub is_empty_lem : (xs : List ℕ) → is_empty xs ≡ true → xs ≡ []
unfolding is_empty
is_empty_lem [] e = refl
is_empty_lem (x ∷ xs) e = absurd (true_false false e refl)

-- a fact that is no rule hypothesis with premises has none
pub calm_free : (T : Theory) (vs : ℕ → ℕ) (n m : ℕ) (f : Fact) → WellFact T vs n m f → ¬ (RuleHyp f) → f.premises ≡ none
unfolding RuleHyp is_none
calm_free T vs n m f w c = go f.assumed refl
  where
    some_or : (ts : Trees) → (¬ (ts ≡ none) → ⊥) → ts ≡ none
    some_or none h = refl
    some_or (more t ts) h = absurd (h (λ e. true_false (is_none (more t ts)) (ap is_none e) refl))

    go : (b : Bool) → f.assumed ≡ b → f.premises ≡ none
    go false e = w.derived e
    go true e = some_or f.premises (λ n. c (e, n))

-- Question 39 -----------------------------------------------------------------------------------------------------------------------

hyp_free : (f : Fact) (v : ℕ) → free f v ≡ true → Free v f
unfolding free mentioned Free Mentions
hyp_free f v e =
    let r = both_true (variables f.judgment v || variables_of f.premises v) (not (has f.general v)) e in (
      elim (either_true (variables f.judgment v) (variables_of f.premises v) r.0) [
        | inl p ↦ inl (variables_true f.judgment v p)
        | inr p ↦ inr (variables_of_true f.premises v p)
      ],
      λ i. true_false (has f.general v) (in_has f.general v i) (not-true (has f.general v) r.1),
    )

pub hyp_vars_lem : (fs : List Fact) (hs : List ℕ) (v : ℕ) → hyp_vars fs hs v ≡ true → (g : Fact) × ((h : ℕ) × In h hs × At fs h g) × Free v g
unfolding hyp_vars In free_at
hyp_vars_lem fs [] v e = absurd (true_false false e refl)
hyp_vars_lem fs (h ∷ hs) v e =
    elim (either_true (free_at (entry fs h) v) (hyp_vars fs hs v) e) [
      | inl p ↦ one (entry fs h) refl p
      | inr p ↦ (let r = hyp_vars_lem fs hs v p in (r.0, (r.1.0, inr r.1.1, r.1.2), r.2))
    ]
  where
    one : (o : Option Fact) → entry fs h ≡ o → free_at o v ≡ true → (g : Fact) × ((k : ℕ) × ((k ≡ h) ⊎ In k hs) × At fs k g) × Free v g
    one nothing q p = absurd (true_false false p refl)
    one (some g) q p = (g, (h, inl refl, entry_at fs h g q), hyp_free g v p)

outside_ok : {S : Type 0} (k : ℕ) (s : S) → Ok (λ _. k ≡ 0) (outside k s)
unfolding outside
outside_ok zero s = done refl
outside_ok (suc k) s = stopped

-- what is used is in the conclusion or free in a hypothesis
unfoldable pub Scoped : State → Set → Tree → List ℕ → Type 0
Scoped U used j hs =
    (v : ℕ) → v < length U.vars → used v ≡ true → Occ v j ⊎ ((g : Fact) × ((h : ℕ) × In h hs × At U.facts h g) × Free v g)

pub scoped_ok : {S : Type 0} (U : State) (used : Set) (j : Tree) (hs : List ℕ) (s : S) → Ok (λ _. Scoped U used j hs) (scoped U used j hs s)
unfolding scoped Scoped
scoped_ok U used j hs s =
    ok_map (λ _ e v l u. out v (within (used v) (variables j v || hyp_vars U.facts hs v) u
    (least_zero (length U.vars) (minus used (union (variables j) (hyp_vars U.facts hs))) v e l)))
    (outside_ok (least (length U.vars) (minus used (union (variables j) (hyp_vars U.facts hs)))) s)
  where
    within : (b c : Bool) → b ≡ true → (b && not c) ≡ false → c ≡ true
    within true true u e = refl
    within true false u e = sym e
    within false c u e = absurd (true_false false u refl)

    out : (v : ℕ) → (variables j v || hyp_vars U.facts hs v) ≡ true
        → Occ v j ⊎ ((g : Fact) × ((h : ℕ) × In h hs × At U.facts h g) × Free v g)
    out v e = elim (either_true (variables j v) (hyp_vars U.facts hs v) e) [
      | inl p ↦ inl (variables_true j v p)
      | inr p ↦ inr (hyp_vars_lem U.facts hs v p)
    ]

-- Lists of hypotheses ---------------------------------------------------------------------------------------------------------------

-- each an earlier fact that passes the test
unfoldable pub HypsOk : (Fact → Bool) → State → List ℕ → Type 0
HypsOk p U hs = (h : ℕ) → In h hs → (g : Fact) × At U.facts h g × (p g ≡ true)

hyp_each_ok : {S : Type 0} (p : Fact → Bool) (U : State) (xs : Sexps) (s : S) → Ok (λ hs. HypsOk p U hs) (hyp_each p U xs s)
unfolding hyp_each HypsOk In
hyp_each_ok p U nil s = done (λ h i. absurd i)
hyp_each_ok p U (cons x xs) s =
    ok_then (ok_index 34 x s) (λ i s₁ _.
    ok_then (fact_ok U i s₁) (λ f s₂ a.
    ok_then (ok_ask 40 (p f) s₂) (λ _ s₃ e.
    ok_then (hyp_each_ok p U xs s₃) (λ is s₄ r. done (λ h j. elim j [
      | inl q ↦ (f, subst (λ z. At U.facts z f) (sym q) a, e)
      | inr k ↦ r h k
    ])))))

pub hyp_list_ok : {S : Type 0} (p : Fact → Bool) (U : State) (x : Sexp) (s : S) → Ok (λ hs. HypsOk p U hs) (hyp_list p U x s)
unfolding hyp_list HypsOk
hyp_list_ok p U x s =
    ok_then (ok_items 34 x s) (λ xs s₁ _. ok_then (hyp_each_ok p U xs s₁)
    (λ is s₂ r. done (λ h i. r h (has_in is h (in_rising (length U.facts) (has is) h i).1))))

pub judgment_at : (fs : List Fact) (h : ℕ) (g : Fact) → At fs h g → judgment_of (entry fs h) ≡ g.judgment
unfolding judgment_of
judgment_at fs h g a = ap judgment_of (at_entry fs h g a)

-- of a listed fact the judgment is among theirs
pub at_judgments : (fs : List Fact) (hs : List ℕ) (h : ℕ) (g : Fact) → In h hs → At fs h g → Among g.judgment (judgments_at fs hs)
unfolding judgments_at In Among
at_judgments fs [] h g i a = absurd i
at_judgments fs (k ∷ hs) h g (inl e) a = inl (sym (judgment_at fs k g (subst (λ z. At fs z g) e a)))
at_judgments fs (k ∷ hs) h g (inr i) a = inr (at_judgments fs hs h g i a)

-- and each of their judgments is a listed fact's
pub judgments_at_lem : (fs : List Fact) (hs : List ℕ) → ((h : ℕ) → In h hs → (g : Fact) × At fs h g) → (t : Tree) → Among t (judgments_at fs hs)
    → (h : ℕ) × (g : Fact) × In h hs × At fs h g × (g.judgment ≡ t)
unfolding judgments_at In Among
judgments_at_lem fs [] r t i = absurd i
judgments_at_lem fs (k ∷ hs) r t (inl e) =
    let q = r k (inl refl) in (k, q.0, inl refl, q.1, sym (judgment_at fs k q.0 q.1) ∙ sym e)
judgments_at_lem fs (k ∷ hs) r t (inr i) =
    let q = judgments_at_lem fs hs (λ h j. r h (inr j)) t i in (q.0, q.1, inr q.2, q.3, q.4)

-- Bindings --------------------------------------------------------------------------------------------------------------------------

module _ (U : State) (vs : ℕ → ℕ) (w : Well U vs) where
  abbrev pub BindsOk : List Binding → Type 0
  BindsOk bs = Each (λ v t. (v < length U.vars) × Typed U.theory vs (length U.vars) t (vs v)) bs

  binding_ok : (x : Sexp) (m : Made)
      → Ok (λ b. (b.variable < length U.vars) × Typed U.theory vs (length U.vars) b.value (vs b.variable)) (binding U x m)
  unfolding binding Agree
  binding_ok x m =
      ok_then (ok_items 36 x m) (λ ys m₁ _.
      ok_then (ok_ask 36 (eqb (count ys) 2) m₁) (λ _ m₂ _.
      ok_then (variable_ok 36 U (item ys 0) m₂) (λ v m₃ l.
      ok_then (term_of_ok U vs w (item ys 1) (sort_of_var U.vars v) m₃) (λ t m₄ y.
      done (l, subst (λ z. Typed U.theory vs (length U.vars) t z) (w.agree v l) y)))))

  pub bindings_ok : (xs : Sexps) (bs : List Binding) (m : Made) → BindsOk bs → Ok (λ cs. BindsOk cs) (bindings U xs bs m)
  unfolding bindings
  bindings_ok nil bs m h = done h
  bindings_ok (cons x xs) bs m h =
      ok_then (binding_ok x m) (λ b m₁ y. ok_then (ok_ask 36 (not (is_bound bs b.variable)) m₁)
      (λ _ m₂ _. bindings_ok xs (insert b bs) m₂
      (each_insert b (λ v t. (v < length U.vars) × Typed U.theory vs (length U.vars) t (vs v)) bs y h)))

  -- as replacements they keep sorts
  pub along_sorted : (bs : List Binding) → BindsOk bs → (v : ℕ) → Sorted (sig U.theory) vs (along bs v) (vs v)
  unfolding Sorted
  along_sorted bs h v =
      elim (along_cases (λ v t. (v < length U.vars) × Typed U.theory vs (length U.vars) t (vs v)) bs h v) [
        | inl p ↦ p.1.1.sorts
        | inr p ↦ subst (λ t. Sorted (sig U.theory) vs t (vs v)) (sym p.1) refl
      ]

  pub along_typed : (bs : List Binding) → BindsOk bs → (v : ℕ) → v < length U.vars
      → Typed U.theory vs (length U.vars) (along bs v) (vs v)
  unfolding Occ
  along_typed bs h v l = record { sorts = along_sorted bs h v; small = small }
    where
      small : (z : ℕ) → Occ z (along bs v) → z < length U.vars
      small z o = elim (along_cases (λ v t. (v < length U.vars) × Typed U.theory vs (length U.vars) t (vs v)) bs h v) [
        | inl p ↦ p.1.1.small z o
        | inr p ↦ subst (λ k. k < length U.vars) (sym (subst (λ t. Occ z t) p.1 o)) l
      ]

  pub along_judgment : (bs : List Binding) → BindsOk bs → (t : Tree) → Judgment U.theory vs (length U.vars) t
      → Judgment U.theory vs (length U.vars) (sub (along bs) t)
  along_judgment bs h t j =
      judgment_sub U.theory vs (length U.vars) vs (along bs) t j.typed.sorts j.shape
      (λ v o. along_typed bs h v (j.typed.small v o))

-- References ------------------------------------------------------------------------------------------------------------------------

-- K: the rules on which each fact rests, and those that it tolerates
module _ (K : Sets) (U : State) (vs : ℕ → ℕ) (w : Well U vs) where
  -- fact n may cite fact i: it rests on what that rests on, and tolerates no more
  unfoldable pub Citable : ℕ → ℕ → Type 0
  Citable n i = ((r : ℕ) → K.part i r → K.part n r) × ((r : ℕ) → K.known n r → K.known i r)

  pub cite : (n : ℕ) (g : Fact) (i : ℕ) → At U.facts i g → (g.premises ≡ none) × Citable n i
      → Cites U.theory vs K.known K.part U.facts n g
  unfolding Citable
  cite n g i a p = record { place = i; at = a; free = p.0; rules = p.1.0; known = p.1.1 }

  pub record RefOk (n : ℕ) (r : Ref) : Type 0 where
    pub sound : Judgment U.theory vs (length U.vars) r.judgment
    pub below : (h : ℕ) → In h r.hyps → h < length U.facts
    pub gives : (f : Fact) → ((h : ℕ) → In h r.hyps → In h f.hyps) → RefForm U.theory vs K.known K.part U.facts n f r.judgment

  -- the facts that x names have no premises, and fact n may cite them
  unfoldable pub FreeOfRules : ℕ → Sexp → Type 0
  FreeOfRules n x = (i : ℕ) (f : Fact) → Refers x i → At U.facts i f → (f.premises ≡ none) × Citable n i

  instance_ok : (n : ℕ) (xs : Sexps) → ((i : ℕ) (f : Fact) → Points (item xs 0) i → At U.facts i f → (f.premises ≡ none) × Citable n i) → (m : Made)
      → Ok (λ r. RefOk n r) (instance U xs m)
  unfolding instance Each In
  instance_ok n xs c m =
      ok_then (ok_index 34 (item xs 0) m) (λ i m₁ p.
      ok_then (fact_ok U i m₁) (λ f m₂ a.
      ok_then (ok_ask 35 (is_empty f.hyps) m₂) (λ _ m₃ e.
      ok_then (bindings_ok U vs w (rest xs 1) [] m₃ tt) (λ bs m₄ b.
      ok_then (substitute_ok (along bs) f.judgment m₄) (λ t m₅ q.
      done (record {
        sound = subst (λ z. Judgment U.theory vs (length U.vars) z) (sym q) (along_judgment U vs w bs b f.judgment (w.facts i f a).judgment);
        below = λ h j. absurd j;
        gives = λ g s. inst f (cite n f i a (c i f p a)) (is_empty_lem f.hyps e) (along bs) (along_sorted U vs w bs b) (sym q);
      }))))))

  pub reference_ok : (n : ℕ) (x : Sexp) → FreeOfRules n x → (m : Made) → Ok (λ r. RefOk n r) (reference U x m)
  unfolding reference FreeOfRules Refers
  reference_ok n (atom p bs) c m =
      ok_then (ok_index 34 (atom p bs) m) (λ i m₁ q.
      ok_then (fact_ok U i m₁) (λ f m₂ a.
      done (record {
        sound = (w.facts i f a).judgment;
        below = λ h j. (w.facts i f a).hyps h j;
        gives = λ g s. bare f (cite n f i a (c i f q a)) s refl;
      })))
  reference_ok n (list xs) c m = instance_ok n xs c m

  pub record RefsOk (n : ℕ) (rs : Refs) : Type 0 where
    pub sound : Judgments U.theory vs (length U.vars) rs.judgments
    pub below : (h : ℕ) → rs.hyps h ≡ true → h < length U.facts
    pub gives : (f : Fact) → ((h : ℕ) → rs.hyps h ≡ true → In h f.hyps) → RefForms U.theory vs K.known K.part U.facts n f rs.judgments

  pub no_refs_ok : (n : ℕ) → RefsOk n no_refs
  unfolding Judgments RefForms
  no_refs_ok n = record { sound = tt; below = λ h e. absurd (true_false false e refl); gives = λ f s. tt }

  pub with_ref_ok : (n : ℕ) (r : Ref) (rs : Refs) → RefOk n r → RefsOk n rs → RefsOk n (with_ref r rs)
  unfolding Judgments RefForms
  with_ref_ok n r rs a b = record {
    sound = (a.sound, b.sound);
    below = λ h e. elim (either_true (has r.hyps h) (rs.hyps h) e) [ inl p ↦ a.below h (has_in r.hyps h p) | inr p ↦ b.below h p ];
    gives = λ f s. (
      a.gives f (λ h i. s h (left (has r.hyps h) (rs.hyps h) (in_has r.hyps h i))),
      b.gives f (λ h e. s h (right (has r.hyps h) (rs.hyps h) e)),
    );
  }
    where
      left : (b c : Bool) → b ≡ true → (b || c) ≡ true
      left true c e = refl
      left false c e = absurd (true_false false e refl)

      right : (b c : Bool) → c ≡ true → (b || c) ≡ true
      right true c e = refl
      right false c e = e

  pub references_ok : (n : ℕ) (xs : Sexps) → ((x : Sexp) → Item x xs → FreeOfRules n x) → (m : Made) → Ok (λ rs. RefsOk n rs) (references U xs m)
  unfolding references Item
  references_ok n nil c m = done (no_refs_ok n)
  references_ok n (cons x xs) c m =
      ok_then (reference_ok n x (c x (inl refl)) m) (λ r m₁ a.
      ok_then (references_ok n xs (λ y i. c y (inr i)) m₁) (λ rs m₂ b. done (with_ref_ok n r rs a b)))
