-- `apply`, on a hypothesis and on another fact: the fact that the definition takes is well-sorted, and satisfies what the form's lemma
-- asks. Of a well state.
use Rattle.std.specs.Prelude.{ℕ, suc, ◌<◌, ◌≡◌, refl, Bool, false, ◌&&◌, ◌||◌, eqb, Option, Some as some, None as nothing}
use native.Mathlib.Omega.{arith}
use Rattle.std.proofs.Math.Path.{sym, ap₂, subst}
use Rattle.std.proofs.Common.{◌∙◌, ap, eqb-true}
use Rattle.std.proofs.Math.Logic.{inl, inr}
use Rattle.std.proofs.Math.Bool.{true}
use mathlib.Core.List.{List, [], ◌∷◌}
use Rattle.std.proofs.Math.ListN.{length}
use Rattle.rules.specs.Sexp.{Sexp, Sexps, nil, cons, count, item}
use Rattle.rules.specs.Find.{entry, all, has, union, rising}
use Rattle.rules.specs.Tree.{Tree, Trees, none, more, variables, variables_of, count_trees, same_tree, sub, subs}
use Rattle.rules.specs.Store.{Made}
use Rattle.rules.specs.Unify.{Binding, along}
use Rattle.rules.specs.State.{State, Fact, is_none, is_empty, is_plain}
use Rattle.rules.specs.Reference.{judgments_at}
use Rattle.rules.specs.Step.{Refs}
use Rattle.rules.specs.Apply.{Applied, plain_at, applied, discharge, value_vars, apply}
use Rattle.meaning.specs.Trees.Tree.{Occ, Occs, In, Among, among_occ, among_subs}
use Rattle.meaning.specs.Trees.Tests.{and_true, same_tree_true, occ_variables, occs_variables_of}
use Rattle.meaning.specs.Unification.Acts.{Ok, done, ok_then, substitute_ok}
use Rattle.meaning.specs.Unification.List.{Bound, Each, along_cases, each_map}
use Rattle.meaning.specs.Truth.{At, HypOf, Needs, Plain}
use Rattle.meaning.specs.Lemmas.Forms.{Ref as RefForm, Refs as RefForms, Allowed, apply_hyp, apply_fact}
use Rattle.meaning.specs.Named.{Points, Item, ItemOf}
use Rattle.meaning.specs.Sets.{Sets}
use Rattle.meaning.specs.Bridge.Asked.{no_some, some_same, both_true, true_left, true_right, ok_ask, ok_if, ok_items, ok_index, at_entry, at_below, all_in, has_in, in_has, rising_in, in_rising}
use Rattle.meaning.specs.Bridge.Well.{Typed, Judgment, Judgments, WellFact, Well, judgments_small}
use Rattle.meaning.specs.Bridge.Read.{fact_ok}
use Rattle.meaning.proofs.Bridge.Refs.{is_none_lem, is_empty_lem, Scoped, scoped_ok, BindsOk, bindings_ok, along_sorted, along_judgment, at_judgments}
use Rattle.meaning.proofs.Bridge.Refs.{Citable, cite, FreeOfRules, reference_ok, RefsOk, no_refs_ok, with_ref_ok}
use Rattle.meaning.proofs.Bridge.Step.{Fine}

-- Small tests -----------------------------------------------------------------------------------------------------------------------

pub is_plain_lem : (f : Fact) → is_plain f ≡ true → (f.assumed ≡ true) × Plain f
unfolding is_plain Plain
is_plain_lem f e =
    let r = both_true f.assumed (is_none f.premises && is_empty f.general) e in
    let s = both_true (is_none f.premises) (is_empty f.general) r.1 in
    (r.0, (is_empty_lem f.general s.1, is_none_lem f.premises s.0))

pub plain_at_lem : (fs : List Fact) (h : ℕ) (g : Fact) → At fs h g → plain_at fs h ≡ true → Plain g
unfolding plain_at
plain_at_lem fs h g a e = go (entry fs h) (at_entry fs h g a) e
  where
    go : (o : Option Fact) → o ≡ some g → elim o as (λ _. Bool) [ some f ↦ is_plain f | nothing ↦ false ] ≡ true → Plain g
    go nothing q p = absurd (no_some q)
    go (some f) q p = (is_plain_lem g (subst (λ (z : Fact). is_plain z ≡ true) (some_same q) p)).1

pub in_here : (i : ℕ) → In i (i ∷ [])
unfolding In
in_here i = inl refl

all_bound_in : (gs : List ℕ) (bs : List Binding) → all (λ b. has gs b.variable) bs ≡ true → Each (λ v t. In v gs) bs
unfolding all Each
all_bound_in gs [] e = tt
all_bound_in gs (b ∷ bs) e =
    let r = and_true (has gs b.variable) (all (λ b. has gs b.variable) bs) e in
    (has_in gs b.variable r.0, all_bound_in gs bs r.1)

-- the variables of every value are among the values' variables
value_vars_lem : (bs : List Binding) → Each (λ v t. (z : ℕ) → Occ z t → value_vars bs z ≡ true) bs
unfolding Each value_vars
value_vars_lem [] = tt
value_vars_lem (b ∷ bs) = (
  λ z o. true_left (variables b.value z) (value_vars bs z) (occ_variables b.value z o),
  each_map (λ v t. (z : ℕ) → Occ z t → value_vars bs z ≡ true) (λ v t. (z : ℕ) → Occ z t → (variables b.value z || value_vars bs z) ≡ true) bs
      (λ v t h z o. true_right (variables b.value z) (value_vars bs z) (h z o)) (value_vars_lem bs),
)

module _ (K : Sets) (U : State) (vs : ℕ → ℕ) (w : Well U vs) where
  refs_among : (f : Fact) (ts : Trees) → RefForms U.theory vs K.known K.part U.facts (length U.facts) f ts → (t : Tree) → Among t ts
      → RefForm U.theory vs K.known K.part U.facts (length U.facts) f t
  unfolding RefForms Among
  refs_among f none r t i = absurd i
  refs_among f (more u us) r t (inl e) = subst (λ z. RefForm U.theory vs K.known K.part U.facts (length U.facts) f z) (sym e) r.0
  refs_among f (more u us) r t (inr i) = refs_among f us r.1 t i

  -- The premises --------------------------------------------------------------------------------------------------------------------

  discharge_ok : (bs : List Binding) (zs : Sexps) (ps : Trees) → count zs ≡ count_trees ps → ((x : Sexp) → Item x zs → FreeOfRules K U vs w (length U.facts) x)
      → (m : Made) → Ok (λ rs. RefsOk K U vs w (length U.facts) rs × (rs.judgments ≡ subs (along bs) ps)) (discharge U bs zs ps m)
  unfolding discharge count count_trees sub Item
  discharge_ok bs nil none e c m = done (no_refs_ok K U vs w (length U.facts), refl)
  discharge_ok bs nil (more p ps) e c m = absurd (let z : ⊥ = omega arith in z)
  discharge_ok bs (cons x xs) none e c m = absurd (let z : ⊥ = omega arith in z)
  discharge_ok bs (cons x xs) (more p ps) e c m =
      ok_then (substitute_ok (along bs) p m) (λ t m₁ q.
      ok_then (reference_ok K U vs w (length U.facts) x (c x (inl refl)) m₁) (λ r m₂ a.
      ok_then (ok_ask 38 (same_tree r.judgment t) m₂) (λ _ m₃ s.
      ok_then (discharge_ok bs xs ps (omega arith) (λ y i. c y (inr i)) m₃) (λ rs m₄ b.
      done (with_ref_ok K U vs w (length U.facts) r rs a b.0, ap₂ more (same_tree_true r.judgment t s ∙ q) b.1)))))

  -- The fact as a rule --------------------------------------------------------------------------------------------------------------

  pub data AppliedOk (bs : List Binding) (i : ℕ) (f : Fact) (a : Applied) : Type 0 where
    on_hyp : Each (λ v t. In v f.general) bs → a ≡ record { premises = f.premises; conclusion = f.judgment; hyps = i ∷ [] }
        → AppliedOk bs i f a
    on_fact : f.assumed ≡ false → all (plain_at U.facts) f.hyps ≡ true
        → a ≡ record { premises = judgments_at U.facts f.hyps; conclusion = f.judgment; hyps = [] } → AppliedOk bs i f a

  applied_ok : (bs : List Binding) (i : ℕ) (f : Fact) (m : Made) → Ok (λ a. AppliedOk bs i f a) (applied U bs i f m)
  unfolding applied
  applied_ok bs i f m =
      ok_if f.assumed _ _ m
      (λ _. ok_then (ok_ask 36 (all (λ b. has f.general b.variable) bs) m) (λ _ m₁ e. done (on_hyp (all_bound_in f.general bs e) refl)))
      (λ q. ok_then (ok_ask 40 (all (plain_at U.facts) f.hyps) m) (λ _ m₁ e. done (on_fact q e refl)))

  module _ (bs : List Binding) (bo : BindsOk U vs w bs) (i : ℕ) (f : Fact) (at : At U.facts i f) (rs : Refs) (ro : RefsOk K U vs w (length U.facts) rs)
      (j : Tree) (ej : j ≡ sub (along bs) f.judgment) (hs ft : List ℕ)
      (inside : (h : ℕ) → rs.hyps h ≡ true → In h hs) (below : (h : ℕ) → In h hs → h < length U.facts)
      (sc : Scoped U (union (variables_of rs.judgments) (value_vars bs)) j hs) where
    abbrev new : Fact
    new = record { judgment = j; hyps = hs; assumed = false; premises = none; general = []; footing = ft }

    well : WellFact U.theory vs (length U.vars) (suc (length U.facts)) new
    unfolding Judgments
    well = record {
      judgment = subst (λ t. Judgment U.theory vs (length U.vars) t) (sym ej) (along_judgment U vs w bs bo f.judgment (w.facts i f at).judgment);
      premises = tt;
      hyps = λ h x. (let q = below h x in omega arith);
      derived = λ _. refl;
    }

    -- question 39 for the premises
    used : (v : ℕ) → Occs v rs.judgments → Allowed U.facts new v
    unfolding Allowed Needs HypOf Scoped
    used v o =
        sc v (judgments_small U.theory vs (length U.vars) rs.judgments ro.sound v o)
        (true_left (variables_of rs.judgments v) (value_vars bs v) (occs_variables_of rs.judgments v o))

    -- and for the values
    valued : (v : ℕ) → Bound v bs → (z : ℕ) → Occ z (along bs v) → Allowed U.facts new z
    unfolding Allowed Needs HypOf Scoped
    valued v b z o =
        sc z (elim (along_cases (λ v t. (v < length U.vars) × Typed U.theory vs (length U.vars) t (vs v)) bs bo v) [
          | inl p ↦ p.1.1.small z o
          | inr p ↦ absurd (p.0 b)
        ])
        (true_right (variables_of rs.judgments z) (value_vars bs z)
        (elim (along_cases (λ v t. (z : ℕ) → Occ z t → value_vars bs z ≡ true) bs (value_vars_lem bs) v) [
          | inl p ↦ p.1 z o
          | inr p ↦ absurd (p.0 b)
        ]))

    hyp_fine : Each (λ v t. In v f.general) bs → In i hs → rs.judgments ≡ subs (along bs) f.premises → Fine K U vs w new
    hyp_fine g own e = record {
      well = well;
      form = apply_hyp (record {
        plain = refl;
        g = f;
        place = i;
        at = at;
        own = own;
        σ = along bs;
        binds = λ v. elim (along_cases (λ v t. In v f.general) bs g v) [
          | inl p ↦ inr (p.1, along_sorted U vs w bs bo v, λ z o. valued v p.0 z o)
          | inr p ↦ inl p.1
        ];
        refs = subst (λ ts. RefForms U.theory vs K.known K.part U.facts (length U.facts) new ts) e (ro.gives new inside);
        concl = sym ej;
        allowed = λ v o. used v (subst (λ ts. Occs v ts) (sym e) o);
      });
    }

    fact_fine : Citable K U vs w (length U.facts) i → f.assumed ≡ false → all (plain_at U.facts) f.hyps ≡ true
        → rs.judgments ≡ subs (along bs) (judgments_at U.facts f.hyps) → Fine K U vs w new
    unfolding HypOf
    fact_fine ci q p e = record {
      well = well;
      form = apply_fact (record {
        plain = refl;
        g = f;
        cites = cite K U vs w (length U.facts) f i at ((w.facts i f at).derived q, ci);
        σ = along bs;
        sorts = along_sorted U vs w bs bo;
        plains = λ h x. plain_at_lem U.facts x.0 h x.2 (all_in (plain_at U.facts) f.hyps x.0 p x.1);
        refs = λ h x. refs_among new (subs (along bs) (judgments_at U.facts f.hyps))
            (subst (λ ts. RefForms U.theory vs K.known K.part U.facts (length U.facts) new ts) e (ro.gives new inside))
            (sub (along bs) h.judgment) (among h x);
        concl = sym ej;
        allowed = λ h x z o. used z (subst (λ ts. Occs z ts) (sym e) (among_occ (sub (along bs) h.judgment) (subs (along bs) (judgments_at U.facts f.hyps)) z (among h x) o));
      });
    }
      where
        among : (h : Fact) → (k : ℕ) × In k f.hyps × At U.facts k h → Among (sub (along bs) h.judgment) (subs (along bs) (judgments_at U.facts f.hyps))
        among h x = among_subs (along bs) h.judgment (judgments_at U.facts f.hyps) (at_judgments U.facts f.hyps x.0 h x.1 x.2)

  pub apply_ok : (xs : Sexps) → ((i : ℕ) → Points (item xs 2) i → Citable K U vs w (length U.facts) i)
      → ((x : Sexp) → ItemOf x (item xs 4) → FreeOfRules K U vs w (length U.facts) x) → (m : Made) → Ok (λ f. Fine K U vs w f) (apply U xs m)
  unfolding apply ItemOf Each
  apply_ok xs own-calm calm m =
      ok_then (ok_index 34 (item xs 2) m) (λ i m₁ pt.
      ok_then (ok_items 36 (item xs 3) m₁) (λ ys m₂ _.
      ok_then (bindings_ok U vs w ys [] m₂ tt) (λ bs m₃ bo.
      ok_then (fact_ok U i m₃) (λ f m₄ at.
      ok_then (applied_ok bs i f m₄) (λ a m₅ ao.
      ok_then (ok_items 37 (item xs 4) m₅) (λ zs m₆ ei.
      ok_then (ok_ask 37 (eqb (count zs) (count_trees a.premises)) m₆) (λ _ m₇ ec.
      ok_then (substitute_ok (along bs) a.conclusion m₇) (λ j m₈ ej.
      ok_then (discharge_ok bs zs a.premises (eqb-true (count zs) (count_trees a.premises) ec)
      (λ x q. calm x (subst (λ z. ItemOf x z) (sym ei) q)) m₈) (λ rs m₉ ro.
      ok_then (scoped_ok U (union (variables_of rs.judgments) (value_vars bs)) j (rising (length U.facts) (union (has a.hyps) rs.hyps)) m₉) (λ _ m₁₀ sc.
      done (finish bs bo i (own-calm i pt) f at a ao j ej rs ro sc)))))))))))
    where
      finish : {ft : List ℕ} (bs : List Binding) → BindsOk U vs w bs → (i : ℕ) → Citable K U vs w (length U.facts) i → (f : Fact) → At U.facts i f → (a : Applied) → AppliedOk bs i f a
          → (j : Tree) → j ≡ sub (along bs) a.conclusion → (rs : Refs) → RefsOk K U vs w (length U.facts) rs × (rs.judgments ≡ subs (along bs) a.premises)
          → Scoped U (union (variables_of rs.judgments) (value_vars bs)) j (rising (length U.facts) (union (has a.hyps) rs.hyps))
          → Fine K U vs w (record {
            judgment = j;
            hyps = rising (length U.facts) (union (has a.hyps) rs.hyps);
            assumed = false;
            premises = none;
            general = [];
            footing = ft;
          })
      finish {ft} bs bo i ci f at a ao j ej rs ro sc = go ao
        where
          inside : (h : ℕ) → rs.hyps h ≡ true → In h (rising (length U.facts) (union (has a.hyps) rs.hyps))
          inside h e = rising_in (length U.facts) (union (has a.hyps) rs.hyps) h (ro.0.below h e) (true_right (has a.hyps h) (rs.hyps h) e)

          below : (h : ℕ) → In h (rising (length U.facts) (union (has a.hyps) rs.hyps)) → h < length U.facts
          below h x = (in_rising (length U.facts) (union (has a.hyps) rs.hyps) h x).0

          own : (a.hyps ≡ i ∷ []) → In i (rising (length U.facts) (union (has a.hyps) rs.hyps))
          own e = rising_in (length U.facts) (union (has a.hyps) rs.hyps) i (at_below U.facts i f at)
              (true_left (has a.hyps i) (rs.hyps i) (in_has a.hyps i (subst (λ l. In i l) (sym e) (in_here i))))

          go : AppliedOk bs i f a → Fine K U vs w (record {
            judgment = j;
            hyps = rising (length U.facts) (union (has a.hyps) rs.hyps);
            assumed = false;
            premises = none;
            general = [];
            footing = ft;
          })
          go (on_hyp g e) =
              hyp_fine bs bo i f at rs ro.0 j (ej ∙ ap (λ (z : Applied). sub (along bs) z.conclusion) e) _ ft inside below sc g
              (own (ap (λ (z : Applied). z.hyps) e)) (ro.1 ∙ ap (λ (z : Applied). subs (along bs) z.premises) e)
          go (on_fact q p e) =
              fact_fine bs bo i f at rs ro.0 j (ej ∙ ap (λ (z : Applied). sub (along bs) z.conclusion) e) _ ft inside below sc ci q p
              (ro.1 ∙ ap (λ (z : Applied). subs (along bs) z.premises) e)
