-- `induct`: what its cases may assume, and that the fact that it gives is true, by induction on the ground value of its variable. Generic in
-- the set of rules. Assumes nothing.
use Prim.Native.Nat.{ℕ, ◌<◌}
use Rattle.std.specs.Prelude.{◌≡◌, ◌⊎◌, List}
use Rattle.std.proofs.Math.Path.{refl, ap, subst}
use Rattle.std.proofs.Common.{sym, ◌∙◌, inl, inr}
use Rattle.rules.specs.Tree.{Tree, Trees, var, app, none, more, sub, subs, single}
use Rattle.rules.specs.Theory.{Theory}
use Rattle.rules.specs.State.{Fact}
use Rattle.meaning.specs.Trees.Tree.{Occ, Occs, Sorted, In, Among}
use Rattle.meaning.specs.Trees.Tree.{sub_ext, subs_ext, sub_sub, subs_subs, occ_sub, occs_subs, sub_occ, subs_occs, among_occ, occ_among, among_subs}
use Rattle.meaning.specs.Trees.Tests.{single_cases, single_same}
use Rattle.meaning.specs.Signature.{sig, Value, Values}
use Rattle.meaning.specs.Derivation.{Der, Ders}
use Rattle.meaning.specs.Truth.{Mentions, Free, Needs, Holds, Gives, Entails, Plain}
use Rattle.meaning.specs.Lemmas.Sound.{sub_value, plain_holds, plain_der, ders_in, ders_all}
use Rattle.meaning.specs.Trees.Replace.{puts, vars, Fit, Distinct, in_dec, puts_other, puts_in, puts_vars, vars_sorted}

-- v is in the judgment or a premise
unfoldable pub Motive : Trees → Tree → ℕ → Type 0
Motive P J v = Occ v J ⊎ Occs v P

-- t with u for x
abbrev pub at : ℕ → Tree → Tree → Tree
at x u t = sub (single x u) t

abbrev pub ats : ℕ → Tree → Trees → Trees
ats x u ts = subs (single x u) ts

-- y is a case variable of x's sort, so that there is an induction hypothesis for it
unfoldable pub Below : (ℕ → ℕ) → ℕ → List ℕ → ℕ → Type 0
Below vs x ys y = In y ys × (vs y ≡ vs x)

-- what a case for the constructor c with variables ys may assume
pub data CaseHyp (vs : ℕ → ℕ) (x : ℕ) (P : Trees) (J : Tree) (c : ℕ) (ys : List ℕ) (h : Fact) : Type 0 where
  premise : Plain h → Among h.judgment (ats x (app c (vars ys)) P) → CaseHyp vs x P J c ys h
  plainly : Plain h → P ≡ none → (y : ℕ) → Below vs x ys y → h.judgment ≡ at x (var y) J → CaseHyp vs x P J c ys h
  ruled : ((v : ℕ) → In v h.general → Motive P J v × ¬ (v ≡ x)) → (y : ℕ) → Below vs x ys y
      → h.premises ≡ ats x (var y) P → h.judgment ≡ at x (var y) J → CaseHyp vs x P J c ys h

module _ (T : Theory) (vs : ℕ → ℕ) (R : ℕ → Type 0) (x : ℕ) (P : Trees) (J : Tree) where
  pub record Case (c : ℕ) : Type 1 where
    pub ys : List ℕ
    pub fit : Fit vs ys ((sig T).ins c)
    pub distinct : Distinct ys
    pub fresh : (y : ℕ) → In y ys → ¬ (Motive P J y)
    pub hyps : Fact → Type 0
    pub proved : Entails T vs R hyps (at x (app c (vars ys)) J)
    pub allowed : (h : Fact) → hyps h → CaseHyp vs x P J c ys h

  -- what is proved by induction on the ground tree u
  abbrev Goal : Tree → Type 0
  Goal u =
      Value (sig T) u (vs x) → (δ : ℕ → Tree) → δ x ≡ u → ((v : ℕ) → Motive P J v → Value (sig T) (δ v) (vs v))
      → Ders T R (subs δ P) → Der T R (sub δ J)

  -- one node of the ground tree
  module _ (mx : Motive P J x) (c : ℕ) (ts : Trees) (lt : c < (sig T).syms) (oc : (sig T).out c ≡ vs x)
      (vts : Values (sig T) ts ((sig T).ins c)) (k : Case c) (ih : (t : Tree) → Among t ts → Goal t)
      (δ : ℕ → Tree) (e : δ x ≡ app c ts) (good : (v : ℕ) → Motive P J v → Value (sig T) (δ v) (vs v)) (ders : Ders T R (subs δ P)) where
    abbrev inner : ℕ → Tree
    inner = puts δ k.ys ts

    abbrev whole : Tree
    whole = app c (vars k.ys)

    keep : (v : ℕ) → Motive P J v → inner v ≡ δ v
    keep v m = puts_other δ k.ys ts v (λ i. k.fresh v i m)

    through : (v : ℕ) → Motive P J v → sub inner (single x whole v) ≡ δ v
    unfolding sub
    through v m = go (single_cases x whole v)
      where
        go : ((v ≡ x) × (single x whole v ≡ whole)) ⊎ (¬ (v ≡ x) × (single x whole v ≡ var v)) → sub inner (single x whole v) ≡ δ v
        go (inl p) = ap (sub inner) p.1
            ∙ (ap (app c) (puts_vars (sig T) vs δ k.ys ts ((sig T).ins c) k.distinct k.fit vts) ∙ (sym e ∙ ap δ (sym p.0)))
        go (inr p) = ap (sub inner) p.1 ∙ keep v m

    whole_sorted : (v : ℕ) → Sorted (sig T) vs (single x whole v) (vs v)
    unfolding Sorted
    whole_sorted v = go (single_cases x whole v)
      where
        go : ((v ≡ x) × (single x whole v ≡ whole)) ⊎ (¬ (v ≡ x) × (single x whole v ≡ var v)) → Sorted (sig T) vs (single x whole v) (vs v)
        go (inl p) = subst (λ u. Sorted (sig T) vs u (vs v)) (sym p.1)
            (lt, oc ∙ ap vs (sym p.0), vars_sorted (sig T) vs δ k.ys ((sig T).ins c) k.fit)
        go (inr p) = subst (λ u. Sorted (sig T) vs u (vs v)) (sym p.1) refl

    valued : (w v : ℕ) → Motive P J w → Occ v (single x whole w) → Value (sig T) (inner v) (vs v)
    valued w v m o =
        sub_value (sig T) vs inner (single x whole w) (vs w) (whole_sorted w)
        (subst (λ u. Value (sig T) u (vs w)) (sym (through w m)) (good w m)) v o

    -- the same at a case variable y of x's sort
    valued_y : (y : ℕ) → In y k.ys → (w v : ℕ) → Motive P J w → Occ v (single x (var y) w) → Value (sig T) (inner v) (vs v)
    unfolding Occ
    valued_y y i w v m o = go (single_cases x (var y) w)
      where
        go : ((w ≡ x) × (single x (var y) w ≡ var y)) ⊎ (¬ (w ≡ x) × (single x (var y) w ≡ var w)) → Value (sig T) (inner v) (vs v)
        go (inl p) =
            let q : v ≡ y = subst (λ u. Occ v u) p.1 o in
            subst (λ z. Value (sig T) (inner z) (vs z)) (sym q) (puts_in (sig T) vs δ k.ys ts ((sig T).ins c) k.fit vts y i).1
        go (inr p) =
            let q : v ≡ w = subst (λ u. Occ v u) p.1 o in
            subst (λ z. Value (sig T) (inner z) (vs z)) (sym q) (subst (λ u. Value (sig T) u (vs w)) (sym (keep w m)) (good w m))

    ih_holds : (h : Fact) → ((v : ℕ) → In v h.general → Motive P J v × ¬ (v ≡ x)) → (y : ℕ) → Below vs x k.ys y
        → h.premises ≡ ats x (var y) P → h.judgment ≡ at x (var y) J → Holds T vs R inner h
    unfolding Holds Mentions Motive Below sub Occ
    ih_holds h gen y b hp hj ε vary ds =
        subst (λ u. Der T R u) (sym (sub_sub ε (single x (var y)) J) ∙ ap (sub ε) (sym hj))
        (ih (inner y) here.0 (subst (λ s. Value (sig T) (inner y) s) b.1 here.1) outer at_x good'
        (subst (λ us. Ders T R us) (ap (subs ε) hp ∙ subs_subs ε (single x (var y)) P) ds))
      where
        outer : ℕ → Tree
        outer v = sub ε (single x (var y) v)

        here : Among (inner y) ts × Value (sig T) (inner y) (vs y)
        here = puts_in (sig T) vs δ k.ys ts ((sig T).ins c) k.fit vts y b.0

        mention : (w v : ℕ) → Motive P J w → Occ v (single x (var y) w) → Mentions v h
        mention w v (inl o) q = inl (subst (λ u. Occ v u) (sym hj) (occ_sub (single x (var y)) J v w o q))
        mention w v (inr o) q = inr (subst (λ us. Occs v us) (sym hp) (occs_subs (single x (var y)) P v w o q))

        at_x : outer x ≡ inner y
        at_x = ap (sub ε) (single_same x (var y))
            ∙ vary.same y (mention x y mx (subst (λ u. Occ y u) (sym (single_same x (var y))) refl)) (λ i. k.fresh y b.0 (gen y i).0)

        good' : (v : ℕ) → Motive P J v → Value (sig T) (outer v) (vs v)
        good' v m = go (single_cases x (var y) v) (in_dec v h.general)
          where
            go : ((v ≡ x) × (single x (var y) v ≡ var y)) ⊎ (¬ (v ≡ x) × (single x (var y) v ≡ var v)) → Dec (In v h.general)
                → Value (sig T) (outer v) (vs v)
            go (inl p) d = subst (λ z. Value (sig T) (outer z) (vs z)) (sym p.0)
                (subst (λ u. Value (sig T) u (vs x)) (sym at_x) (subst (λ s. Value (sig T) (inner y) s) b.1 here.1))
            go (inr p) (yes i) = subst (λ u. Value (sig T) (sub ε u) (vs v)) (sym p.1)
                (vary.value v (mention v v m (subst (λ u. Occ v u) (sym p.1) refl)) i)
            go (inr p) (no n) = subst (λ u. Value (sig T) (sub ε u) (vs v)) (sym p.1)
                (subst (λ u. Value (sig T) u (vs v))
                (sym (vary.same v (mention v v m (subst (λ u. Occ v u) (sym p.1) refl)) n ∙ keep v m)) (good v m))

    hyp_holds : (h : Fact) → CaseHyp vs x P J c k.ys h → Holds T vs R inner h
    unfolding Plain In Motive sub
    hyp_holds h (premise p i) =
        plain_holds T vs R h inner p.0
        (ders_in T R (subs δ P) (sub inner h.judgment) ders
        (subst (λ us. Among (sub inner h.judgment) us)
        (subs_subs inner (single x whole) P
        ∙ subs_ext (λ v. sub inner (single x whole v)) δ P (λ v o. through v (inr o)))
        (among_subs inner h.judgment (ats x whole P) i)))
    hyp_holds h (plainly p n y b q) =
        ih_holds h (λ v i. absurd (subst (λ l. In v l) p.0 i)) y b (p.1 ∙ ap (ats x (var y)) (sym n)) q
    hyp_holds h (ruled g y b p q) = ih_holds h g y b p q

    -- the variables of a case's hypotheses have values
    hyp_valued : (h : Fact) → CaseHyp vs x P J c k.ys h → (v : ℕ) → Mentions v h → Value (sig T) (inner v) (vs v)
    unfolding Plain Motive Mentions Below Occ sub
    hyp_valued h (premise p i) v (inl o) =
        let r = subs_occs (single x whole) P v (among_occ h.judgment (ats x whole P) v i o) in valued r.0 v (inr r.1) r.2
    hyp_valued h (premise p i) v (inr o) = absurd (subst (λ us. Occs v us) p.1 o)
    hyp_valued h (plainly p n y b q) v (inl o) =
        let r = sub_occ (single x (var y)) J v (subst (λ u. Occ v u) q o) in valued_y y b.0 r.0 v (inl r.1) r.2
    hyp_valued h (plainly p n y b q) v (inr o) = absurd (subst (λ us. Occs v us) p.1 o)
    hyp_valued h (ruled g y b p q) v (inl o) =
        let r = sub_occ (single x (var y)) J v (subst (λ u. Occ v u) q o) in valued_y y b.0 r.0 v (inl r.1) r.2
    hyp_valued h (ruled g y b p q) v (inr o) =
        let r = subs_occs (single x (var y)) P v (subst (λ us. Occs v us) p o) in valued_y y b.0 r.0 v (inr r.1) r.2

    at_node : Der T R (sub δ J)
    unfolding Entails Gives Needs Free Motive
    at_node =
        subst (λ u. Der T R u)
        (sub_sub inner (single x whole) J ∙ sub_ext (λ v. sub inner (single x whole v)) δ J (λ v o. through v (inl o)))
        (k.proved inner needed (λ h i. hyp_holds h (k.allowed h i)))
      where
        needed : (v : ℕ) → Needs k.hyps (at x whole J) v → Value (sig T) (inner v) (vs v)
        needed v (inl o) = let r = sub_occ (single x whole) J v o in valued r.0 v (inl r.1) r.2
        needed v (inr (h, i, f)) = hyp_valued h (k.allowed h i) v f.0

  module _ (mx : Motive P J x) (cases : (c : ℕ) → c < (sig T).syms → (sig T).out c ≡ vs x → Case c) where
    mutual
      unfolding Value Among

      all : (u : Tree) → Goal u
      all (var v) val δ p g d = absurd val
      all (app c ts) val δ p g d =
          at_node mx c ts val.0 val.1 val.2 (cases c val.0 val.1) (λ t i a ε q f b. alls ts t i a ε q f b) δ p g d

      alls : (ts : Trees) (t : Tree) → Among t ts → Goal t
      alls none t i = absurd i
      alls (more u us) t (inl e) = subst Goal (sym e) (λ a δ p g d. all u a δ p g d)
      alls (more u us) t (inr i) = alls us t i

  -- induct: K are the plain hypotheses that it names, P their judgments
  pub induct_true : (K : Fact → Type 0)
      → ((t : Tree) → Among t P → (g : Fact) × K g × Plain g × (g.judgment ≡ t))
      → Motive P J x
      → ((c : ℕ) → c < (sig T).syms → (sig T).out c ≡ vs x → Case c)
      → Entails T vs R K J
  unfolding Entails Gives Needs Free Mentions Motive Plain In
  induct_true K back mx cases γ n h = all mx cases (γ x) (good x mx) γ refl good (ders_all T R γ P given)
    where
      good : (v : ℕ) → Motive P J v → Value (sig T) (γ v) (vs v)
      good v (inl o) = n v (inl o)
      good v (inr o) =
          let r = occ_among P v o in
          let b = back r.0 r.1 in
          n v (inr (b.0, b.1, (inl (subst (λ u. Occ v u) (sym b.3) r.2), λ i. subst (λ l. In v l) b.2.0 i)))

      given : (t : Tree) → Among t P → Der T R (sub γ t)
      given t i =
          let b = back t i in
          subst (λ u. Der T R (sub γ u)) b.3 (plain_der T vs R b.0 γ b.2 (h b.0 b.1))
