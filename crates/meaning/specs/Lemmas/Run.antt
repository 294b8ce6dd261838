-- A list of facts, each taken by a form whose tests held: every one of them is true. Generic in the rules on which a fact rests and in
-- those that it tolerates. Assumes nothing.
use Rattle.std.specs.Prelude.{ℕ, zero, suc, ◌≡◌, refl, ◌⊎◌, List, [], ◌∷◌}
use Rattle.std.proofs.Common.{sym, ◌∙◌}
use Rattle.std.proofs.Math.Path.{ap, subst}
use Rattle.std.proofs.Math.Logic.{inl, inr}
use Rattle.std.proofs.Math.ListN.{length}
use Rattle.rules.specs.Tree.{Tree, Trees, app, none, more, sub, subs}
use Rattle.rules.specs.Theory.{Theory, Rule, rule}
use Rattle.rules.specs.State.{Fact}
use Rattle.meaning.specs.Trees.Tree.{Occ, Occs, In, occ_sub, occs_subs}
use Rattle.meaning.specs.Truth.{At, HypOf, Needs, Gives, Entails, True, Plain}
use Rattle.meaning.specs.Lemmas.Sound.{GivesAll, gives_ref, hyp_true}
use Rattle.meaning.specs.Lemmas.Steps.{step_true}
use Rattle.meaning.specs.Lemmas.Applies.{apply_hyp_true, apply_fact_true, instance_true}
use Rattle.meaning.specs.Lemmas.Inducts.{Case, induct_true}
use Rattle.meaning.specs.Lemmas.Inverts.{Shaped, Given, Cased, apart, unified, Looked, Both, invert_true}
use Rattle.meaning.specs.Lemmas.Forms.{grown, Allowed, InContext, Cites, Ref, bare, inst, Refs, HypForm, StepForm, ApplyHyp, ApplyFact, InductCase, InductForm}
use Rattle.meaning.specs.Lemmas.Forms.{InvertCase, InvertCased, lone, paired, InvertRule, InvertForm, Form, hyp, step, apply_hyp, apply_fact, induct, invert, Run, begin, take}

-- Places in a list of facts -------------------------------------------------------------------------------------------------------

pub at_grown : (fs : List Fact) (f g : Fact) (h : ℕ) → At fs h g → At (grown fs f) h g
unfolding At
at_grown [] f g h a = absurd a
at_grown (e ∷ fs) f g zero a = a
at_grown (e ∷ fs) f g (suc h) a = at_grown fs f g h a

pub at_last : (fs : List Fact) (f : Fact) → At (grown fs f) (length fs) f
unfolding At
at_last [] f = refl
at_last (e ∷ fs) f = at_last fs f

pub at_split : (fs : List Fact) (f g : Fact) (h : ℕ) → At (grown fs f) h g → At fs h g ⊎ ((h ≡ length fs) × (f ≡ g))
unfolding At
at_split [] f g zero a = inr (refl, a)
at_split [] f g (suc h) a = absurd a
at_split (e ∷ fs) f g zero a = inl a
at_split (e ∷ fs) f g (suc h) a = elim (at_split fs f g h a) [ inl b ↦ inl b | inr b ↦ inr (ap suc b.0, b.1) ]

hyp_grown : (fs : List Fact) (n f g : Fact) → HypOf fs f g → HypOf (grown fs n) f g
unfolding HypOf
hyp_grown fs n f g (h, i, a) = (h, i, at_grown fs n g h a)

-- The forms -----------------------------------------------------------------------------------------------------------------------

module _ (T : Theory) (vs : ℕ → ℕ) (R : ℕ → Type 0) where
  -- a true fact stays true
  true_grown : (fs : List Fact) (n f : Fact) → True T vs R fs f → True T vs R (grown fs n) f
  unfolding True Entails Gives Needs
  true_grown fs n f t γ val hold =
      t γ (λ v m. val v (elim m [ inl o ↦ inl o | inr x ↦ inr (x.0, hyp_grown fs n f x.0 x.1, x.2) ]))
      (λ g h. hold g (hyp_grown fs n f g h))

module _ (T : Theory) (vs : ℕ → ℕ) (Known Part : ℕ → ℕ → Type 0)
    (shapes : (n r : ℕ) → Known n r → Shaped (rule T r)) where
  -- what is to be shown of one fact, unless it is a rule hypothesis with premises: it is true with any rules that have those on which it
  -- rests and that it tolerates
  abbrev pub Firm : List Fact → ℕ → Fact → Type 1
  Firm fs n f = f.premises ≡ none → (R : ℕ → Type 0) → ((r : ℕ) → Part n r → R r) → ((r : ℕ) → R r → Known n r) → True T vs R fs f

  module _ (fs : List Fact) (n : ℕ) (f : Fact) (ih : (i : ℕ) (g : Fact) → At fs i g → Firm fs i g)
      (R : ℕ → Type 0) (mine : (r : ℕ) → Part n r → R r) (theirs : (r : ℕ) → R r → Known n r) where
    cited : (g : Fact) → Cites T vs Known Part fs n g → Entails T vs R (HypOf fs g) g.judgment
    unfolding True
    cited g c = ih c.place g c.at c.free R (λ r p. mine r (c.rules r p)) (λ r u. c.known r (theirs r u))

    pub ref_gives : (j : Tree) → Ref T vs Known Part fs n f j → ((v : ℕ) → Occ v j → Allowed fs f v)
        → Gives T vs R (HypOf fs f) f.judgment j
    unfolding Allowed HypOf In Needs Entails Gives
    ref_gives j (bare g c s e) a =
        gives_ref T vs R (HypOf fs f) (HypOf fs g) f.judgment j (subst (λ t. Entails T vs R (HypOf fs g) t) e (cited g c))
        (λ h x. (x.0, s x.0 x.1, x.2)) a
    ref_gives j (inst g c z σ so e) a =
        gives_ref T vs R (HypOf fs f) (λ h. ⊥) f.judgment j
        (subst (λ t. Entails T vs R (λ h. ⊥) t) e (instance_true T vs R g.judgment σ without so)) (λ h x. absurd x) a
      where
        without : Entails T vs R (λ h. ⊥) g.judgment
        without =
            gives_ref T vs R (λ h. ⊥) (HypOf fs g) g.judgment g.judgment (cited g c)
            (λ h x. subst (λ l. In x.0 l) z x.1) (λ v o. inl o)

    refs_give : (ts : Trees) → Refs T vs Known Part fs n f ts → ((v : ℕ) → Occs v ts → Allowed fs f v)
        → GivesAll T vs R (HypOf fs f) f.judgment ts
    unfolding Refs GivesAll Occ
    refs_give none r a = tt
    refs_give (more t ts) r a = (ref_gives t r.0 (λ v o. a v (inl o)), refs_give ts r.1 (λ v o. a v (inr o)))

    hyp_sound : HypForm T vs Known Part fs n f → f.premises ≡ none → True T vs R (grown fs f) f
    unfolding True HypOf Entails Needs
    hyp_sound h p =
        gives_ref T vs R (HypOf (grown fs f) f) (λ g. g ≡ f) f.judgment f.judgment (hyp_true T vs R f p)
        (λ g e. (length fs, h.own, subst (λ z. At (grown fs f) (length fs) z) (sym e) (at_last fs f))) (λ v o. inl o)

    step_sound : StepForm T vs Known Part fs n f → Entails T vs R (HypOf fs f) f.judgment
    unfolding Allowed Needs
    step_sound s =
        step_true T vs R (HypOf fs f) s.named s.β f.judgment (mine s.named s.part) s.sorts
        (λ i l v o. elim (s.occurs i l) [
          | inl q ↦ inl (subst (λ t. Occ v t) s.concl (occ_sub s.β (rule T s.named).conclusion v i q o))
          | inr q ↦ s.allowed v (occs_subs s.β (rule T s.named).premises v i q o)
        ])
        (refs_give (subs s.β (rule T s.named).premises) s.refs s.allowed) s.concl

    apply_hyp_sound : ApplyHyp T vs Known Part fs n f → Entails T vs R (HypOf fs f) f.judgment
    unfolding Allowed HypOf
    apply_hyp_sound s =
        apply_hyp_true T vs R (HypOf fs f) s.g s.σ f.judgment (s.place, s.own, s.at) s.binds s.allowed
        (refs_give (subs s.σ s.g.premises) s.refs s.allowed) s.concl

    apply_fact_sound : ApplyFact T vs Known Part fs n f → Entails T vs R (HypOf fs f) f.judgment
    unfolding Allowed Plain
    apply_fact_sound s =
        apply_fact_true T vs R (HypOf fs f) (HypOf fs s.g) s.g.judgment s.σ f.judgment (cited s.g s.cites) s.sorts
        s.plains (λ h x. ref_gives (sub s.σ h.judgment) (s.refs h x) (s.allowed h x)) s.allowed s.concl

    induct_sound : InductForm T vs Known Part fs n f → Entails T vs R (HypOf fs f) f.judgment
    induct_sound s =
        induct_true T vs R s.x s.P f.judgment (HypOf fs f) s.backed s.motive (λ c l o. case c (s.cases c l o))
      where
        case : (c : ℕ) → InductCase T vs Known Part fs n f s.x s.P c → Case T vs R s.x s.P f.judgment c
        case c k = record {
          ys = k.ys;
          fit = k.fit;
          distinct = k.distinct;
          fresh = k.fresh;
          hyps = HypOf fs k.g;
          proved = subst (λ t. Entails T vs R (HypOf fs k.g) t) k.proves (cited k.g k.cites);
          allowed = k.allowed;
        }

    invert_sound : InvertForm T vs Known Part fs n f → Entails T vs R (HypOf fs f) f.judgment
    unfolding Entails Gives Needs HypOf Both InContext
    invert_sound s =
        gives_ref T vs R (HypOf fs f) (Both T vs R s.k f.judgment C) f.judgment f.judgment
        (invert_true T vs R s.k f.judgment C s.head s.arguments s.k_plain s.form
        (λ r u. shapes n r (theirs r u))
        (λ r u q. look r (s.looked r (theirs r u) (shapes n r (theirs r u)).arguments
        ((shapes n r (theirs r u)).form ∙ ap (λ z. app z (shapes n r (theirs r u)).arguments) q))))
        within (λ v o. inl o)
      where
        C : Fact → Type 0
        C = InContext fs s.context

        within : (g : Fact) → (g ≡ s.k) ⊎ ((h : ℕ) × In h s.context × At fs h g) → (h : ℕ) × In h f.hyps × At fs h g
        within g (inl e) = (s.place, s.own, subst (λ z. At fs s.place z) (sym e) s.at)
        within g (inr (h, i, a)) = (h, s.inside h i, a)

        given : (r : Rule) (name : ℕ → ℕ) (θ : ℕ → Tree) → InvertCase T vs Known Part fs n f C r name θ
            → Given T vs R s.k.judgment f.judgment C r name θ
        given r name θ k = record {
          hyps = HypOf fs k.g;
          proved = subst (λ t. Entails T vs R (HypOf fs k.g) t) k.proves (cited k.g k.cites);
          allowed = k.allowed;
          uncaptured = k.uncaptured;
        }

        cased : (r : Rule) (name : ℕ → ℕ) → InvertCased T vs Known Part fs n f s.k.judgment C r name
            → Cased T vs R s.k.judgment f.judgment C r name
        cased r name (lone d) = apart d
        cased r name (paired θ g k) = unified θ g (given r name θ k)

        look : (r : ℕ) → InvertRule T vs Known Part fs n f s.k C (rule T r)
            → Looked T vs R s.k.judgment f.judgment C (rule T r)
        look r k = record {
          name = k.name;
          fit = k.fit;
          distinct = k.distinct;
          fresh = k.fresh;
          cased = cased (rule T r) k.name k.cased;
        }

    form_sound : Form T vs Known Part fs n f → f.premises ≡ none → True T vs R (grown fs f) f
    unfolding True
    form_sound (hyp s) p = hyp_sound s p
    form_sound (step s) p = true_grown T vs R fs f f (step_sound s)
    form_sound (apply_hyp s) p = true_grown T vs R fs f f (apply_hyp_sound s)
    form_sound (apply_fact s) p = true_grown T vs R fs f f (apply_fact_sound s)
    form_sound (induct s) p = true_grown T vs R fs f f (induct_sound s)
    form_sound (invert s) p = true_grown T vs R fs f f (invert_sound s)

  -- every fact of a run is true, with only the rules on which it may rest, and with any more that it tolerates
  pub run_sound : (fs : List Fact) → Run T vs Known Part fs → (i : ℕ) (f : Fact) → At fs i f → Firm fs i f
  unfolding At
  run_sound fs begin i f a = absurd a
  run_sound fs (take gs g r m) i f a = go (at_split gs g f i a) (λ j h b. run_sound gs r j h b)
    where
      go : At gs i f ⊎ ((i ≡ length gs) × (g ≡ f)) → ((j : ℕ) (h : Fact) → At gs j h → Firm gs j h) → Firm (grown gs g) i f
      go (inl b) ih p R mine theirs = true_grown T vs R gs g f (ih i f b p R mine theirs)
      go (inr e) ih p R mine theirs =
          subst (λ h. True T vs R (grown gs g) h) e.1
          (form_sound gs (length gs) g ih R (λ r q. mine r (subst (λ k. Part k r) (sym e.0) q)) (λ r u. subst (λ k. Known k r) e.0 (theirs r u)) m
          (ap (λ (h : Fact). h.premises) e.1 ∙ p))
