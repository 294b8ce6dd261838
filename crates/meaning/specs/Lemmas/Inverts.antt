-- `invert`: what its cases may assume, and that the fact that it gives is true, by the last node of the derivation of the inverted
-- judgment. Generic in the set of rules. Assumes nothing.
use Prim.Native.Nat.{ℕ, ◌<◌}
use Rattle.std.specs.Prelude.{◌≡◌, ◌⊎◌, List}
use Rattle.std.proofs.Math.Path.{refl, sym, ap, subst}
use Rattle.std.proofs.Common.{◌∙◌, inl}
use Rattle.std.proofs.Math.Logic.{inr}
use Rattle.rules.specs.Tree.{Tree, Trees, var, app, sub, subs}
use Rattle.rules.specs.Theory.{Theory, Rule, rule}
use Rattle.rules.specs.State.{Fact}
use Rattle.meaning.specs.Trees.Tree.{Occ, Occs, Sorted, In, Among}
use Rattle.meaning.specs.Trees.Tree.{sub_ext, subs_ext, sub_sub, subs_subs, occ_sub, occs_subs, sub_occ, subs_occs, among_occ, among_subs}
use Rattle.meaning.specs.Signature.{sig, Value, arity, rule_sort}
use Rattle.meaning.specs.Derivation.{Der, node, Ders}
use Rattle.meaning.specs.Truth.{Mentions, Free, Needs, Varies, Holds, Gives, Entails, Plain}
use Rattle.meaning.specs.Lemmas.Sound.{sub_value, plain_holds, plain_der, ders_in}
use Rattle.meaning.specs.Trees.Replace.{spread, spread_other, spread_at}

-- Definitions ---------------------------------------------------------------------------------------------------------------------

-- the rule's variable i goes by the name of the proof variable name i
unfoldable pub renamed : (ℕ → ℕ) → ℕ → Tree
renamed name i = var (name i)

-- σ is θ, but the variables of the list stay
unfoldable pub Leaves : List ℕ → (ℕ → Tree) → (ℕ → Tree) → Type 0
Leaves xs θ σ = (v : ℕ) → (In v xs × (σ v ≡ var v)) ⊎ (¬ (In v xs) × (σ v ≡ θ v))

-- what the lemma needs of a rule: its conclusion is a symbol over arguments, its variables are its own
pub record Shaped (r : Rule) : Type 0 where
  pub head : ℕ
  pub arguments : Trees
  pub form : r.conclusion ≡ app head arguments
  pub bound : (i : ℕ) → Occ i r.conclusion ⊎ Occs i r.premises → i < arity r

-- the variables that a case may not name: those of the inverted judgment, of the conclusion and of the context
unfoldable pub Used : Tree → Tree → (Fact → Type 0) → ℕ → Type 0
Used h J C v = (Occ v h ⊎ Occ v J) ⊎ ((c : Fact) × C c × Mentions v c)

-- what the case of a rule with unifier θ may assume
pub data InvertHyp (r : Rule) (name : ℕ → ℕ) (C : Fact → Type 0) (θ : ℕ → Tree) (g : Fact) : Type 0 where
  of_rule : Plain g → Among g.judgment (subs θ (subs (renamed name) r.premises)) → InvertHyp r name C θ g
  of_context : (c : Fact) → C c → (σ : ℕ → Tree) → Leaves c.general θ σ → g.general ≡ c.general
      → g.premises ≡ subs σ c.premises → g.judgment ≡ sub σ c.judgment → InvertHyp r name C θ g

-- θ makes the inverted judgment h and the renamed conclusion equal as any replacement does that makes them equal
module _ (T : Theory) (vs : ℕ → ℕ) where
  pub record General (h c : Tree) (θ : ℕ → Tree) : Type 0 where
    pub sorts : (v : ℕ) → Sorted (sig T) vs (θ v) (vs v)
    pub absorbs : (γ : ℕ → Tree) → sub γ h ≡ sub γ c → (v : ℕ) → sub γ (θ v) ≡ γ v

unfoldable pub Apart : Tree → Tree → Type 0
Apart h c = (γ : ℕ → Tree) → ¬ (sub γ h ≡ sub γ c)

module _ (T : Theory) (vs : ℕ → ℕ) (R : ℕ → Type 0) (h J : Tree) (C : Fact → Type 0) where
  -- a case that is there
  pub record Given (r : Rule) (name : ℕ → ℕ) (θ : ℕ → Tree) : Type 1 where
    pub hyps : Fact → Type 0
    pub proved : Entails T vs R hyps (sub θ J)
    pub allowed : (g : Fact) → hyps g → InvertHyp r name C θ g
    -- θ puts no generalised variable of a context fact in for another variable
    pub uncaptured : (c : Fact) → C c → (v w : ℕ) → ¬ (In v c.general) → Occ w (θ v) → ¬ (In w c.general)

  -- a rule that unifies has its case, any other none
  pub data Cased (r : Rule) (name : ℕ → ℕ) : Type 1 where
    apart : Apart h (sub (renamed name) r.conclusion) → Cased r name
    unified : (θ : ℕ → Tree) → General T vs h (sub (renamed name) r.conclusion) θ → Given r name θ → Cased r name

  -- what the form did at one rule
  pub record Looked (r : Rule) : Type 1 where
    pub name : ℕ → ℕ
    pub fit : (i : ℕ) → i < arity r → vs (name i) ≡ rule_sort r i
    pub distinct : (i j : ℕ) → i < arity r → j < arity r → name i ≡ name j → i ≡ j
    pub fresh : (i : ℕ) → i < arity r → ¬ (Used h J C (name i))
    pub cased : Cased r name

-- Lemmas --------------------------------------------------------------------------------------------------------------------------

absorbs_sub : (γ θ : ℕ → Tree) → ((v : ℕ) → sub γ (θ v) ≡ γ v) → (t : Tree) → sub γ (sub θ t) ≡ sub γ t
absorbs_sub γ θ a t = sub_sub γ θ t ∙ sub_ext (λ v. sub γ (θ v)) γ t (λ v o. a v)

absorbs_subs : (γ θ : ℕ → Tree) → ((v : ℕ) → sub γ (θ v) ≡ γ v) → (ts : Trees) → subs γ (subs θ ts) ≡ subs γ ts
absorbs_subs γ θ a ts = subs_subs γ θ ts ∙ subs_ext (λ v. sub γ (θ v)) γ ts (λ v o. a v)

symbol : Tree → ℕ
symbol (var v) = 0
symbol (app c ts) = c

-- The form ------------------------------------------------------------------------------------------------------------------------

module _ (T : Theory) (vs : ℕ → ℕ) (R : ℕ → Type 0) (k : Fact) (J : Tree) (C : Fact → Type 0) where
  -- the hypotheses of the new fact: the inverted one and the context
  unfoldable pub Both : Fact → Type 0
  Both g = (g ≡ k) ⊎ C g

  -- the given ground replacement γ, and the last node of the derivation of the inverted judgment under it
  module _ (plain : Plain k) (γ : ℕ → Tree)
      (n : (v : ℕ) → Needs Both J v → Value (sig T) (γ v) (vs v))
      (hold : (g : Fact) → Both g → Holds T vs R γ g)
      (r : Rule) (ok : Shaped r) (lk : Looked T vs R k.judgment J C r)
      (ρ : ℕ → Tree) (val : (i : ℕ) → i < arity r → Value (sig T) (ρ i) (rule_sort r i))
      (ds : Ders T R (subs ρ r.premises))
      (e : sub ρ r.conclusion ≡ sub γ k.judgment) where
    abbrev wide : ℕ → Tree
    wide = spread γ lk.name ρ (arity r)

    abbrev β : ℕ → Tree
    β = renamed lk.name

    kept : (v : ℕ) → Used k.judgment J C v → wide v ≡ γ v
    kept v u = spread_other γ lk.name ρ (arity r) v (λ i l q. lk.fresh i l (subst (λ z. Used k.judgment J C z) q u))

    at_name : (i : ℕ) → i < arity r → wide (lk.name i) ≡ ρ i
    at_name i l = spread_at γ lk.name ρ (arity r) i l lk.distinct

    prems_back : subs wide (subs β r.premises) ≡ subs ρ r.premises
    unfolding renamed sub
    prems_back = subs_subs wide β r.premises ∙ subs_ext (λ i. sub wide (β i)) ρ r.premises (λ i o. at_name i (ok.bound i (inr o)))

    -- wide makes the inverted judgment and the rule's conclusion equal
    unifies : sub wide k.judgment ≡ sub wide (sub β r.conclusion)
    unfolding renamed sub Used
    unifies =
        sub_ext wide γ k.judgment (λ v o. kept v (inl (inl o)))
        ∙ (sym e ∙ sym (sub_sub wide β r.conclusion ∙ sub_ext (λ i. sub wide (β i)) ρ r.conclusion (λ i o. at_name i (ok.bound i (inl o)))))

    module _ (θ : ℕ → Tree) (θs : (v : ℕ) → Sorted (sig T) vs (θ v) (vs v)) (ab : (v : ℕ) → sub wide (θ v) ≡ wide v)
        (c : Given T vs R k.judgment J C r lk.name θ) where
      -- what θ puts in for a variable with a value has only variables with values
      through : (w : ℕ) → Value (sig T) (wide w) (vs w) → (v : ℕ) → Occ v (θ w) → Value (sig T) (wide v) (vs v)
      through w x v o = sub_value (sig T) vs wide (θ w) (vs w) (θs w) (subst (λ t. Value (sig T) t (vs w)) (sym (ab w)) x) v o

      name_valued : (i : ℕ) → i < arity r → Value (sig T) (wide (lk.name i)) (vs (lk.name i))
      name_valued i l =
          subst (λ t. Value (sig T) t (vs (lk.name i))) (sym (at_name i l)) (subst (λ s. Value (sig T) (ρ i) s) (sym (lk.fit i l)) (val i l))

      free_valued : (d : Fact) → C d → (w : ℕ) → Mentions w d → ¬ (In w d.general) → Value (sig T) (wide w) (vs w)
      unfolding Needs Free Used Both
      free_valued d i w m x =
          subst (λ t. Value (sig T) t (vs w)) (sym (kept w (inr (d, i, m)))) (n w (inr (d, inr i, (m, x))))

      -- what a variable of a context fact becomes
      leave_valued : (d : Fact) → C d → (σ : ℕ → Tree) → Leaves d.general θ σ → (w : ℕ) → Mentions w d → (v : ℕ) → Occ v (σ w) → ¬ (In v d.general)
          → Value (sig T) (wide v) (vs v)
      unfolding Occ Leaves
      leave_valued d i σ leaves w m v o x = go (leaves w)
        where
          go : (In w d.general × (σ w ≡ var w)) ⊎ (¬ (In w d.general) × (σ w ≡ θ w))
              → Value (sig T) (wide v) (vs v)
          go (inl p) = absurd (x (subst (λ z. In z d.general) (sym (subst (λ t. Occ v t) p.1 o)) p.0))
          go (inr p) = through w (free_valued d i w m p.0) v (subst (λ t. Occ v t) p.1 o)

      hyp_valued : (g : Fact) → InvertHyp r lk.name C θ g → (v : ℕ) → Free v g → Value (sig T) (wide v) (vs v)
      unfolding Free Mentions Plain Occ renamed
      hyp_valued g (of_rule p i) v (inl o, x) =
          let a = subs_occs θ (subs β r.premises) v (among_occ g.judgment (subs θ (subs β r.premises)) v i o) in
          let b = subs_occs β r.premises a.0 a.1 in
          through a.0
          (subst (λ z. Value (sig T) (wide z) (vs z)) (sym b.2) (name_valued b.0 (ok.bound b.0 (inr b.1))))
          v a.2
      hyp_valued g (of_rule p i) v (inr o, x) = absurd (subst (λ ts. Occs v ts) p.1 o)
      hyp_valued g (of_context d i σ leaves eg ep ej) v (inl o, x) =
          let a = sub_occ σ d.judgment v (subst (λ t. Occ v t) ej o) in
          leave_valued d i σ leaves a.0 (inl a.1) v a.2 (λ y. x (subst (λ l. In v l) (sym eg) y))
      hyp_valued g (of_context d i σ leaves eg ep ej) v (inr o, x) =
          let a = subs_occs σ d.premises v (subst (λ ts. Occs v ts) ep o) in
          leave_valued d i σ leaves a.0 (inr a.1) v a.2 (λ y. x (subst (λ l. In v l) (sym eg) y))

      context_holds : (g d : Fact) → C d → (σ : ℕ → Tree) → Leaves d.general θ σ → g.general ≡ d.general → g.premises ≡ subs σ d.premises
          → g.judgment ≡ sub σ d.judgment → Holds T vs R wide g
      unfolding Holds Mentions Both Used Leaves Occ sub
      context_holds g d i σ leaves eg ep ej ε vary ps =
          subst (λ t. Der T R t) (sym (sub_sub ε σ d.judgment) ∙ ap (sub ε) (sym ej))
          (hold d (inr i) δ varies
          (subst (λ ts. Ders T R ts) (ap (subs ε) ep ∙ subs_subs ε σ d.premises) ps))
        where
          δ : ℕ → Tree
          δ v = sub ε (σ v)

          mention : (w v : ℕ) → Mentions w d → Occ v (σ w) → Mentions v g
          mention w v (inl o) q = inl (subst (λ t. Occ v t) (sym ej) (occ_sub σ d.judgment v w o q))
          mention w v (inr o) q = inr (subst (λ ts. Occs v ts) (sym ep) (occs_subs σ d.premises v w o q))

          same : (v : ℕ) → Mentions v d → ¬ (In v d.general) → δ v ≡ γ v
          same v m x = go (leaves v)
            where
              go : (In v d.general × (σ v ≡ var v)) ⊎ (¬ (In v d.general) × (σ v ≡ θ v)) → δ v ≡ γ v
              go (inl p) = absurd (x p.0)
              go (inr p) =
                  ap (sub ε) p.1
                  ∙ (sub_ext ε wide (θ v)
                  (λ w o. vary.same w (mention v w m (subst (λ t. Occ w t) (sym p.1) o))
                  (λ y. c.uncaptured d i v w x o (subst (λ l. In w l) eg y)))
                  ∙ (ab v ∙ kept v (inr (d, i, m))))

          value : (v : ℕ) → Mentions v d → In v d.general → Value (sig T) (δ v) (vs v)
          value v m x = go (leaves v)
            where
              go : (In v d.general × (σ v ≡ var v)) ⊎ (¬ (In v d.general) × (σ v ≡ θ v))
                  → Value (sig T) (δ v) (vs v)
              go (inr p) = absurd (p.0 x)
              go (inl p) =
                  subst (λ t. Value (sig T) (sub ε t) (vs v)) (sym p.1)
                  (vary.value v (mention v v m (subst (λ t. Occ v t) (sym p.1) refl)) (subst (λ l. In v l) (sym eg) x))

          varies : Varies T vs d γ δ
          varies = record { same = same; value = value }

      hyp_holds : (g : Fact) → InvertHyp r lk.name C θ g → Holds T vs R wide g
      unfolding Plain
      hyp_holds g (of_rule p i) =
          plain_holds T vs R g wide p.0
          (ders_in T R (subs ρ r.premises) (sub wide g.judgment) ds
          (subst (λ ts. Among (sub wide g.judgment) ts) (absorbs_subs wide θ ab (subs β r.premises) ∙ prems_back)
          (among_subs wide g.judgment (subs θ (subs β r.premises)) i)))
      hyp_holds g (of_context d i σ leaves eg ep ej) = context_holds g d i σ leaves eg ep ej

      at_case : Der T R (sub γ J)
      unfolding Entails Gives Needs Used
      at_case =
          subst (λ t. Der T R t) (absorbs_sub wide θ ab J ∙ sub_ext wide γ J (λ v o. kept v (inl (inr o))))
          (c.proved wide needed (λ g i. hyp_holds g (c.allowed g i)))
        where
          needed : (v : ℕ) → Needs c.hyps (sub θ J) v → Value (sig T) (wide v) (vs v)
          needed v (inl o) =
              let a = sub_occ θ J v o in
              through a.0 (subst (λ t. Value (sig T) t (vs a.0)) (sym (kept a.0 (inl (inr a.1)))) (n a.0 (inl a.1))) v a.2
          needed v (inr (g, i, f)) = hyp_valued g (c.allowed g i) v f

    at_rule : Cased T vs R k.judgment J C r lk.name → Der T R (sub γ J)
    unfolding Apart
    at_rule (apart none-exists) = absurd (none-exists wide unifies)
    at_rule (unified θ g c) = at_case θ g.sorts (g.absorbs wide unifies) c

  -- invert: k is the plain hypothesis, C the context; every rule that may be used and has k's predicate was looked at
  pub invert_true : (p : ℕ) (hs : Trees)
      → Plain k
      → k.judgment ≡ app p hs
      → (shapes : (r : ℕ) → R r → Shaped (rule T r))
      → ((r : ℕ) (u : R r) → (shapes r u).head ≡ p → Looked T vs R k.judgment J C (rule T r))
      → Entails T vs R Both J
  unfolding Entails Gives Both sub symbol
  invert_true p hs plain form shapes looks γ n hold =
      inv (sub γ k.judgment) (plain_der T vs R k γ plain (hold k (inl refl))) refl
    where
      at_node : (r : ℕ) (u : R r) (ρ : ℕ → Tree) → ((i : ℕ) → i < arity (rule T r) → Value (sig T) (ρ i) (rule_sort (rule T r) i))
          → Ders T R (subs ρ (rule T r).premises) → sub ρ (rule T r).conclusion ≡ sub γ k.judgment → Der T R (sub γ J)
      at_node r u ρ val ds e = at_rule plain γ n hold (rule T r) (shapes r u) look ρ val ds e look.cased
        where
          same_head : (shapes r u).head ≡ p
          same_head = ap symbol (sym (ap (sub ρ) (shapes r u).form) ∙ (e ∙ ap (sub γ) form))

          look : Looked T vs R k.judgment J C (rule T r)
          look = looks r u same_head

      inv : (j : Tree) → Der T R j → j ≡ sub γ k.judgment → Der T R (sub γ J)
      inv j (node r ρ j' u val ds e) q = at_node r u ρ val ds (e ∙ q)
