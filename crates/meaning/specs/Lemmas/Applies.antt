-- `apply` on a hypothesis and on another fact, and a reference with bindings: the fact that they give is true. Generic in the set of rules.
-- Assumes nothing.
use Prim.Native.Nat.{ℕ}
use Rattle.std.specs.Prelude.{◌≡◌, refl, ◌⊎◌, []}
use Rattle.std.proofs.Common.{sym, ◌∙◌, inl, inr}
use Rattle.std.proofs.Math.Path.{ap, subst}
use Rattle.rules.specs.Tree.{Tree, var, none, sub, subs}
use Rattle.rules.specs.Theory.{Theory}
use Rattle.rules.specs.State.{Fact}
use Rattle.meaning.specs.Trees.Tree.{Occ, Occs, Sorted, In}
use Rattle.meaning.specs.Trees.Tree.{sub_sub, subs_subs, occ_sub, occs_subs}
use Rattle.meaning.specs.Signature.{sig, Value}
use Rattle.meaning.specs.Derivation.{Der, Ders}
use Rattle.meaning.specs.Truth.{Mentions, Free, Needs, Varies, Holds, Gives, Entails}
use Rattle.meaning.specs.Lemmas.Sound.{value_sub, GivesAll, gives_ders, plain_holds}

module _ (T : Theory) (vs : ℕ → ℕ) (R : ℕ → Type 0) where
  -- apply on a hypothesis g of K: σ is the bindings, the variable itself where none is given
  pub apply_hyp_true : (K : Fact → Type 0) (g : Fact) (σ : ℕ → Tree) (j : Tree)
      → K g
      → ((v : ℕ) → (σ v ≡ var v) ⊎ (In v g.general × Sorted (sig T) vs (σ v) (vs v) × ((w : ℕ) → Occ w (σ v) → Needs K j w)))
      → ((w : ℕ) → Occs w (subs σ g.premises) → Needs K j w)
      → GivesAll T vs R K j (subs σ g.premises)
      → sub σ g.judgment ≡ j
      → Entails T vs R K j
  unfolding Entails Gives Needs Holds Mentions sub Occ
  apply_hyp_true K g σ j k b i p e γ n h =
      subst (λ t. Der T R t) (sym (sub_sub γ σ g.judgment) ∙ ap (sub γ) e)
      (h g k δ varies (subst (λ ts. Ders T R ts) (subs_subs γ σ g.premises) (gives_ders T vs R K j (subs σ g.premises) p γ n h)))
    where
      δ : ℕ → Tree
      δ v = sub γ (σ v)

      occurs : (v : ℕ) → σ v ≡ var v → Occ v (σ v)
      occurs v q = subst (λ t. Occ v t) (sym q) refl

      need : (v : ℕ) → σ v ≡ var v → Mentions v g → Needs K j v
      need v q (inl o) = inl (subst (λ t. Occ v t) e (occ_sub σ g.judgment v v o (occurs v q)))
      need v q (inr o) = i v (occs_subs σ g.premises v v o (occurs v q))

      valued : (v : ℕ) → Mentions v g
          → (σ v ≡ var v) ⊎ (In v g.general × Sorted (sig T) vs (σ v) (vs v) × ((w : ℕ) → Occ w (σ v) → Needs K j w))
          → Value (sig T) (δ v) (vs v)
      valued v m (inl q) = subst (λ t. Value (sig T) (sub γ t) (vs v)) (sym q) (n v (need v q m))
      valued v m (inr q) = value_sub (sig T) vs γ (σ v) (vs v) q.1 (λ w o. n w (q.2 w o))

      kept : (v : ℕ) → ¬ (In v g.general)
          → (σ v ≡ var v) ⊎ (In v g.general × Sorted (sig T) vs (σ v) (vs v) × ((w : ℕ) → Occ w (σ v) → Needs K j w))
          → δ v ≡ γ v
      kept v x (inl q) = ap (sub γ) q
      kept v x (inr q) = absurd (x q.0)

      varies : Varies T vs g γ δ
      varies = record { same = λ v m x. kept v x (b v); value = λ v m x. valued v m (b v) }

  -- apply on a fact that is true: H are its hypotheses, all plain; σ the bindings
  pub apply_fact_true : (K H : Fact → Type 0) (t : Tree) (σ : ℕ → Tree) (j : Tree)
      → Entails T vs R H t
      → ((v : ℕ) → Sorted (sig T) vs (σ v) (vs v))
      → ((g : Fact) → H g → (g.general ≡ []) × (g.premises ≡ none))
      → ((g : Fact) → H g → Gives T vs R K j (sub σ g.judgment))
      → ((g : Fact) → H g → (w : ℕ) → Occ w (sub σ g.judgment) → Needs K j w)
      → sub σ t ≡ j
      → Entails T vs R K j
  unfolding Entails Gives Needs Free Mentions sub Occ
  apply_fact_true K H t σ j f s l p a e γ n h =
      subst (λ u. Der T R u) (sym (sub_sub γ σ t) ∙ ap (sub γ) e) (f δ good holds)
    where
      δ : ℕ → Tree
      δ v = sub γ (σ v)

      good : (v : ℕ) → Needs H t v → Value (sig T) (δ v) (vs v)
      good v (inl o) = value_sub (sig T) vs γ (σ v) (vs v) (s v) (λ w q. n w (inl (subst (λ u. Occ w u) e (occ_sub σ t w v o q))))
      good v (inr (g, x, (inl o, y))) =
          value_sub (sig T) vs γ (σ v) (vs v) (s v) (λ w q. n w (a g x w (occ_sub σ g.judgment w v o q)))
      good v (inr (g, x, (inr o, y))) = absurd (subst (λ ts. Occs v ts) (l g x).1 o)

      holds : (g : Fact) → H g → Holds T vs R δ g
      holds g x = plain_holds T vs R g δ (l g x).0 (subst (λ u. Der T R u) (sub_sub γ σ g.judgment) (p g x γ n h))

  -- a reference with bindings: an instance of a true fact without hypotheses
  pub instance_true : (t : Tree) (σ : ℕ → Tree) → Entails T vs R (λ g. ⊥) t → ((v : ℕ) → Sorted (sig T) vs (σ v) (vs v))
      → Entails T vs R (λ g. ⊥) (sub σ t)
  instance_true t σ f s =
      apply_fact_true (λ g. ⊥) (λ g. ⊥) t σ (sub σ t) f s (λ g x. absurd x) (λ g x. absurd x) (λ g x. absurd x) refl
