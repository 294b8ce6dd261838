-- Laws of the words of demand 3 that every form's lemma uses: values of replaced trees, lists of derivations, plain hypotheses, and what a
-- reference to a true fact gives. Generic in the set of rules. Assumes nothing.
use Rattle.std.specs.Prelude.{ℕ, ◌≡◌, List, [], ◌∷◌}
use Rattle.std.proofs.Math.Path.{refl, sym, subst}
use Rattle.std.proofs.Math.Logic.{inl, inr}
use Rattle.rules.specs.Tree.{Tree, Trees, var, app, none, more, sub, subs}
use Rattle.rules.specs.Theory.{Theory}
use Rattle.rules.specs.State.{Fact}
use Rattle.meaning.specs.Trees.Tree.{Occ, Occs, Sig, Sorted, Sorteds, In, Among}
use Rattle.meaning.specs.Trees.Tree.{sub_ext}
use Rattle.meaning.specs.Signature.{sig, Value, Values}
use Rattle.meaning.specs.Derivation.{Der, Ders, leaf, both}
use Rattle.meaning.specs.Truth.{Mentions, Needs, Varies, Holds, Gives, Entails, Plain}

-- a replacement by ground terms, both ways
module _ (S : Sig) (ps : ℕ → ℕ) (f : ℕ → Tree) where
  mutual
    unfolding sub Occ Sorted Value

    pub value_sub : (t : Tree) (s : ℕ) → Sorted S ps t s → ((v : ℕ) → Occ v t → Value S (f v) (ps v)) → Value S (sub f t) s
    value_sub (var u) s k h = subst (λ z. Value S (f u) z) k (h u refl)
    value_sub (app c ts) s k h = (k.0, k.1, values_subs ts (S.ins c) k.2 h)

    pub values_subs : (ts : Trees) (ss : List ℕ) → Sorteds S ps ts ss → ((v : ℕ) → Occs v ts → Value S (f v) (ps v))
        → Values S (subs f ts) ss
    values_subs none [] k h = tt
    values_subs none (s ∷ ss) k h = absurd k
    values_subs (more t ts) [] k h = absurd k
    values_subs (more t ts) (s ∷ ss) k h =
        (value_sub t s k.0 (λ v o. h v (inl o)), values_subs ts ss k.1 (λ v o. h v (inr o)))

  mutual
    unfolding sub Occ Sorted Value

    pub sub_value : (t : Tree) (s : ℕ) → Sorted S ps t s → Value S (sub f t) s → (v : ℕ) → Occ v t → Value S (f v) (ps v)
    sub_value (var u) s k h v o = subst (λ z. Value S (f z) (ps z)) (sym o) (subst (λ z. Value S (f u) z) (sym k) h)
    sub_value (app c ts) s k h v o = subs_values ts (S.ins c) k.2 h.2 v o

    pub subs_values : (ts : Trees) (ss : List ℕ) → Sorteds S ps ts ss → Values S (subs f ts) ss → (v : ℕ) → Occs v ts
        → Value S (f v) (ps v)
    subs_values none ss k h v o = absurd o
    subs_values (more t ts) [] k h v o = absurd k
    subs_values (more t ts) (s ∷ ss) k h v (inl o) = sub_value t s k.0 h.0 v o
    subs_values (more t ts) (s ∷ ss) k h v (inr o) = subs_values ts ss k.1 h.1 v o

module _ (T : Theory) (R : ℕ → Type 0) where
  pub ders_in : (ts : Trees) (t : Tree) → Ders T R ts → Among t ts → Der T R t
  unfolding Among
  ders_in ts t leaf i = absurd i
  ders_in ts t (both u us d ds) (inl e) = subst (λ z. Der T R z) (sym e) d
  ders_in ts t (both u us d ds) (inr i) = ders_in us t ds i

  pub ders_all : (γ : ℕ → Tree) (ts : Trees) → ((t : Tree) → Among t ts → Der T R (sub γ t)) → Ders T R (subs γ ts)
  unfolding Among sub
  ders_all γ none h = leaf
  ders_all γ (more t ts) h = both (sub γ t) (subs γ ts) (h t (inl refl)) (ders_all γ ts (λ u i. h u (inr i)))

module _ (T : Theory) (vs : ℕ → ℕ) (R : ℕ → Type 0) where
  -- each tree of the list is given
  unfoldable pub GivesAll : (Fact → Type 0) → Tree → Trees → Type 0
  GivesAll K j none = Unit {0}
  GivesAll K j (more t ts) = Gives T vs R K j t × GivesAll K j ts

  pub gives_ders : (K : Fact → Type 0) (j : Tree) (ts : Trees) → GivesAll K j ts → (γ : ℕ → Tree)
      → ((v : ℕ) → Needs K j v → Value (sig T) (γ v) (vs v)) → ((g : Fact) → K g → Holds T vs R γ g)
      → Ders T R (subs γ ts)
  unfolding GivesAll sub Gives
  gives_ders K j none a γ n h = leaf
  gives_ders K j (more t ts) a γ n h = both (sub γ t) (subs γ ts) (a.0 γ n h) (gives_ders K j ts a.1 γ n h)

  -- a bare reference: a true fact's judgment, where its hypotheses are among K and its variables are allowed
  pub gives_ref : (K H : Fact → Type 0) (j t : Tree) → Entails T vs R H t → ((g : Fact) → H g → K g)
      → ((v : ℕ) → Occ v t → Needs K j v) → Gives T vs R K j t
  unfolding Entails Gives Needs
  gives_ref K H j t e s a γ n h = e γ good (λ g x. h g (s g x))
    where
      good : (v : ℕ) → Needs H t v → Value (sig T) (γ v) (vs v)
      good v (inl o) = n v (a v o)
      good v (inr x) = n v (inr (x.0, s x.0 x.1, x.2))

  -- hyp: a hypothesis without premises is itself a true fact
  pub hyp_true : (g : Fact) → g.premises ≡ none → Entails T vs R (λ h. h ≡ g) g.judgment
  unfolding Entails Gives Needs Holds Mentions sub Occ
  hyp_true g p γ n h = h g refl γ varies (subst (λ ts. Ders T R (subs γ ts)) (sym p) leaf)
    where
      varies : Varies T vs g γ γ
      varies = record {
        same = λ v m i. refl;
        value = λ v m i. elim m [ inl o ↦ n v (inl o) | inr o ↦ absurd (subst (λ ts. Occs v ts) p o) ];
      }

  -- a plain hypothesis holds where its judgment is derivable
  pub plain_holds : (g : Fact) (γ : ℕ → Tree) → g.general ≡ [] → Der T R (sub γ g.judgment) → Holds T vs R γ g
  unfolding Holds Mentions In
  plain_holds g γ p d δ y _ =
      subst (λ t. Der T R t)
      (sub_ext γ δ g.judgment (λ v o. sym (y.same v (inl o) (λ x. subst (λ l. In v l) p x))))
      d

  -- of a plain hypothesis that holds, the judgment is derivable
  pub plain_der : (g : Fact) (γ : ℕ → Tree) → Plain g → Holds T vs R γ g → Der T R (sub γ g.judgment)
  unfolding Plain Holds In sub
  plain_der g γ p h =
      h γ (record { same = λ v m n. refl; value = λ v m i. absurd (subst (λ l. In v l) p.0 i) })
      (subst (λ ts. Ders T R (subs γ ts)) (sym p.1) leaf)
