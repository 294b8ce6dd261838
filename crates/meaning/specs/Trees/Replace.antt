-- Replacements changed at some variables: at one, at a list of variables, at the names of a rule's variables; and what each is where.
-- Assumes nothing.
use Rattle.std.specs.Prelude.{ℕ, zero, suc, ◌<◌, ◌≡◌, ◌⊎◌}
use Rattle.std.proofs.Math.Path.{refl, ap, ap₂, subst}
use Rattle.std.proofs.Common.{sym, ◌∙◌, inl, inr, arith}
use mathlib.Core.List.{List, [], ◌∷◌}
use Rattle.std.proofs.Math.Decide.{ℕ_discrete}
use Rattle.rules.specs.Tree.{Tree, Trees, var, none, more, sub, subs}
use Rattle.meaning.specs.Trees.Tree.{Occ, Occs, Sig, Sorted, Sorteds, In, Among, subs_ext}
use Rattle.meaning.specs.Signature.{Value, Values}

unfoldable pub pick : {A : Type 0} → Dec A → Tree → Tree → Tree
pick (yes p) a b = a
pick (no p) a b = b

-- f, but u at x
unfoldable pub put : (ℕ → Tree) → ℕ → Tree → ℕ → Tree
put f x u v = pick (ℕ_discrete v x) u (f v)

-- f, but the trees at the variables, in order
unfoldable pub puts : (ℕ → Tree) → List ℕ → Trees → ℕ → Tree
puts f [] ts = f
puts f (y ∷ ys) none = f
puts f (y ∷ ys) (more t ts) = put (puts f ys ts) y t

unfoldable pub vars : List ℕ → Trees
vars [] = none
vars (y ∷ ys) = more (var y) (vars ys)

-- the variables have these sorts
unfoldable pub Fit : (ℕ → ℕ) → List ℕ → List ℕ → Type 0
Fit vs [] [] = Unit {0}
Fit vs [] (s ∷ ss) = ⊥
Fit vs (y ∷ ys) [] = ⊥
Fit vs (y ∷ ys) (s ∷ ss) = (vs y ≡ s) × Fit vs ys ss

unfoldable pub Distinct : List ℕ → Type 0
Distinct [] = Unit {0}
Distinct (y ∷ ys) = ¬ (In y ys) × Distinct ys

-- Lemmas
pub put_cases : (f : ℕ → Tree) (x : ℕ) (u : Tree) (v : ℕ) → ((v ≡ x) × (put f x u v ≡ u)) ⊎ (¬ (v ≡ x) × (put f x u v ≡ f v))
unfolding put pick
put_cases f x u v = go (ℕ_discrete v x)
  where
    go : (d : Dec (v ≡ x)) → ((v ≡ x) × (pick d u (f v) ≡ u)) ⊎ (¬ (v ≡ x) × (pick d u (f v) ≡ f v))
    go (yes p) = inl (p, refl)
    go (no p) = inr (p, refl)

pub put_same : (f : ℕ → Tree) (x : ℕ) (u : Tree) → put f x u x ≡ u
put_same f x u = elim (put_cases f x u x) [ inl p ↦ p.1 | inr p ↦ absurd (p.0 refl) ]

pub put_other : (f : ℕ → Tree) (x : ℕ) (u : Tree) (v : ℕ) → ¬ (v ≡ x) → put f x u v ≡ f v
put_other f x u v n = elim (put_cases f x u v) [ inl p ↦ absurd (n p.0) | inr p ↦ p.1 ]

pub in_dec : (v : ℕ) (xs : List ℕ) → Dec (In v xs)
unfolding In
in_dec v [] = no (λ x. x)
in_dec v (x ∷ xs) = go (ℕ_discrete v x) (in_dec v xs)
  where
    go : Dec (v ≡ x) → Dec (In v xs) → Dec ((v ≡ x) ⊎ In v xs)
    go (yes p) d = yes (inl p)
    go (no p) (yes q) = yes (inr q)
    go (no p) (no q) = no (λ r. elim r [ inl a ↦ p a | inr a ↦ q a ])

pub puts_other : (f : ℕ → Tree) (ys : List ℕ) (ts : Trees) (v : ℕ) → ¬ (In v ys) → puts f ys ts v ≡ f v
unfolding puts In
puts_other f [] ts v n = refl
puts_other f (y ∷ ys) none v n = refl
puts_other f (y ∷ ys) (more t ts) v n =
    put_other (puts f ys ts) y t v (λ p. n (inl p)) ∙ puts_other f ys ts v (λ p. n (inr p))

pub vars_in_lem : (v : ℕ) (ys : List ℕ) → Occs v (vars ys) → In v ys
unfolding vars In Occ
vars_in_lem v [] o = o
vars_in_lem v (y ∷ ys) (inl o) = inl o
vars_in_lem v (y ∷ ys) (inr o) = inr (vars_in_lem v ys o)

module _ (S : Sig) (vs : ℕ → ℕ) (f : ℕ → Tree) where
  pub puts_in : (ys : List ℕ) (ts : Trees) (ss : List ℕ) → Fit vs ys ss → Values S ts ss → (y : ℕ) → In y ys
      → Among (puts f ys ts y) ts × Value S (puts f ys ts y) (vs y)
  unfolding puts In Fit Among Value
  puts_in [] ts ss a b y i = absurd i
  puts_in (z ∷ ys) none [] a b y i = absurd a
  puts_in (z ∷ ys) none (s ∷ ss) a b y i = absurd b
  puts_in (z ∷ ys) (more t ts) [] a b y i = absurd a
  puts_in (z ∷ ys) (more t ts) (s ∷ ss) a b y i =
      go (put_cases (puts f ys ts) z t y) i (λ q. puts_in ys ts ss a.1 b.1 y q)
    where
      go : ((y ≡ z) × (put (puts f ys ts) z t y ≡ t)) ⊎ (¬ (y ≡ z) × (put (puts f ys ts) z t y ≡ puts f ys ts y))
          → (y ≡ z) ⊎ In y ys
          → (In y ys → Among (puts f ys ts y) ts × Value S (puts f ys ts y) (vs y))
          → ((put (puts f ys ts) z t y ≡ t) ⊎ Among (put (puts f ys ts) z t y) ts) × Value S (put (puts f ys ts) z t y) (vs y)
      go (inl p) _ r = (inl p.1, subst (λ u. Value S u (vs y)) (sym p.1) (subst (λ s'. Value S t s') (sym a.0 ∙ ap vs (sym p.0)) b.0))
      go (inr p) (inl q) r = absurd (p.0 q)
      go (inr p) (inr q) r =
          (inr (subst (λ u. Among u ts) (sym p.1) (r q).0), subst (λ u. Value S u (vs y)) (sym p.1) (r q).1)

  pub puts_vars : (ys : List ℕ) (ts : Trees) (ss : List ℕ) → Distinct ys → Fit vs ys ss → Values S ts ss
      → subs (puts f ys ts) (vars ys) ≡ ts
  unfolding puts In Fit Distinct vars Value sub
  puts_vars [] none ss d a b = refl
  puts_vars [] (more t ts) [] d a b = absurd b
  puts_vars [] (more t ts) (s ∷ ss) d a b = absurd a
  puts_vars (y ∷ ys) none [] d a b = absurd a
  puts_vars (y ∷ ys) none (s ∷ ss) d a b = absurd b
  puts_vars (y ∷ ys) (more t ts) [] d a b = absurd a
  puts_vars (y ∷ ys) (more t ts) (s ∷ ss) d a b =
      ap₂ more (put_same (puts f ys ts) y t)
      (subs_ext (put (puts f ys ts) y t) (puts f ys ts) (vars ys)
      (λ v o. put_other (puts f ys ts) y t v (λ e. d.0 (subst (λ z. In z ys) e (vars_in_lem v ys o))))
      ∙ puts_vars ys ts ss d.1 a.1 b.1)

  -- the variables have their own sorts
  pub vars_sorted : (ys ss : List ℕ) → Fit vs ys ss → Sorteds S vs (vars ys) ss
  unfolding vars Fit Sorted
  vars_sorted [] [] a = tt
  vars_sorted [] (s ∷ ss) a = absurd a
  vars_sorted (y ∷ ys) [] a = absurd a
  vars_sorted (y ∷ ys) (s ∷ ss) a = (a.0, vars_sorted ys ss a.1)

-- γ, but ρ i at name i for i < n
unfoldable pub spread : (ℕ → Tree) → (ℕ → ℕ) → (ℕ → Tree) → ℕ → ℕ → Tree
spread γ name ρ zero = γ
spread γ name ρ (suc n) = put (spread γ name ρ n) (name n) (ρ n)

pub spread_other : (γ : ℕ → Tree) (name : ℕ → ℕ) (ρ : ℕ → Tree) (n v : ℕ) → ((i : ℕ) → i < n → ¬ (v ≡ name i)) → spread γ name ρ n v ≡ γ v
unfolding spread
spread_other γ name ρ zero v h = refl
spread_other γ name ρ (suc n) v h =
    put_other (spread γ name ρ n) (name n) (ρ n) v (h n (omega arith)) ∙ spread_other γ name ρ n v (λ i l. h i (omega arith))

pub spread_at : (γ : ℕ → Tree) (name : ℕ → ℕ) (ρ : ℕ → Tree) (n i : ℕ) → i < n
    → ((a b : ℕ) → a < n → b < n → name a ≡ name b → a ≡ b) → spread γ name ρ n (name i) ≡ ρ i
unfolding spread
spread_at γ name ρ zero i l d = let z : ⊥ = omega arith in absurd z
spread_at γ name ρ (suc n) i l d =
    go (put_cases (spread γ name ρ n) (name n) (ρ n) (name i)) (λ m. spread_at γ name ρ n i m (λ a b p q. d a b (omega arith) (omega arith)))
  where
    go : ((name i ≡ name n) × (put (spread γ name ρ n) (name n) (ρ n) (name i) ≡ ρ n))
        ⊎ (¬ (name i ≡ name n) × (put (spread γ name ρ n) (name n) (ρ n) (name i) ≡ spread γ name ρ n (name i)))
        → (i < n → spread γ name ρ n (name i) ≡ ρ i)
        → put (spread γ name ρ n) (name n) (ρ n) (name i) ≡ ρ i
    go (inl p) h = p.1 ∙ ap ρ (sym (d i n l (omega arith) p.0))
    go (inr p) h = p.1 ∙ h (let q : ¬ (i ≡ n) = λ e. p.0 (ap name e) in omega arith)
