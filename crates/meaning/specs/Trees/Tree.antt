-- Predicates on the definition's trees: a variable occurs, no variable occurs, well-sorted. Then what replacement does to each of them.
-- Every lemma is a pair, one for a tree and one for a list of trees. Assumes nothing.
use Rattle.std.specs.Prelude.{◌≡◌, refl, ◌⊎◌, List, [], ◌∷◌, ℕ, suc, ◌≤◌, ◌<◌}
use Rattle.std.proofs.Common.{sym, ◌∙◌, ap, ap₂, subst, inl, inr, arith}
use Rattle.rules.specs.Tree.{Tree, Trees, var, app, none, more, sub, subs, count_trees, size, sizes}

-- the variable v occurs in the tree
unfoldable mutual
  pub Occ : ℕ → Tree → Type 0
  Occ v (var w) = v ≡ w
  Occ v (app c ts) = Occs v ts

  pub Occs : ℕ → Trees → Type 0
  Occs v none = ⊥
  Occs v (more t ts) = Occ v t ⊎ Occs v ts

-- no variable occurs
unfoldable mutual
  pub Ground : Tree → Type 0
  Ground (var w) = ⊥
  Ground (app c ts) = Grounds ts

  pub Grounds : Trees → Type 0
  Grounds none = Unit {0}
  Grounds (more t ts) = Ground t × Grounds ts

-- a signature: so many symbols; for each the sorts of its arguments and of its value
pub record Sig : Type 0 where
  pub syms : ℕ
  pub ins : ℕ → List ℕ
  pub out : ℕ → ℕ

-- under the sorts vs of the variables, the tree has sort s
module _ (S : Sig) (vs : ℕ → ℕ) where
  unfoldable mutual
    pub Sorted : Tree → ℕ → Type 0
    Sorted (var v) s = vs v ≡ s
    Sorted (app c ts) s = (c < S.syms) × (S.out c ≡ s) × Sorteds ts (S.ins c)

    pub Sorteds : Trees → List ℕ → Type 0
    Sorteds none [] = Unit {0}
    Sorteds none (s ∷ ss) = ⊥
    Sorteds (more t ts) [] = ⊥
    Sorteds (more t ts) (s ∷ ss) = Sorted t s × Sorteds ts ss

-- v is in the list
unfoldable pub In : ℕ → List ℕ → Type 0
In v [] = ⊥
In v (x ∷ xs) = (v ≡ x) ⊎ In v xs

-- t is one of the trees
unfoldable pub Among : Tree → Trees → Type 0
Among t none = ⊥
Among t (more u us) = (t ≡ u) ⊎ Among t us

-- Parts of equal trees ------------------------------------------------------------------------------------------------------------

pub app_symbol : (c d : ℕ) (ts us : Trees) → app c ts ≡ app d us → c ≡ d
app_symbol c d ts us e = cc

pub app_args : (c d : ℕ) (ts us : Trees) → app c ts ≡ app d us → ts ≡ us
app_args c d ts us e = cc

pub more_head : (t u : Tree) (ts us : Trees) → more t ts ≡ more u us → t ≡ u
more_head t u ts us e = cc

pub more_tail : (t u : Tree) (ts us : Trees) → more t ts ≡ more u us → ts ≡ us
more_tail t u ts us e = cc

-- Replacement -------------------------------------------------------------------------------------------------------------------

-- only the variables that occur matter
mutual
  unfolding sub Occ

  pub sub_ext : (f g : ℕ → Tree) (t : Tree) → ((v : ℕ) → Occ v t → f v ≡ g v) → sub f t ≡ sub g t
  sub_ext f g (var v) h = h v refl
  sub_ext f g (app c ts) h = ap (app c) (subs_ext f g ts h)

  pub subs_ext : (f g : ℕ → Tree) (ts : Trees) → ((v : ℕ) → Occs v ts → f v ≡ g v) → subs f ts ≡ subs g ts
  subs_ext f g none h = refl
  subs_ext f g (more t ts) h = ap₂ more (sub_ext f g t (λ v o. h v (inl o))) (subs_ext f g ts (λ v o. h v (inr o)))

-- and each of them does
mutual
  unfolding sub Occ

  pub ext_sub : (f g : ℕ → Tree) (t : Tree) → sub f t ≡ sub g t → (v : ℕ) → Occ v t → f v ≡ g v
  ext_sub f g (var w) e v o = subst (λ z. f z ≡ g z) (sym o) e
  ext_sub f g (app c ts) e v o = ext_subs f g ts (app_args c c (subs f ts) (subs g ts) e) v o

  pub ext_subs : (f g : ℕ → Tree) (ts : Trees) → subs f ts ≡ subs g ts → (v : ℕ) → Occs v ts → f v ≡ g v
  ext_subs f g none e v o = absurd o
  ext_subs f g (more t ts) e v (inl o) = ext_sub f g t (more_head (sub f t) (sub g t) (subs f ts) (subs g ts) e) v o
  ext_subs f g (more t ts) e v (inr o) = ext_subs f g ts (more_tail (sub f t) (sub g t) (subs f ts) (subs g ts) e) v o

-- one after the other
mutual
  unfolding sub

  pub sub_sub : (f g : ℕ → Tree) (t : Tree) → sub f (sub g t) ≡ sub (λ v. sub f (g v)) t
  sub_sub f g (var v) = refl
  sub_sub f g (app c ts) = ap (app c) (subs_subs f g ts)

  pub subs_subs : (f g : ℕ → Tree) (ts : Trees) → subs f (subs g ts) ≡ subs (λ v. sub f (g v)) ts
  subs_subs f g none = refl
  subs_subs f g (more t ts) = ap₂ more (sub_sub f g t) (subs_subs f g ts)

-- every variable by itself
mutual
  unfolding sub

  pub sub_var : (t : Tree) → sub var t ≡ t
  sub_var (var v) = refl
  sub_var (app c ts) = ap (app c) (subs_var ts)

  pub subs_var : (ts : Trees) → subs var ts ≡ ts
  subs_var none = refl
  subs_var (more t ts) = ap₂ more (sub_var t) (subs_var ts)

pub count_subs : (f : ℕ → Tree) (ts : Trees) → count_trees (subs f ts) ≡ count_trees ts
unfolding sub count_trees
count_subs f none = refl
count_subs f (more t ts) = ap suc (count_subs f ts)

-- Occurrence --------------------------------------------------------------------------------------------------------------------

-- what occurs after a replacement
mutual
  unfolding sub Occ

  pub occ_sub : (f : ℕ → Tree) (t : Tree) (v w : ℕ) → Occ w t → Occ v (f w) → Occ v (sub f t)
  occ_sub f (var u) v w o p = subst (λ z. Occ v (f z)) o p
  occ_sub f (app c ts) v w o p = occs_subs f ts v w o p

  pub occs_subs : (f : ℕ → Tree) (ts : Trees) (v w : ℕ) → Occs w ts → Occ v (f w) → Occs v (subs f ts)
  occs_subs f none v w o p = absurd o
  occs_subs f (more t ts) v w (inl o) p = inl (occ_sub f t v w o p)
  occs_subs f (more t ts) v w (inr o) p = inr (occs_subs f ts v w o p)

mutual
  unfolding sub Occ

  pub sub_occ : (f : ℕ → Tree) (t : Tree) (v : ℕ) → Occ v (sub f t) → (w : ℕ) × Occ w t × Occ v (f w)
  sub_occ f (var u) v o = (u, refl, o)
  sub_occ f (app c ts) v o = subs_occs f ts v o

  pub subs_occs : (f : ℕ → Tree) (ts : Trees) (v : ℕ) → Occs v (subs f ts) → (w : ℕ) × Occs w ts × Occ v (f w)
  subs_occs f none v o = absurd o
  subs_occs f (more t ts) v (inl o) = let r = sub_occ f t v o in (r.0, inl r.1, r.2)
  subs_occs f (more t ts) v (inr o) = let r = subs_occs f ts v o in (r.0, inr r.1, r.2)

-- a variable of one of the trees
pub among_occ : (t : Tree) (ts : Trees) (v : ℕ) → Among t ts → Occ v t → Occs v ts
unfolding Occ Among
among_occ t none v i o = absurd i
among_occ t (more u us) v (inl p) o = inl (subst (λ z. Occ v z) p o)
among_occ t (more u us) v (inr i) o = inr (among_occ t us v i o)

pub occ_among : (ts : Trees) (v : ℕ) → Occs v ts → (t : Tree) × Among t ts × Occ v t
unfolding Occ Among
occ_among none v o = absurd o
occ_among (more u us) v (inl o) = (u, inl refl, o)
occ_among (more u us) v (inr o) = let r = occ_among us v o in (r.0, inr r.1, r.2)

pub among_subs : (f : ℕ → Tree) (t : Tree) (ts : Trees) → Among t ts → Among (sub f t) (subs f ts)
unfolding sub Among
among_subs f t none i = absurd i
among_subs f t (more u us) (inl p) = inl (ap (sub f) p)
among_subs f t (more u us) (inr i) = inr (among_subs f t us i)

-- Ground trees -------------------------------------------------------------------------------------------------------------------

-- groundness of a replaced tree, both ways
mutual
  unfolding sub Occ Ground

  pub ground_sub : (f : ℕ → Tree) (t : Tree) → ((v : ℕ) → Occ v t → Ground (f v)) → Ground (sub f t)
  ground_sub f (var u) h = h u refl
  ground_sub f (app c ts) h = grounds_subs f ts h

  pub grounds_subs : (f : ℕ → Tree) (ts : Trees) → ((v : ℕ) → Occs v ts → Ground (f v)) → Grounds (subs f ts)
  grounds_subs f none h = tt
  grounds_subs f (more t ts) h = (ground_sub f t (λ v o. h v (inl o)), grounds_subs f ts (λ v o. h v (inr o)))

mutual
  unfolding sub Occ Ground

  pub sub_ground : (f : ℕ → Tree) (t : Tree) → Ground (sub f t) → (v : ℕ) → Occ v t → Ground (f v)
  sub_ground f (var u) h v o = subst (λ z. Ground (f z)) (sym o) h
  sub_ground f (app c ts) h v o = subs_grounds f ts h v o

  pub subs_grounds : (f : ℕ → Tree) (ts : Trees) → Grounds (subs f ts) → (v : ℕ) → Occs v ts → Ground (f v)
  subs_grounds f none h v o = absurd o
  subs_grounds f (more t ts) h v (inl o) = sub_ground f t h.0 v o
  subs_grounds f (more t ts) h v (inr o) = subs_grounds f ts h.1 v o

-- nothing occurs in a ground tree, and a tree in which nothing occurs is ground
mutual
  unfolding Occ Ground

  pub ground_occ : (t : Tree) → Ground t → (v : ℕ) → Occ v t → ⊥
  ground_occ (var u) g v o = g
  ground_occ (app c ts) g v o = grounds_occs ts g v o

  pub grounds_occs : (ts : Trees) → Grounds ts → (v : ℕ) → Occs v ts → ⊥
  grounds_occs none g v o = o
  grounds_occs (more t ts) g v (inl o) = ground_occ t g.0 v o
  grounds_occs (more t ts) g v (inr o) = grounds_occs ts g.1 v o

mutual
  unfolding Occ Ground

  pub occ_ground : (t : Tree) → ((v : ℕ) → Occ v t → ⊥) → Ground t
  occ_ground (var u) h = h u refl
  occ_ground (app c ts) h = occs_grounds ts h

  pub occs_grounds : (ts : Trees) → ((v : ℕ) → Occs v ts → ⊥) → Grounds ts
  occs_grounds none h = tt
  occs_grounds (more t ts) h = (occ_ground t (λ v o. h v (inl o)), occs_grounds ts (λ v o. h v (inr o)))

-- a ground tree stays
pub ground_still : (f : ℕ → Tree) (t : Tree) → Ground t → sub f t ≡ t
ground_still f t g = sub_ext f var t (λ v o. absurd (ground_occ t g v o)) ∙ sub_var t

pub grounds_still : (f : ℕ → Tree) (ts : Trees) → Grounds ts → subs f ts ≡ ts
grounds_still f ts g = subs_ext f var ts (λ v o. absurd (grounds_occs ts g v o)) ∙ subs_var ts

-- Sorts -------------------------------------------------------------------------------------------------------------------------

-- sorts of a replaced tree, both ways: ps are the sorts of the pattern's variables, vs those of the values'
module _ (S : Sig) (ps vs : ℕ → ℕ) (f : ℕ → Tree) where
  mutual
    unfolding sub Occ Sorted

    pub sorted_sub : (t : Tree) (s : ℕ) → Sorted S ps t s → ((v : ℕ) → Occ v t → Sorted S vs (f v) (ps v))
        → Sorted S vs (sub f t) s
    sorted_sub (var u) s k h = subst (λ z. Sorted S vs (f u) z) k (h u refl)
    sorted_sub (app c ts) s k h = (k.0, k.1, sorteds_subs ts (S.ins c) k.2 h)

    pub sorteds_subs : (ts : Trees) (ss : List ℕ) → Sorteds S ps ts ss → ((v : ℕ) → Occs v ts → Sorted S vs (f v) (ps v))
        → Sorteds S vs (subs f ts) ss
    sorteds_subs none [] k h = tt
    sorteds_subs none (s ∷ ss) k h = absurd k
    sorteds_subs (more t ts) [] k h = absurd k
    sorteds_subs (more t ts) (s ∷ ss) k h =
        (sorted_sub t s k.0 (λ v o. h v (inl o)), sorteds_subs ts ss k.1 (λ v o. h v (inr o)))

  -- a well-sorted pattern that matches a well-sorted tree has well-sorted bindings
  mutual
    unfolding sub Occ Sorted

    pub sub_sorted : (t : Tree) (s : ℕ) → Sorted S ps t s → Sorted S vs (sub f t) s → (v : ℕ) → Occ v t
        → Sorted S vs (f v) (ps v)
    sub_sorted (var u) s k h v o = subst (λ z. Sorted S vs (f z) (ps z)) (sym o) (subst (λ z. Sorted S vs (f u) z) (sym k) h)
    sub_sorted (app c ts) s k h v o = subs_sorteds ts (S.ins c) k.2 h.2 v o

    pub subs_sorteds : (ts : Trees) (ss : List ℕ) → Sorteds S ps ts ss → Sorteds S vs (subs f ts) ss → (v : ℕ) → Occs v ts
        → Sorted S vs (f v) (ps v)
    subs_sorteds none ss k h v o = absurd o
    subs_sorteds (more t ts) [] k h v o = absurd k
    subs_sorteds (more t ts) (s ∷ ss) k h v (inl o) = sub_sorted t s k.0 h.0 v o
    subs_sorteds (more t ts) (s ∷ ss) k h v (inr o) = subs_sorteds ts ss k.1 h.1 v o

-- Sizes -------------------------------------------------------------------------------------------------------------------------

pub size_pos : (t : Tree) → 0 < size t
unfolding size
size_pos (var v) = omega arith
size_pos (app c ts) = omega arith

-- what a variable is replaced by is no larger than the whole
mutual
  unfolding size sub Occ

  pub size_occ : (γ : ℕ → Tree) (x : ℕ) (t : Tree) → Occ x t → size (γ x) ≤ size (sub γ t)
  size_occ γ x (var v) o = subst (λ z. size (γ x) ≤ size (γ z)) o (omega arith)
  size_occ γ x (app c ts) o = let h = sizes_occ γ x ts o in omega arith

  pub sizes_occ : (γ : ℕ → Tree) (x : ℕ) (ts : Trees) → Occs x ts → size (γ x) ≤ sizes (subs γ ts)
  sizes_occ γ x none o = absurd o
  sizes_occ γ x (more t ts) (inl o) = let h = size_occ γ x t o in omega arith
  sizes_occ γ x (more t ts) (inr o) = let h = sizes_occ γ x ts o in omega arith
