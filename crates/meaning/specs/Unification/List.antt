-- Replacements as lists of bindings: what `along`, `insert` and `replace` give. One binding more, x to u, where x was not bound, is
-- replacement of x by u after the old one, and keeps the list rising and settled. Assumes nothing.
use Rattle.std.specs.Prelude.{◌≡◌, refl, ◌⊎◌, Bool, true, false, ltb, length}
use Rattle.std.proofs.Common.{sym, ◌∙◌, ap₂, eq-eqb, ne_eqb, ltb-true, ltb-false}
use Rattle.std.proofs.Math.Path.{ap, subst}
use Rattle.std.proofs.Math.Logic.{inl, inr}
use mathlib.Core.List.{List, [], ◌∷◌}
use Prim.Native.Nat.{ℕ, suc, ◌+◌, ◌≤◌, ◌<◌}
use native.Mathlib.Omega.{arith}
use Rattle.std.proofs.Math.Decide.{ℕ_discrete}
use Rattle.rules.specs.Tree.{Tree, var, sub, single}
use Rattle.rules.specs.Store.{Made}
use Rattle.rules.specs.Unify.{Binding, along, insert, replace}
use Rattle.meaning.specs.Trees.Tree.{Occ, sub_ext, sub_var, sub_occ}
use Rattle.meaning.specs.Trees.Tests.{single_cases, single_same, single_other}
use Rattle.meaning.specs.Unification.Acts.{Ok, done, ok_then, substitute_ok, Grows, grows_then, grows_pure, StoreRow, substitute_grows}

-- What is said of a list ------------------------------------------------------------------------------------------------------------

-- v has a binding
unfoldable pub Bound : ℕ → List Binding → Type 0
Bound v [] = ⊥
Bound v (b ∷ θ) = (v ≡ b.variable) ⊎ Bound v θ

-- P of each variable and its value
unfoldable pub Each : (ℕ → Tree → Type 0) → List Binding → Type 0
Each P [] = Unit {0}
Each P (b ∷ θ) = P b.variable b.value × Each P θ

-- the variables rise, the first is k at least
unfoldable pub Rises : ℕ → List Binding → Type 0
Rises k [] = Unit {0}
Rises k (b ∷ θ) = (k ≤ b.variable) × Rises (suc b.variable) θ

-- no variable of a value is bound: once applied, the replacement is done
unfoldable pub Settled : List Binding → Type 0
Settled θ = Each (λ v t. (w : ℕ) → Occ w t → ¬ (Bound w θ)) θ

-- `along` -------------------------------------------------------------------------------------------------------------------------

along_head : (b : Binding) (θ : List Binding) (v : ℕ) → v ≡ b.variable → along (b ∷ θ) v ≡ b.value
unfolding along
along_head b θ v p = rw (eq-eqb v b.variable p, along)

along_tail : (b : Binding) (θ : List Binding) (v : ℕ) → ¬ (v ≡ b.variable) → along (b ∷ θ) v ≡ along θ v
unfolding along
along_tail b θ v n = rw (ne_eqb v b.variable n, along)

pub along_unbound : (θ : List Binding) (v : ℕ) → ¬ (Bound v θ) → along θ v ≡ var v
unfolding along Bound
along_unbound [] v n = refl
along_unbound (b ∷ θ) v n = along_tail b θ v (λ p. n (inl p)) ∙ along_unbound θ v (λ i. n (inr i))

-- a variable is bound, and then has what each binding has, or stays
pub along_cases : (P : ℕ → Tree → Type 0) (θ : List Binding) → Each P θ → (v : ℕ)
    → (Bound v θ × P v (along θ v)) ⊎ (¬ (Bound v θ) × (along θ v ≡ var v))
unfolding along Bound Each
along_cases P [] e v = inr (λ i. i, refl)
along_cases P (b ∷ θ) e v = go (ℕ_discrete v b.variable) (along_cases P θ e.1 v)
  where
    go : Dec (v ≡ b.variable) → (Bound v θ × P v (along θ v)) ⊎ (¬ (Bound v θ) × (along θ v ≡ var v))
        → (Bound v (b ∷ θ) × P v (along (b ∷ θ) v)) ⊎ (¬ (Bound v (b ∷ θ)) × (along (b ∷ θ) v ≡ var v))
    go (yes p) r =
        inl (inl p, subst (λ z. P v z) (sym (along_head b θ v p)) (subst (λ z. P z b.value) (sym p) e.0))
    go (no p) (inl r) = inl (inr r.0, subst (λ z. P v z) (sym (along_tail b θ v p)) r.1)
    go (no p) (inr r) = inr (λ i. elim i [ inl q ↦ p q | inr j ↦ r.0 j ], along_tail b θ v p ∙ r.1)

-- what occurs in a tree under a settled θ is not bound
pub settled_sub : (θ : List Binding) → Settled θ → (t : Tree) (v : ℕ) → Occ v (sub (along θ) t) → ¬ (Bound v θ)
unfolding Settled Occ
settled_sub θ s t v o = let r = sub_occ (along θ) t v o in go r.0 r.2 (along_cases (λ v t. (w : ℕ) → Occ w t → ¬ (Bound w θ)) θ s r.0)
  where
    go : (w : ℕ) → Occ v (along θ w)
        → (Bound w θ × ((z : ℕ) → Occ z (along θ w) → ¬ (Bound z θ))) ⊎ (¬ (Bound w θ) × (along θ w ≡ var w)) → ¬ (Bound v θ)
    go w ow (inl p) = p.1 v ow
    go w ow (inr p) = subst (λ z. ¬ (Bound z θ)) (sym (subst (λ z. Occ v z) p.1 ow)) p.0

-- nothing is left to replace: a settled replacement applied twice does what it does once
pub settled_still : (θ : List Binding) → Settled θ → (t : Tree) → sub (along θ) (sub (along θ) t) ≡ sub (along θ) t
settled_still θ s t =
    sub_ext (along θ) var (sub (along θ) t) (λ w o. along_unbound θ w (settled_sub θ s t w o)) ∙ sub_var (sub (along θ) t)

-- no more bindings than variables
pub rises_length : (k n : ℕ) (θ : List Binding) → Rises k θ → Each (λ v t. v < n) θ → k ≤ n → k + length θ ≤ n
unfolding Rises Each
rises_length k n [] r e l = omega arith
rises_length k n (b ∷ θ) r e l =
    let h = rises_length (suc b.variable) n θ r.1 e.1 (let q = e.0 in omega arith) in let q = r.0 in omega arith

pub each_map : (P Q : ℕ → Tree → Type 0) (θ : List Binding) → ((v : ℕ) (t : Tree) → P v t → Q v t) → Each P θ → Each Q θ
unfolding Each
each_map P Q [] f e = tt
each_map P Q (b ∷ θ) f e = (f b.variable b.value e.0, each_map P Q θ f e.1)

-- `replace` -----------------------------------------------------------------------------------------------------------------------

-- what it answers: u for x in every value
unfoldable pub replaced : ℕ → Tree → List Binding → List Binding
replaced x u [] = []
replaced x u (b ∷ θ) = record { variable = b.variable; value = sub (single x u) b.value } ∷ replaced x u θ

pub replace_ok : (x : ℕ) (u : Tree) (θ : List Binding) (m : Made) → Ok (λ ζ. ζ ≡ replaced x u θ) (replace x u θ m)
unfolding replace replaced
replace_ok x u [] m = done refl
replace_ok x u (b ∷ θ) m =
    ok_then (substitute_ok (single x u) b.value m)
    (λ t m' p. ok_then (replace_ok x u θ m') (λ ζ m'' q. done (ap₂ (λ z ζ'. record { variable = b.variable; value = z } ∷ ζ') p q)))

pub replace_grows : (x : ℕ) (u : Tree) (θ : List Binding) (m : Made) → Grows StoreRow m (replace x u θ m)
unfolding replace
replace_grows x u [] m = grows_pure
replace_grows x u (b ∷ θ) m =
    grows_then (substitute_grows (single x u) b.value m) (λ t m'. grows_then (replace_grows x u θ m') (λ ζ m''. grows_pure))

along_replaced : (x : ℕ) (u : Tree) (θ : List Binding) (v : ℕ) → ¬ (v ≡ x) → along (replaced x u θ) v ≡ sub (single x u) (along θ v)
unfolding replaced along sub
along_replaced x u [] v n = sym (single_other x u v n)
along_replaced x u (b ∷ θ) v n = go (ℕ_discrete v b.variable) (along_replaced x u θ v n)
  where
    c : Binding
    c = record { variable = b.variable; value = sub (single x u) b.value }

    go : Dec (v ≡ b.variable) → along (replaced x u θ) v ≡ sub (single x u) (along θ v)
        → along (c ∷ replaced x u θ) v ≡ sub (single x u) (along (b ∷ θ) v)
    go (yes p) h = along_head c (replaced x u θ) v p ∙ sym (ap (sub (single x u)) (along_head b θ v p))
    go (no p) h = along_tail c (replaced x u θ) v p ∙ (h ∙ sym (ap (sub (single x u)) (along_tail b θ v p)))

bound_replaced : (x : ℕ) (u : Tree) (θ : List Binding) (v : ℕ) → Bound v (replaced x u θ) → Bound v θ
unfolding replaced Bound
bound_replaced x u [] v i = i
bound_replaced x u (b ∷ θ) v (inl p) = inl p
bound_replaced x u (b ∷ θ) v (inr i) = inr (bound_replaced x u θ v i)

each_replaced : (P Q : ℕ → Tree → Type 0) (x : ℕ) (u : Tree) (θ : List Binding)
    → ((v : ℕ) (t : Tree) → P v t → Q v (sub (single x u) t)) → Each P θ → Each Q (replaced x u θ)
unfolding replaced Each
each_replaced P Q x u [] f e = tt
each_replaced P Q x u (b ∷ θ) f e = (f b.variable b.value e.0, each_replaced P Q x u θ f e.1)

rises_replaced : (x : ℕ) (u : Tree) (k : ℕ) (θ : List Binding) → Rises k θ → Rises k (replaced x u θ)
unfolding replaced Rises
rises_replaced x u k [] r = tt
rises_replaced x u k (b ∷ θ) r = (r.0, rises_replaced x u (suc b.variable) θ r.1)

length_replaced : (x : ℕ) (u : Tree) (θ : List Binding) → length (replaced x u θ) ≡ length θ
unfolding replaced
length_replaced x u [] = refl
length_replaced x u (b ∷ θ) = ap suc (length_replaced x u θ)

-- `insert` ------------------------------------------------------------------------------------------------------------------------

insert_cases : (b c : Binding) (θ : List Binding)
    → ((b.variable < c.variable) × (insert b (c ∷ θ) ≡ b ∷ c ∷ θ)) ⊎ ((c.variable ≤ b.variable) × (insert b (c ∷ θ) ≡ c ∷ insert b θ))
unfolding insert
insert_cases b c θ = go (ltb b.variable c.variable) refl
  where
    go : (t : Bool) → ltb b.variable c.variable ≡ t
        → ((b.variable < c.variable) × (insert b (c ∷ θ) ≡ b ∷ c ∷ θ)) ⊎ ((c.variable ≤ b.variable) × (insert b (c ∷ θ) ≡ c ∷ insert b θ))
    go true e = inl (ltb-true b.variable c.variable e, rw (e, insert))
    go false e = inr (ltb-false b.variable c.variable e, rw (e, insert))

-- induction by those two cases
module _ (b : Binding) (Q : List Binding → List Binding → Type 0) (nil : Q [] (b ∷ []))
    (first : (c : Binding) (θ : List Binding) → b.variable < c.variable → Q (c ∷ θ) (b ∷ c ∷ θ))
    (later : (c : Binding) (θ ζ : List Binding) → c.variable ≤ b.variable → Q θ ζ → Q (c ∷ θ) (c ∷ ζ)) where
  insert_by : (θ : List Binding) → Q θ (insert b θ)
  unfolding insert
  insert_by [] = nil
  insert_by (c ∷ θ) = go (insert_cases b c θ) (insert_by θ)
    where
      go : ((b.variable < c.variable) × (insert b (c ∷ θ) ≡ b ∷ c ∷ θ)) ⊎ ((c.variable ≤ b.variable) × (insert b (c ∷ θ) ≡ c ∷ insert b θ))
          → Q θ (insert b θ) → Q (c ∷ θ) (insert b (c ∷ θ))
      go (inl p) h = subst (λ z. Q (c ∷ θ) z) (sym p.1) (first c θ p.0)
      go (inr p) h = subst (λ z. Q (c ∷ θ) z) (sym p.1) (later c θ (insert b θ) p.0 h)

module _ (b : Binding) where
  length_insert : (θ : List Binding) → length (insert b θ) ≡ suc (length θ)
  length_insert θ = insert_by b (λ ξ ζ. length ζ ≡ suc (length ξ)) refl (λ c ξ l. refl) (λ c ξ ζ l h. ap suc h) θ

  pub each_insert : (P : ℕ → Tree → Type 0) (θ : List Binding) → P b.variable b.value → Each P θ → Each P (insert b θ)
  unfolding Each
  each_insert P θ p e = insert_by b (λ ξ ζ. Each P ξ → Each P ζ) (λ _. (p, tt)) (λ c ξ l h. (p, h)) (λ c ξ ζ l f h. (h.0, f h.1)) θ e

  bound_insert : (v : ℕ) (θ : List Binding) → Bound v (insert b θ) → (v ≡ b.variable) ⊎ Bound v θ
  unfolding Bound
  bound_insert v θ i =
      insert_by b (λ ξ ζ. Bound v ζ → (v ≡ b.variable) ⊎ Bound v ξ) (λ j. j) (λ c ξ l j. j)
      (λ c ξ ζ l f j. elim j [ inl p ↦ inr (inl p) | inr k ↦ elim (f k) [ inl p ↦ inl p | inr q ↦ inr (inr q) ] ]) θ i

  rises_insert : (k : ℕ) (θ : List Binding) → k ≤ b.variable → ¬ (Bound b.variable θ) → Rises k θ → Rises k (insert b θ)
  unfolding Rises Bound
  rises_insert k θ l n r =
      insert_by b (λ ξ ζ. (k : ℕ) → k ≤ b.variable → ¬ (Bound b.variable ξ) → Rises k ξ → Rises k ζ)
      (λ k l n r. (l, tt))
      (λ c ξ o k l n r. (l, (o, r.1)))
      (λ c ξ ζ o f k l n r.
      let d : c.variable < b.variable = differs c.variable o (λ p. n (inl p)) in
      (r.0, f (suc c.variable) d (λ i. n (inr i)) r.1))
      θ k l n r
    where
      differs : (c : ℕ) → c ≤ b.variable → ¬ (b.variable ≡ c) → c < b.variable
      differs c o q = elim (ℕ_discrete b.variable c) [ yes p ↦ absurd (q p) | no p ↦ omega arith ]

  along_insert_same : (θ : List Binding) → ¬ (Bound b.variable θ) → along (insert b θ) b.variable ≡ b.value
  unfolding Bound
  along_insert_same θ n =
      insert_by b (λ ξ ζ. ¬ (Bound b.variable ξ) → along ζ b.variable ≡ b.value) (λ _. along_head b [] b.variable refl)
      (λ c ξ l m. along_head b (c ∷ ξ) b.variable refl)
      (λ c ξ ζ l f m. along_tail c ζ b.variable (λ p. m (inl p)) ∙ f (λ i. m (inr i)))
      θ n

  along_insert_other : (θ : List Binding) (v : ℕ) → ¬ (v ≡ b.variable) → along (insert b θ) v ≡ along θ v
  along_insert_other θ v n =
      insert_by b (λ ξ ζ. along ζ v ≡ along ξ v) (along_tail b [] v n) (λ c ξ l. along_tail b (c ∷ ξ) v n)
      (λ c ξ ζ l h. go c ξ ζ (ℕ_discrete v c.variable) h)
      θ
    where
      go : (c : Binding) (ξ ζ : List Binding) → Dec (v ≡ c.variable) → along ζ v ≡ along ξ v → along (c ∷ ζ) v ≡ along (c ∷ ξ) v
      go c ξ ζ (yes p) h = along_head c ζ v p ∙ sym (along_head c ξ v p)
      go c ξ ζ (no p) h = along_tail c ζ v p ∙ (h ∙ sym (along_tail c ξ v p))

-- One binding more ----------------------------------------------------------------------------------------------------------------

-- x is bound to u after θ
unfoldable pub extended : ℕ → Tree → List Binding → List Binding
extended x u θ = insert (record { variable = x; value = u }) (replaced x u θ)

module _ (x : ℕ) (u : Tree) (θ : List Binding) (new : ¬ (Bound x θ)) where
  still_new : ¬ (Bound x (replaced x u θ))
  still_new i = new (bound_replaced x u θ x i)

  -- as a replacement it is u for x after θ
  pub along_extended : (v : ℕ) → along (extended x u θ) v ≡ sub (single x u) (along θ v)
  unfolding extended sub
  along_extended v = go (ℕ_discrete v x)
    where
      b : Binding
      b = record { variable = x; value = u }

      go : Dec (v ≡ x) → along (insert b (replaced x u θ)) v ≡ sub (single x u) (along θ v)
      go (yes p) = subst (λ z. along (insert b (replaced x u θ)) z ≡ sub (single x u) (along θ z)) (sym p)
          (along_insert_same b (replaced x u θ) still_new ∙ (sym (single_same x u) ∙ sym (ap (sub (single x u)) (along_unbound θ x new))))
      go (no p) = along_insert_other b (replaced x u θ) v p ∙ along_replaced x u θ v p

  pub length_extended : length (extended x u θ) ≡ suc (length θ)
  unfolding extended
  length_extended = length_insert (record { variable = x; value = u }) (replaced x u θ) ∙ ap suc (length_replaced x u θ)

  pub rises_extended : Rises 0 θ → Rises 0 (extended x u θ)
  unfolding extended
  rises_extended r =
      rises_insert (record { variable = x; value = u }) 0 (replaced x u θ) (omega arith) still_new (rises_replaced x u 0 θ r)

  pub each_extended : (P Q : ℕ → Tree → Type 0) → Q x u → ((v : ℕ) (t : Tree) → P v t → Q v (sub (single x u) t)) → Each P θ
      → Each Q (extended x u θ)
  unfolding extended
  each_extended P Q q f e = each_insert (record { variable = x; value = u }) Q (replaced x u θ) q (each_replaced P Q x u θ f e)

  pub bound_extended : (v : ℕ) → Bound v (extended x u θ) → (v ≡ x) ⊎ Bound v θ
  unfolding extended
  bound_extended v i = elim (bound_insert (record { variable = x; value = u }) v (replaced x u θ) i) [
    | inl p ↦ inl p
    | inr j ↦ inr (bound_replaced x u θ v j)
  ]

  -- u has neither x nor a bound variable: then no value has
  pub settled_extended : Settled θ → ¬ (Occ x u) → ((w : ℕ) → Occ w u → ¬ (Bound w θ)) → Settled (extended x u θ)
  unfolding Settled Occ
  settled_extended s absent free =
      each_extended (λ v t. (w : ℕ) → Occ w t → ¬ (Bound w θ)) (λ v t. (w : ℕ) → Occ w t → ¬ (Bound w (extended x u θ)))
      in_u (λ v t h w o. in_value t h w (sub_occ (single x u) t w o)) s
    where
      apart : (w : ℕ) → ¬ (w ≡ x) → ¬ (Bound w θ) → ¬ (Bound w (extended x u θ))
      apart w n f i = elim (bound_extended w i) [ inl p ↦ n p | inr j ↦ f j ]

      in_u : (w : ℕ) → Occ w u → ¬ (Bound w (extended x u θ))
      in_u w o = apart w (λ p. absent (subst (λ z. Occ z u) p o)) (free w o)

      in_value : (t : Tree) → ((w : ℕ) → Occ w t → ¬ (Bound w θ)) → (w : ℕ) → (z : ℕ) × Occ z t × Occ w (single x u z)
          → ¬ (Bound w (extended x u θ))
      in_value t h w (z, oz, ow) = go (single_cases x u z)
        where
          go : ((z ≡ x) × (single x u z ≡ u)) ⊎ (¬ (z ≡ x) × (single x u z ≡ var z)) → ¬ (Bound w (extended x u θ))
          go (inl p) = in_u w (subst (λ r. Occ w r) p.1 ow)
          go (inr p) =
              let q : w ≡ z = subst (λ r. Occ w r) p.1 ow in
              subst (λ r. ¬ (Bound r (extended x u θ))) (sym q) (apart z p.0 (h z oz))
