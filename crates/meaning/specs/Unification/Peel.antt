-- Taking pairs until one binds a variable: what `peel` answers is right, for every replacement that agrees with what is bound so far,
-- and its number of steps suffices. Assumes nothing.
use Rattle.std.specs.Prelude.{◌≡◌, refl, ◌⊎◌, ◌↔◌, leb, length}
use Rattle.std.proofs.Math.Path.{sym, ap, subst}
use Rattle.std.proofs.Common.{◌∙◌, inl, inr}
use mathlib.Core.List.{List, [], ◌∷◌}
use Prim.Native.Nat.{ℕ, zero, suc, ◌+◌, ◌≤◌, ◌<◌}
use native.Mathlib.Omega.{arith}
use Rattle.rules.specs.Limits.{PAIRS}
use Rattle.rules.specs.Out.{Out, Act}
use Rattle.rules.specs.Tree.{Tree, Trees, var, app, none, more, sub, subs, count_trees, size, sizes}
use Rattle.rules.specs.Store.{Made}
use Rattle.rules.specs.Unify.{Binding, along, Pair, Look, agree, clash, binds, parts, look, push, Found, finished, clashed, bound, onward}
use Rattle.rules.specs.Unify.{peel, weight}
use Rattle.meaning.specs.Trees.Tree.{Occ, Occs, Sig, Sorted, app_args, sub_occ, sorted_sub, size_pos}
use Rattle.meaning.specs.Unification.Acts.{Ok, done, stopped, ok_then, ok_room, substitute_ok}
use Rattle.meaning.specs.Unification.List.{Bound, Each, Settled, along_cases, settled_sub, settled_still}
use Rattle.meaning.specs.Unification.Pairs.{Unifies, Absorbs, absorbs_sub, Saw, saw, push_down, push_up, SortedPairs, push_sorted, Within}
use Rattle.meaning.specs.Unification.Pairs.{WithinPairs, push_within}

-- each value has its variable's sort
abbrev pub SortedBindings : Sig → (ℕ → ℕ) → List Binding → Type 0
SortedBindings S vs θ = Each (λ v t. Sorted S vs t (vs v)) θ

-- only variables of Own are bound, and only such occur in values
abbrev pub WithinBindings : (ℕ → Type 0) → List Binding → Type 0
WithinBindings Own θ = Each (λ v t. Own v × Within Own t) θ

-- What is left to do --------------------------------------------------------------------------------------------------------------

-- w says the same as v, of whatever absorbs θ
pub record Same (θ : List Binding) (w v : List Pair) : Type 0 where
  pub to : (γ : ℕ → Tree) → Absorbs γ (along θ) → Unifies γ w → Unifies γ v
  pub from : (γ : ℕ → Tree) → Absorbs γ (along θ) → Unifies γ v → Unifies γ w
  pub sorts : (S : Sig) (vs : ℕ → ℕ) → SortedBindings S vs θ → SortedPairs S vs w → SortedPairs S vs v

-- of w, x bound to u is left, and then v
pub record Binds (Own : ℕ → Type 0) (θ : List Binding) (w : List Pair) (x : ℕ) (u : Tree) (v : List Pair) : Type 0 where
  pub to : (γ : ℕ → Tree) → Absorbs γ (along θ) → Unifies γ w → (γ x ≡ sub γ u) × Unifies γ v
  pub from : (γ : ℕ → Tree) → Absorbs γ (along θ) → γ x ≡ sub γ u → Unifies γ v → Unifies γ w
  pub sorts : (S : Sig) (vs : ℕ → ℕ) → SortedBindings S vs θ → SortedPairs S vs w → Sorted S vs u (vs x) × SortedPairs S vs v
  pub absent : ¬ (Occ x u)
  pub unbound : ¬ (Bound x θ)
  pub free : (y : ℕ) → Occ y u → ¬ (Bound y θ)
  pub own : Own x × Within Own u
  pub rest : WithinPairs Own v

unfoldable pub Peeled : (ℕ → Type 0) → List Binding → List Pair → Found → Type 0
Peeled Own θ w finished = (γ : ℕ → Tree) → Absorbs γ (along θ) → Unifies γ w
Peeled Own θ w clashed = (γ : ℕ → Tree) → Absorbs γ (along θ) → Unifies γ w → ⊥
Peeled Own θ w (bound x u v) = Binds Own θ w x u v

-- what is right for v is right for w
peeled_same : (Own : ℕ → Type 0) (θ : List Binding) (w v : List Pair) → Same θ w v → (r : Found) → Peeled Own θ v r → Peeled Own θ w r
unfolding Peeled
peeled_same Own θ w v e finished h = λ γ a. e.from γ a (h γ a)
peeled_same Own θ w v e clashed h = λ γ a u. h γ a (e.to γ a u)
peeled_same Own θ w v e (bound x u z) h = record {
  to = λ γ a q. h.to γ a (e.to γ a q);
  from = λ γ a q b. e.from γ a (h.from γ a q b);
  sorts = λ S vs b s. h.sorts S vs b (e.sorts S vs b s);
  absent = h.absent;
  unbound = h.unbound;
  free = h.free;
  own = h.own;
  rest = h.rest;
}

ok_same : (Own : ℕ → Type 0) {θ : List Binding} {w v : List Pair} {o : Out Made Found} → Same θ w v → Ok (Peeled Own θ v) o → Ok (Peeled Own θ w) o
ok_same Own {θ} {w} {v} e (done {a} h) = done (peeled_same Own θ w v e a h)
ok_same Own e stopped = stopped

-- Trees under a settled θ -----------------------------------------------------------------------------------------------------------

pub sorts_after : (S : Sig) (vs : ℕ → ℕ) (θ : List Binding) → SortedBindings S vs θ → (v : ℕ) → Sorted S vs (along θ v) (vs v)
unfolding Sorted
sorts_after S vs θ b v = elim (along_cases (λ y t. Sorted S vs t (vs y)) θ b v) [
  | inl p ↦ p.1
  | inr p ↦ subst (λ t. Sorted S vs t (vs v)) (sym p.1) refl
]

sorted_after : (S : Sig) (vs : ℕ → ℕ) (θ : List Binding) → SortedBindings S vs θ → (t : Tree) (s : ℕ) → Sorted S vs t s
    → Sorted S vs (sub (along θ) t) s
sorted_after S vs θ b t s h = sorted_sub S vs vs (along θ) t s h (λ v o. sorts_after S vs θ b v)

module _ (Own : ℕ → Type 0) (θ : List Binding) (set : Settled θ) (own : WithinBindings Own θ) where
  pub within_after : (t : Tree) → Within Own t → Within Own (sub (along θ) t)
  unfolding Occ
  within_after t h v o = let r = sub_occ (along θ) t v o in go r.0 r.1 r.2 (along_cases (λ y u. Own y × Within Own u) θ own r.0)
    where
      go : (w : ℕ) → Occ w t → Occ v (along θ w)
          → (Bound w θ × (Own w × Within Own (along θ w))) ⊎ (¬ (Bound w θ) × (along θ w ≡ var w)) → Own v
      go w ow ov (inl p) = p.1.1 v ov
      go w ow ov (inr p) = subst Own (sym (subst (λ u. Occ v u) p.1 ov)) (h w ow)

  still_args : (t : Tree) (c : ℕ) (ts : Trees) → sub (along θ) t ≡ app c ts → subs (along θ) ts ≡ ts
  unfolding sub
  still_args t c ts e = app_args c c (subs (along θ) ts) ts (sym (ap (sub (along θ)) e) ∙ (settled_still θ set t ∙ e))

  push_weight : (ts us : Trees) (w : List Pair) → weight θ (push ts us w) ≤ sizes (subs (along θ) ts) + weight θ w
  unfolding push weight size sub
  push_weight none us w = omega arith
  push_weight (more t ts) none w = omega arith
  push_weight (more t ts) (more u us) w = let h = push_weight ts us (record { left = t; right = u } ∷ w) in omega arith

  -- a tree whose head has arguments gives pairs that weigh less than it
  pub lighter : (k : ℕ) (t : Tree) (c : ℕ) (ts us : Trees) (w : List Pair) → sub (along θ) t ≡ app c ts
      → size (sub (along θ) t) + weight θ w ≤ k → weight θ (push ts us w) < k
  unfolding size
  lighter k t c ts us w e f =
      let b = push_weight ts us w in
      let d : sizes (subs (along θ) ts) ≡ sizes ts = ap sizes (still_args t c ts e) in
      let g : size (sub (along θ) t) ≡ suc (sizes ts) = ap size e in
      omega arith

  -- One pair ------------------------------------------------------------------------------------------------------------------------

  -- what a tree is under θ says what it is under any γ that absorbs θ
  under : (γ : ℕ → Tree) → Absorbs γ (along θ) → (t u : Tree) → sub (along θ) t ≡ u → sub γ t ≡ sub γ u
  under γ a t u e = sym (absorbs_sub γ (along θ) a t) ∙ ap (sub γ) e

  -- l is p's side that is a variable x under θ, r the other, which is u there
  make_binds : (p : Pair) (w : List Pair) (x : ℕ) (u l r : Tree)
      → ((γ : ℕ → Tree) → (sub γ p.left ≡ sub γ p.right) ↔ (sub γ l ≡ sub γ r))
      → ((S : Sig) (vs : ℕ → ℕ) (s : ℕ) → Sorted S vs p.left s → Sorted S vs p.right s → Sorted S vs l s × Sorted S vs r s)
      → Within Own l → Within Own r → WithinPairs Own w
      → sub (along θ) l ≡ var x → sub (along θ) r ≡ u → ¬ (Occ x u) → Binds Own θ (p ∷ w) x u w
  unfolding Unifies SortedPairs Sorted sub Occ
  make_binds p w x u l r turn both wl wr ww el er absent = record {
    to = λ γ a q. (sym (under γ a l (var x) el) ∙ ((turn γ).0 q.0 ∙ under γ a r u er), q.1);
    from = λ γ a e q. ((turn γ).1 (under γ a l (var x) el ∙ (e ∙ sym (under γ a r u er))), q);
    sorts = λ S vs b h.
        let (s, i, j) = h.0 in
        let g = both S vs s i j in
        let x-sort : vs x ≡ s = subst (λ t. Sorted S vs t s) el (sorted_after S vs θ b l s g.0) in
        (subst (λ z. Sorted S vs u z) (sym x-sort) (subst (λ t. Sorted S vs t s) er (sorted_after S vs θ b r s g.1)), h.1);
    absent = absent;
    unbound = settled_sub θ set l x (subst (λ t. Occ x t) (sym el) refl);
    free = λ v o. settled_sub θ set r v (subst (λ t. Occ v t) (sym er) o);
    own = (within_after l wl x (subst (λ t. Occ x t) (sym el) refl), λ v o. within_after r wr v (subst (λ t. Occ v t) (sym er) o));
    rest = ww;
  }

  -- two equal trees say nothing
  same_agree : (p : Pair) (w : List Pair) → sub (along θ) p.left ≡ sub (along θ) p.right → Same θ (p ∷ w) w
  unfolding Unifies SortedPairs
  same_agree p w e = record {
    to = λ γ a q. q.1;
    from = λ γ a q. (under γ a p.left (sub (along θ) p.right) e ∙ absorbs_sub γ (along θ) a p.right, q);
    sorts = λ S vs b q. q.1;
  }

  -- two trees with one head say what their arguments say
  same_parts : (p : Pair) (w : List Pair) (c : ℕ) (ts us : Trees) → sub (along θ) p.left ≡ app c ts → sub (along θ) p.right ≡ app c us
      → count_trees ts ≡ count_trees us → Same θ (p ∷ w) (push ts us w)
  unfolding Unifies SortedPairs Sorted sub
  same_parts p w c ts us el er k = record {
    to = λ γ a q.
        let e : app c (subs γ ts) ≡ app c (subs γ us) =
        sym (under γ a p.left (app c ts) el) ∙ (q.0 ∙ under γ a p.right (app c us) er) in
        push_down γ ts us w (app_args c c (subs γ ts) (subs γ us) e) q.1;
    from = λ γ a q.
        let r = push_up γ ts us w k q in
        (under γ a p.left (app c ts) el ∙ (ap (app c) r.0 ∙ sym (under γ a p.right (app c us) er)), r.1);
    sorts = λ S vs b q.
        let (s, i, j) = q.0 in
        let l = subst (λ t. Sorted S vs t s) el (sorted_after S vs θ b p.left s i) in
        let r = subst (λ t. Sorted S vs t s) er (sorted_after S vs θ b p.right s j) in
        push_sorted S vs ts us (S.ins c) w l.2 r.2 q.1;
  }

  pub within_parts : (p : Pair) (w : List Pair) (c : ℕ) (ts us : Trees) → sub (along θ) p.left ≡ app c ts → sub (along θ) p.right ≡ app c us
      → WithinPairs Own (p ∷ w) → WithinPairs Own (push ts us w)
  unfolding WithinPairs Occ
  within_parts p w c ts us el er i =
      let l : (v : ℕ) → Occs v ts → Own v = λ v o. within_after p.left i.0 v (subst (λ t. Occ v t) (sym el) o) in
      let r : (v : ℕ) → Occs v us → Own v = λ v o. within_after p.right i.1 v (subst (λ t. Occ v t) (sym er) o) in
      push_within Own ts us w l r i.2

  onward_ok : (k : ℕ) (go : List Pair → Act Made Found)
      → ((v : List Pair) → weight θ v < k → WithinPairs Own v → (m : Made) → Ok (Peeled Own θ v) (go v m))
      → (p : Pair) (w : List Pair) → size (sub (along θ) p.left) + weight θ w ≤ k → WithinPairs Own (p ∷ w)
      → (l : Look) → Saw (sub (along θ) p.left) (sub (along θ) p.right) l → (m : Made) → Ok (Peeled Own θ (p ∷ w)) (onward go w l m)
  unfolding onward Saw Peeled WithinPairs Unifies
  onward_ok k go h p w f i agree e m =
      ok_same Own (same_agree p w e) (h w (let q = size_pos (sub (along θ) p.left) in omega arith) i.2 m)
  onward_ok k go h p w f i clash e m =
      done {a = clashed} (λ γ a q. e γ (absorbs_sub γ (along θ) a p.left ∙ (q.0 ∙ sym (absorbs_sub γ (along θ) a p.right))))
  onward_ok k go h p w f i (binds x u) (inl (el, er), n) m =
      let b = make_binds p w x u p.left p.right (λ γ. (λ z. z, λ z. z)) (λ S vs s a b. (a, b)) i.0 i.1 i.2 el er n in
      done {a = bound x u w} b
  onward_ok k go h p w f i (binds x u) (inr (er, el), n) m =
      let b = make_binds p w x u p.right p.left (λ γ. (λ z. sym z, λ z. sym z)) (λ S vs s a b. (b, a)) i.1 i.0 i.2 er el n in
      done {a = bound x u w} b
  onward_ok k go h p w f i (parts ts us) (c, el, er, a) m = ok_then (ok_room 14 (leb (length w + count_trees ts) PAIRS) m) (λ _ m' _. next m')
    where
      next : (m' : Made) → Ok (Peeled Own θ (p ∷ w)) (go (push ts us w) m')
      next m' = ok_same Own (same_parts p w c ts us el er a)
          (h (push ts us w) (lighter k p.left c ts us w el f) (within_parts p w c ts us el er i) m')

  pub peel_ok : (k : ℕ) (w : List Pair) → weight θ w < k → WithinPairs Own w → (m : Made) → Ok (Peeled Own θ w) (peel k θ w m)
  unfolding peel weight Peeled Unifies
  peel_ok zero w f i m = let z : ⊥ = omega arith in absurd z
  peel_ok (suc k) [] f i m = done {a = finished} (λ γ a. tt)
  peel_ok (suc k) (p ∷ w) f i m =
      ok_then (substitute_ok (along θ) p.left m) (λ s m' e.
      ok_then (substitute_ok (along θ) p.right m') (λ t m'' d.
      onward_ok k (λ v. peel k θ v) (λ v a b n. peel_ok k v a b n) p w (omega arith) i (look s t)
      (subst (λ z. Saw (sub (along θ) p.left) z (look s t)) d (subst (λ z. Saw z t (look s t)) e (saw s t))) m''))
