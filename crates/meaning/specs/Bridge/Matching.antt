-- What the success of `matches` and `build` says: the bindings make the pattern the tree, every variable of the pattern is bound, and
-- nothing else is newly bound. Assumes nothing.
use Rattle.std.specs.Prelude.{ℕ, ◌≡◌, refl, ◌⊎◌, Bool, true, false, eqb, Option, Some as some, None as nothing}
use Rattle.std.proofs.Math.Decide.{ℕ_discrete}
use Rattle.std.proofs.Common.{sym, ◌∙◌, ap, ap₂, subst, inl, inr, eqb-true, eq-eqb, ne_eqb}
use Rattle.rules.specs.Tree.{Tree, Trees, var, app, none, more, same_tree, sub, subs}
use Rattle.rules.specs.Store.{Made}
use Rattle.rules.specs.Match.{Bound, bind, match_var, and_then, matches, match_all, build, builds}
use Rattle.meaning.specs.Trees.Tree.{Occ, Occs}
use Rattle.meaning.specs.Trees.Tests.{same_tree_true}
use Rattle.meaning.specs.Unification.Acts.{Ok, done, ok_then, keep_ok}
use Rattle.meaning.specs.Bridge.Asked.{no_some, ok_found, ok_map}

-- b' has all that b has
unfoldable pub Grows : Bound → Bound → Type 0
Grows b b' = (v : ℕ) (t : Tree) → b v ≡ some t → b' v ≡ some t

-- β gives what is bound
unfoldable pub Agrees : (ℕ → Tree) → Bound → Type 0
Agrees β b = (v : ℕ) (t : Tree) → b v ≡ some t → β v ≡ t

pub record Matched (p t : Tree) (b b' : Bound) : Type 0 where
  pub grows : Grows b b'
  pub equal : (β : ℕ → Tree) → Agrees β b' → sub β p ≡ t
  pub binds : (v : ℕ) → Occ v p → (u : Tree) × (b' v ≡ some u)
  pub from : (v : ℕ) (u : Tree) → b' v ≡ some u → (b v ≡ some u) ⊎ Occ v p

pub record MatchedAll (ps ts : Trees) (b b' : Bound) : Type 0 where
  pub grows : Grows b b'
  pub equal : (β : ℕ → Tree) → Agrees β b' → subs β ps ≡ ts
  pub binds : (v : ℕ) → Occs v ps → (u : Tree) × (b' v ≡ some u)
  pub from : (v : ℕ) (u : Tree) → b' v ≡ some u → (b v ≡ some u) ⊎ Occs v ps

-- what each answer says
unfoldable pub Good : Tree → Tree → Bound → Option Bound → Type 0
Good p t b nothing = Unit {0}
Good p t b (some b') = Matched p t b b'

unfoldable pub GoodAll : Trees → Trees → Bound → Option Bound → Type 0
GoodAll ps ts b nothing = Unit {0}
GoodAll ps ts b (some b') = MatchedAll ps ts b b'

-- One variable ----------------------------------------------------------------------------------------------------------------------

pub bind_cases : (b : Bound) (v : ℕ) (t : Tree) (w : ℕ) → ((w ≡ v) × (bind b v t w ≡ some t)) ⊎ (¬ (w ≡ v) × (bind b v t w ≡ b w))
unfolding bind
bind_cases b v t w = go (ℕ_discrete w v)
  where
    go : Dec (w ≡ v) → ((w ≡ v) × (bind b v t w ≡ some t)) ⊎ (¬ (w ≡ v) × (bind b v t w ≡ b w))
    go (yes p) = inl (p, rw (eq-eqb w v p, bind))
    go (no p) = inr (p, rw (ne_eqb w v p, bind))

bind_same : (b : Bound) (v : ℕ) (t : Tree) → bind b v t v ≡ some t
bind_same b v t = elim (bind_cases b v t v) [ inl p ↦ p.1 | inr p ↦ absurd (p.0 refl) ]

var_good : (v : ℕ) (t : Tree) (b : Bound) (o : Option Tree) → b v ≡ o → Good (var v) t b (match_var v t b o)
unfolding match_var Good Agrees Grows sub Occ
var_good v t b nothing q = record {
  grows = λ w u e. elim (bind_cases b v t w) [ inl p ↦ absurd (no_some (sym q ∙ (ap b (sym p.0) ∙ e))) | inr p ↦ p.1 ∙ e ];
  equal = λ β a. a v t (bind_same b v t);
  binds = λ w o. (t, subst (λ z. bind b v t z ≡ some t) (sym o) (bind_same b v t));
  from = λ w u e. elim (bind_cases b v t w) [ inl p ↦ inr p.0 | inr p ↦ inl (sym p.1 ∙ e) ];
}
var_good v t b (some u) q = go (same_tree u t) refl
  where
    go : (c : Bool) → same_tree u t ≡ c → Good (var v) t b (elim c as (λ _. Option Bound) [ true ↦ some b | false ↦ nothing ])
    go true e = record {
      grows = λ w z e'. e';
      equal = λ β a. a v u q ∙ same_tree_true u t e;
      binds = λ w o. (u, subst (λ z. b z ≡ some u) (sym o) q);
      from = λ w z e'. inl e';
    }
    go false e = tt

-- Patterns --------------------------------------------------------------------------------------------------------------------------

app_good : (c d : ℕ) (ps ts : Trees) (b : Bound) (h : Bool) → eqb c d ≡ h → (r : Option Bound) → GoodAll ps ts b r
    → Good (app c ps) (app d ts) b (elim h as (λ _. Option Bound) [ true ↦ r | false ↦ nothing ])
unfolding Good GoodAll sub Occ
app_good c d ps ts b false p r g = tt
app_good c d ps ts b true p nothing g = tt
app_good c d ps ts b true p (some b') g = record {
  grows = g.grows;
  equal = λ β a. ap₂ app (eqb-true c d p) (g.equal β a);
  binds = g.binds;
  from = g.from;
}

more_good : (p t : Tree) (ps ts : Trees) (b : Bound) (r : Option Bound) → Good p t b r → (k : Bound → Option Bound)
    → ((b' : Bound) → GoodAll ps ts b' (k b')) → GoodAll (more p ps) (more t ts) b (and_then r k)
unfolding and_then Good GoodAll Grows Agrees sub Occ
more_good p t ps ts b nothing g k h = tt
more_good p t ps ts b (some b₁) g k h = go (k b₁) (h b₁)
  where
    go : (r : Option Bound) → GoodAll ps ts b₁ r → GoodAll (more p ps) (more t ts) b r
    go nothing x = tt
    go (some b₂) x = record {
      grows = λ w u e. x.grows w u (g.grows w u e);
      equal = λ β a. ap₂ more (g.equal β (λ w u e. a w u (x.grows w u e))) (x.equal β a);
      binds = λ v o. elim o [ inl q ↦ (let r = g.binds v q in (r.0, x.grows v r.0 r.1)) | inr q ↦ x.binds v q ];
      from = λ v u e. elim (x.from v u e) [ inl q ↦ elim (g.from v u q) [ inl z ↦ inl z | inr z ↦ inr (inl z) ] | inr q ↦ inr (inr q) ];
    }

mutual
  unfolding matches GoodAll Good Grows sub Occ

  pub matches_good : (p t : Tree) (b : Bound) → Good p t b (matches p t b)
  matches_good (var v) t b = var_good v t b (b v) refl
  matches_good (app c ps) (var y) b = tt
  matches_good (app c ps) (app d ts) b = app_good c d ps ts b (eqb c d) refl (match_all ps ts b) (match_all_good ps ts b)

  pub match_all_good : (ps ts : Trees) (b : Bound) → GoodAll ps ts b (match_all ps ts b)
  match_all_good none none b = record { grows = λ w u e. e; equal = λ β a. refl; binds = λ v o. absurd o; from = λ v u e. inl e }
  match_all_good none (more t ts) b = tt
  match_all_good (more p ps) none b = tt
  match_all_good (more p ps) (more t ts) b =
      more_good p t ps ts b (matches p t b) (matches_good p t b) (λ b'. match_all ps ts b') (λ b'. match_all_good ps ts b')

pub matched : (p t : Tree) (b b' : Bound) → matches p t b ≡ some b' → Matched p t b b'
unfolding Good
matched p t b b' e = subst (λ o. Good p t b o) e (matches_good p t b)

pub matched_all : (ps ts : Trees) (b b' : Bound) → match_all ps ts b ≡ some b' → MatchedAll ps ts b b'
unfolding GoodAll
matched_all ps ts b b' e = subst (λ o. GoodAll ps ts b o) e (match_all_good ps ts b)

-- Building --------------------------------------------------------------------------------------------------------------------------

-- what is bound, as a replacement
unfoldable pub or_else : Option Tree → Tree → Tree
or_else nothing d = d
or_else (some t) d = t

unfoldable pub filled : Bound → ℕ → Tree
filled b v = or_else (b v) (var v)

pub filled_agrees : (b : Bound) → Agrees (filled b) b
unfolding Agrees filled or_else
filled_agrees b v t e = ap (λ o. or_else o (var v)) e

-- t is the pattern under the bindings, and every variable of the pattern has one
pub record Built (p : Tree) (b : Bound) (t : Tree) : Type 0 where
  pub equal : t ≡ sub (filled b) p
  pub binds : (v : ℕ) → Occ v p → (u : Tree) × (b v ≡ some u)

pub record BuiltAll (ps : Trees) (b : Bound) (ts : Trees) : Type 0 where
  pub equal : ts ≡ subs (filled b) ps
  pub binds : (v : ℕ) → Occs v ps → (u : Tree) × (b v ≡ some u)

mutual
  unfolding build sub Occ Agrees

  pub build_ok : (p : Tree) (b : Bound) (m : Made) → Ok (λ t. Built p b t) (build p b m)
  build_ok (var v) b m = ok_map (λ t e. record {
    equal = sym (filled_agrees b v t e);
    binds = λ w o. (t, subst (λ z. b z ≡ some t) (sym o) e);
  }) (ok_found 38 (b v) m)
  build_ok (app c ps) b m =
      ok_then (builds_ok ps b m) (λ ts m₁ h. ok_map (λ u e. record { equal = e ∙ ap (app c) h.equal; binds = h.binds }) (keep_ok (app c ts) m₁))

  pub builds_ok : (ps : Trees) (b : Bound) (m : Made) → Ok (λ ts. BuiltAll ps b ts) (builds ps b m)
  builds_ok none b m = done (record { equal = refl; binds = λ v o. absurd o })
  builds_ok (more p ps) b m =
      ok_then (build_ok p b m) (λ t m₁ h. ok_then (builds_ok ps b m₁) (λ ts m₂ k. done (record {
        equal = ap₂ more h.equal k.equal;
        binds = λ v o. elim o [ inl q ↦ h.binds v q | inr q ↦ k.binds v q ];
      })))
