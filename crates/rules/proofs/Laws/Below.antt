-- Trees whose variables are below a number, and what an action on the made trees keeps of it: how it goes through the questions of an
-- action, then through the store, building and unification. `Keeping` cannot say it: there a variable is kept whatever its number.
-- BelowRead, BelowCases and Bounded go on to the forms. Assumes nothing.
use Prim.Native.Nat.{ℕ, zero, suc, ◌+◌, ◌≤◌, ◌<◌}
use Rattle.std.specs.Prelude.{◌≡◌, Bool, eqb, leb, ltb, length, Option, Some as some, None as nothing}
use Rattle.std.proofs.Math.Path.{refl}
use Rattle.std.proofs.Common.{sym, subst, arith, eqb-true, eq-eqb}
use Rattle.std.proofs.Math.Bool.{true, false}
use Rattle.std.proofs.lemmas.Bool.{false≢true}
use mathlib.Core.List.{List, [], ◌∷◌, ◌++◌}
use Rattle.rules.specs.Limits.{TERMS, WORDS, PAIRS}
use Rattle.rules.specs.Out.{Out, ok, refuse, then, Act, ask, room, found}
use Rattle.rules.specs.Tree.{Tree, Trees, var, app, none, more, same_tree, sub, subs, single, variables, variables_of, node, count_trees}
use Rattle.rules.specs.Store.{Made, stored, words, keep, make, makes, substitute, substitutes}
use Rattle.rules.specs.Match.{Bound, build, builds}
use Rattle.rules.specs.Unify.{Binding, along, insert, replace, Pair, Look, agree, clash, binds, parts, bind_or_clash, differ, look, push, Found, finished, clashed, bound, onward, peel, weight, outcome, solve, unify}
use Rattle.rules.specs.Laws.Theory.{All, empty, both, all_snoc, all_map}
use Rattle.rules.specs.Laws.Keeping.{Each, Still, answers, refuses}

-- Trees below a number --------------------------------------------------------------------------------------------------------------

-- every variable of the tree is below n
unfoldable mutual
  pub Below : ℕ → Tree → Type 0
  Below n (var v) = v < n
  Below n (app c ts) = Belows n ts

  pub Belows : ℕ → Trees → Type 0
  Belows n none = Unit {0}
  Belows n (more t ts) = Below n t × Belows n ts

-- every variable of every made tree is below n
abbrev pub MadeBelow : ℕ → Made → Type 0
MadeBelow n m = All (Below n) m

-- `variables` says the same
mutual
  unfolding Below variables

  pub below_variables : (n : ℕ) (t : Tree) → Below n t → (v : ℕ) → variables t v ≡ true → v < n
  below_variables n (var w) h v e = subst (λ z. z < n) (sym (eqb-true v w e)) h
  below_variables n (app c ts) h v e = belows_variables n ts h v e

  pub belows_variables : (n : ℕ) (ts : Trees) → Belows n ts → (v : ℕ) → variables_of ts v ≡ true → v < n
  belows_variables n none h v e = absurd (false≢true e)
  belows_variables n (more t ts) h v e = go (variables t v) refl e (λ q. below_variables n t h.0 v q) (λ q. belows_variables n ts h.1 v q)
    where
      go : (b : Bool) → variables t v ≡ b → elim b [ true ↦ true | false ↦ variables_of ts v ] ≡ true → (variables t v ≡ true → v < n)
          → (variables_of ts v ≡ true → v < n) → v < n
      go true q e h k = h q
      go false q e h k = k e

mutual
  unfolding Below variables

  pub variables_below : (n : ℕ) (t : Tree) → ((v : ℕ) → variables t v ≡ true → v < n) → Below n t
  variables_below n (var w) h = h w (eq-eqb w w refl)
  variables_below n (app c ts) h = variables_belows n ts h

  pub variables_belows : (n : ℕ) (ts : Trees) → ((v : ℕ) → variables_of ts v ≡ true → v < n) → Belows n ts
  variables_belows n none h = tt
  variables_belows n (more t ts) h = (
    variables_below n t (λ v e. h v (left (variables t v) (variables_of ts v) e)),
    variables_belows n ts (λ v e. h v (right (variables t v) (variables_of ts v) e)),
  )
    where
      left : (a b : Bool) → a ≡ true → elim a as (λ _. Bool) [ true ↦ true | false ↦ b ] ≡ true
      left true b e = refl
      left false b e = absurd (false≢true e)

      right : (a b : Bool) → b ≡ true → elim a as (λ _. Bool) [ true ↦ true | false ↦ b ] ≡ true
      right true b e = refl
      right false b e = e

-- also below a higher number
mutual
  unfolding Below

  pub below_up : (n k : ℕ) → n ≤ k → (t : Tree) → Below n t → Below k t
  below_up n k l (var v) h = omega arith
  below_up n k l (app c ts) h = belows_up n k l ts h

  pub belows_up : (n k : ℕ) → n ≤ k → (ts : Trees) → Belows n ts → Belows k ts
  belows_up n k l none h = tt
  belows_up n k l (more t ts) h = (below_up n k l t h.0, belows_up n k l ts h.1)

pub made_up : (n k : ℕ) → n ≤ k → (m : Made) → MadeBelow n m → MadeBelow k m
made_up n k l m h = all_map (λ t g. below_up n k l t g) h

-- under a replacement of the variables below k by trees below n
mutual
  unfolding Below sub

  pub sub_below : (n k : ℕ) (σ : ℕ → Tree) → ((v : ℕ) → v < k → Below n (σ v)) → (t : Tree) → Below k t → Below n (sub σ t)
  sub_below n k σ h (var v) g = h v g
  sub_below n k σ h (app c ts) g = subs_below n k σ h ts g

  pub subs_below : (n k : ℕ) (σ : ℕ → Tree) → ((v : ℕ) → v < k → Below n (σ v)) → (ts : Trees) → Belows k ts → Belows n (subs σ ts)
  subs_below n k σ h none g = tt
  subs_below n k σ h (more t ts) g = (sub_below n k σ h t g.0, subs_below n k σ h ts g.1)

pub single_below : (n x : ℕ) (u : Tree) → Below n u → (v : ℕ) → v < n → Below n (single x u v)
unfolding single Below
single_below n x u h v l = go (eqb v x)
  where
    go : (b : Bool) → Below n (elim b [ true ↦ u | false ↦ var v ])
    go true = h
    go false = l

-- every value is below n
abbrev pub ValuesBelow : ℕ → List Binding → Type 0
ValuesBelow n θ = All (λ b. Below n b.value) θ

pub along_below : (n : ℕ) (θ : List Binding) → ValuesBelow n θ → (v : ℕ) → v < n → Below n (along θ v)
unfolding along Below
along_below n [] h v l = l
along_below n (b ∷ θ) (both p h) v l = go (eqb v b.variable) (along_below n θ h v l)
  where
    go : (c : Bool) → Below n (along θ v) → Below n (elim c [ true ↦ b.value | false ↦ along θ v ])
    go true q = p
    go false q = q

pub insert_all : {P : Binding → Type 0} (b : Binding) (θ : List Binding) → P b → All P θ → All P (insert b θ)
unfolding insert
insert_all b [] p q = both p empty
insert_all {P = P} b (c ∷ θ) p (both h q) = go (ltb b.variable c.variable) (insert_all b θ p q)
  where
    go : (a : Bool) → All P (insert b θ) → All P (elim a [ true ↦ b ∷ c ∷ θ | false ↦ c ∷ insert b θ ])
    go true r = both p (both h q)
    go false r = both h r

pub belows_each : (n : ℕ) (ts : Trees) → Belows n ts → Each (Below n) ts
unfolding Below Each
belows_each n none h = tt
belows_each n (more t ts) h = (h.0, belows_each n ts h.1)

pub below_arguments : (n c : ℕ) (ts : Trees) → Below n (app c ts) → Each (Below n) ts
unfolding Below
below_arguments n c ts h = belows_each n ts h

-- Through the questions ---------------------------------------------------------------------------------------------------------------

-- P of what is answered and of the state then; R of the state of a refusal
pub data Leaves {S A : Type 0} (P : A → S → Type 0) (R : S → Type 0) : Out S A → Type 0 where
  fine : {a : A} {s : S} → P a s → Leaves P R (ok a s)
  off : {n d : ℕ} {s : S} → R s → Leaves P R (refuse n d s)

-- the made trees are below n, whether it answers or refuses; what it answers has the property
abbrev pub Bounds : ℕ → {A : Type 0} → (A → Type 0) → Out Made A → Type 0
Bounds n P o = Leaves (λ a u. MadeBelow n u × P a) (MadeBelow n) o

pub weaken : {S A : Type 0} {P Q : A → S → Type 0} {R Z : S → Type 0} {o : Out S A} → Leaves P R o → ((a : A) (s : S) → P a s → Q a s)
    → ((s : S) → R s → Z s) → Leaves Q Z o
weaken (fine p) f g = fine (f _ _ p)
weaken (off r) f g = off (g _ r)

module _ {S : Type 0} {R : S → Type 0} where
  pub by_then : {A B : Type 0} {P : B → S → Type 0} {Q : A → S → Type 0} (o : Out S A) (f : A → S → Out S B) → Leaves Q R o
      → ((a : A) (s : S) → Q a s → Leaves P R (f a s)) → Leaves P R (then o f)
  unfolding then
  by_then (ok a s) f (fine q) k = k a s q
  by_then (refuse n d s) f (off r) k = off r

  module _ {B : Type 0} {P : B → S → Type 0} {s : S} where
    -- an action that leaves the state as it is
    pub by_still : {A : Type 0} (o : Out S A) (f : A → S → Out S B) → R s → Still s o → ((a : A) → o ≡ ok a s → Leaves P R (f a s)) → Leaves P R (then o f)
    unfolding then
    by_still (ok a u) f r answers k = k a refl
    by_still (refuse n d u) f r refuses k = off r

    pub by_ask : (n : ℕ) (b : Bool) (f : Unit {0} → S → Out S B) → R s → (b ≡ true → Leaves P R (f tt s)) → Leaves P R (then (ask n b s) f)
    unfolding then
    by_ask n true f r k = k refl
    by_ask n false f r k = off r

    pub by_room : (n : ℕ) (b : Bool) (f : Unit {0} → S → Out S B) → R s → (b ≡ true → Leaves P R (f tt s)) → Leaves P R (then (room n b s) f)
    unfolding then
    by_room n true f r k = k refl
    by_room n false f r k = off r

    pub by_found : {A : Type 0} (n : ℕ) (o : Option A) (f : A → S → Out S B) → R s
        → ((a : A) → o ≡ some a → Leaves P R (f a s)) → Leaves P R (then (found n o s) f)
    unfolding then
    by_found n (some a) f r k = k a refl
    by_found n nothing f r k = off r

    pub by_either : (b : Bool) (f g : S → Out S B) → Leaves P R (f s) → Leaves P R (g s)
        → Leaves P R ((elim b as (λ (z : Bool). Act S B) [ true ↦ f | false ↦ g ]) s)
    by_either true f g h k = h
    by_either false f g h k = k

    pub by_given : {A : Type 0} (o : Option A) (f : A → S → Out S B) (g : S → Out S B) → ((a : A) → o ≡ some a → Leaves P R (f a s)) → Leaves P R (g s)
        → Leaves P R ((elim o as (λ (z : Option A). Act S B) [ some a ↦ f a | nothing ↦ g ]) s)
    by_given (some a) f g h k = h a refl
    by_given nothing f g h k = k

-- The store -------------------------------------------------------------------------------------------------------------------------

-- what is found has the property
pub found_bounds : {A : Type 0} {P : A → Type 0} (n k : ℕ) (o : Option A) (m : Made) → MadeBelow n m → ((a : A) → o ≡ some a → P a) → Bounds n P (found k o m)
found_bounds n k (some a) m g h = fine (g, h a refl)
found_bounds n k nothing m g h = off g

module _ (n : ℕ) where
  pub keep_below : (t : Tree) (m : Made) → MadeBelow n m → Below n t → Bounds n (Below n) (keep t m)
  unfolding keep
  keep_below t m g h = go (stored m t) (ltb (length m) TERMS) (leb (words m + node t) WORDS)
    where
      go : (a b c : Bool) → Bounds n (Below n)
          (elim a [
            | true ↦ ok t m
            | false ↦ elim b [ true ↦ elim c [ true ↦ ok t (m ++ (t ∷ [])) | false ↦ refuse 60 9 m ] | false ↦ refuse 60 8 m ]
          ])
      go true b c = fine (g, h)
      go false true true = fine (all_snoc g h, h)
      go false true false = off g
      go false false c = off g

  mutual
    unfolding make Below

    pub make_below : (t : Tree) (m : Made) → MadeBelow n m → Below n t → Bounds n (Below n) (make t m)
    make_below (var v) m g h = keep_below (var v) m g h
    make_below (app c ts) m g h = by_then _ _ (makes_below ts m g h) λ us u p. keep_below (app c ts) u p.0 h

    pub makes_below : (ts : Trees) (m : Made) → MadeBelow n m → Belows n ts → Bounds n (Belows n) (makes ts m)
    makes_below none m g h = fine (g, tt)
    makes_below (more t ts) m g h =
        by_then _ _ (make_below t m g h.0) λ a u p. by_then _ _ (makes_below ts u p.0 h.1) λ us w q. fine (q.0, h)

  -- a pattern under a replacement of its variables, which are below k
  pub instance_below : (k : ℕ) (σ : ℕ → Tree) → ((v : ℕ) → v < k → Below n (σ v)) → (t : Tree) (m : Made) → MadeBelow n m → Below k t
      → Bounds n (Below n) (substitute σ t m)
  unfolding substitute
  instance_below k σ s t m g h = make_below (sub σ t) m g (sub_below n k σ s t h)

  pub substitute_below : (σ : ℕ → Tree) → ((v : ℕ) → v < n → Below n (σ v)) → (t : Tree) (m : Made) → MadeBelow n m → Below n t
      → Bounds n (Below n) (substitute σ t m)
  substitute_below = instance_below n

  pub substitutes_below : (σ : ℕ → Tree) → ((v : ℕ) → v < n → Below n (σ v)) → (ts : Trees) (m : Made) → MadeBelow n m → Belows n ts
      → Bounds n (Belows n) (substitutes σ ts m)
  unfolding substitutes Below
  substitutes_below σ s none m g h = fine (g, tt)
  substitutes_below σ s (more t ts) m g h =
      by_then _ _ (substitute_below σ s t m g h.0) λ a u p.
      by_then _ _ (substitutes_below σ s ts u p.0 h.1) λ us w q. fine (q.0, (p.1, q.1))

  mutual
    unfolding build Below

    -- every tree that a rule's variable is bound to is below n
    pub build_below : (p : Tree) (b : Bound) (m : Made) → MadeBelow n m → ((v : ℕ) (t : Tree) → b v ≡ some t → Below n t)
        → Bounds n (Below n) (build p b m)
    build_below (var v) b m g h = found_bounds n 38 (b v) m g (h v)
    build_below (app c ps) b m g h = by_then _ _ (builds_below ps b m g h) λ ts u p. keep_below (app c ts) u p.0 p.1

    builds_below : (ps : Trees) (b : Bound) (m : Made) → MadeBelow n m → ((v : ℕ) (t : Tree) → b v ≡ some t → Below n t)
        → Bounds n (Belows n) (builds ps b m)
    builds_below none b m g h = fine (g, tt)
    builds_below (more p ps) b m g h =
        by_then _ _ (build_below p b m g h) λ t u q. by_then _ _ (builds_below ps b u q.0 h) λ ts w r. fine (r.0, (q.1, r.1))

  -- Unification ---------------------------------------------------------------------------------------------------------------------

  replace_below : (x : ℕ) (s : Tree) → Below n s → (θ : List Binding) (m : Made) → MadeBelow n m → ValuesBelow n θ
      → Bounds n (ValuesBelow n) (replace x s θ m)
  unfolding replace
  replace_below x s k [] m g h = fine (g, empty)
  replace_below x s k (b ∷ θ) m g (both p h) =
      by_then _ _ (substitute_below (single x s) (single_below n x s k) b.value m g p) λ t u q.
      by_then _ _ (replace_below x s k θ u q.0 h) λ ζ w r. fine (r.0, both q.1 r.1)

  abbrev PairsBelow : List Pair → Type 0
  PairsBelow w = All (λ p. Below n p.left × Below n p.right) w

  unfoldable Seen : Look → Type 0
  Seen agree = Unit {0}
  Seen clash = Unit {0}
  Seen (binds x t) = Below n t
  Seen (parts ts us) = Belows n ts × Belows n us

  bind_seen : (x : ℕ) (t : Tree) → Below n t → Seen (bind_or_clash x t)
  unfolding bind_or_clash Seen
  bind_seen x t h = go (variables t x)
    where
      go : (a : Bool) → Seen (elim a [ true ↦ clash | false ↦ binds x t ])
      go true = tt
      go false = h

  differ_seen : (s t : Tree) → Below n s → Below n t → Seen (differ s t)
  unfolding differ Seen Below
  differ_seen (var x) t h k = bind_seen x t k
  differ_seen (app c ts) (var y) h k = bind_seen y (app c ts) h
  differ_seen (app c ts) (app d us) h k = go (eqb c d) (eqb (count_trees ts) (count_trees us))
    where
      go : (a b : Bool) → Seen (elim a [ true ↦ elim b [ true ↦ parts ts us | false ↦ clash ] | false ↦ clash ])
      go true true = (h, k)
      go true false = tt
      go false b = tt

  look_seen : (s t : Tree) → Below n s → Below n t → Seen (look s t)
  unfolding look Seen
  look_seen s t h k = go (same_tree s t)
    where
      go : (a : Bool) → Seen (elim a [ true ↦ agree | false ↦ differ s t ])
      go true = tt
      go false = differ_seen s t h k

  push_below : (ts us : Trees) (w : List Pair) → Belows n ts → Belows n us → PairsBelow w → PairsBelow (push ts us w)
  unfolding push Below
  push_below none us w h k p = p
  push_below (more t ts) none w h k p = p
  push_below (more t ts) (more u us) w h k p = push_below ts us (record { left = t; right = u } ∷ w) h.1 k.1 (both (h.0, k.0) p)

  -- what was found to bind, and the pairs that wait
  unfoldable Binds : Found → Type 0
  Binds finished = Unit {0}
  Binds clashed = Unit {0}
  Binds (bound x t w) = Below n t × PairsBelow w

  -- the unifier, where there is one
  unfoldable pub UnifierBelow : Option (List Binding) → Type 0
  UnifierBelow (some θ) = ValuesBelow n θ
  UnifierBelow nothing = Unit {0}

  onward_below : (go : List Pair → Made → Out Made Found) (w : List Pair) (l : Look) (m : Made) → MadeBelow n m → Seen l → PairsBelow w
      → ((v : List Pair) → PairsBelow v → Bounds n Binds (go v m)) → Bounds n Binds (onward go w l m)
  unfolding onward Seen Binds
  onward_below go w agree m g s p k = k w p
  onward_below go w clash m g s p k = fine (g, tt)
  onward_below go w (binds x t) m g s p k = fine {a = bound x t w} (g, (s, p))
  onward_below go w (parts ts us) m g s p k =
      by_room 14 (leb (length w + count_trees ts) PAIRS) _ g λ e. k (push ts us w) (push_below ts us w s.0 s.1 p)

  peel_below : (k : ℕ) (θ : List Binding) (w : List Pair) (m : Made) → MadeBelow n m → ValuesBelow n θ → PairsBelow w → Bounds n Binds (peel k θ w m)
  unfolding peel Binds
  peel_below zero θ w m g h p = fine (g, tt)
  peel_below (suc k) θ [] m g h p = fine (g, tt)
  peel_below (suc k) θ (q ∷ w) m g h (both b p) =
      by_then _ _ (substitute_below (along θ) (along_below n θ h) q.left m g b.0) λ s u c.
      by_then _ _ (substitute_below (along θ) (along_below n θ h) q.right u c.0 b.1) λ t v d.
      onward_below (λ x. peel k θ x) w (look s t) v d.0 (look_seen s t c.1 d.1) p (λ x y. peel_below k θ x v d.0 h y)

  outcome_below : (go : List Binding → List Pair → Made → Out Made (Option (List Binding))) (θ : List Binding) (f : Found) (m : Made) → MadeBelow n m
      → ValuesBelow n θ → Binds f
      → ((ζ : List Binding) (w : List Pair) (u : Made) → MadeBelow n u → ValuesBelow n ζ → PairsBelow w → Bounds n UnifierBelow (go ζ w u))
      → Bounds n UnifierBelow (outcome go θ f m)
  unfolding outcome Binds UnifierBelow
  outcome_below go θ finished m g h b k = fine (g, h)
  outcome_below go θ clashed m g h b k = fine (g, tt)
  outcome_below go θ (bound x t w) m g h b k =
      by_then _ _ (replace_below x t b.0 θ m g h) λ ζ u q.
      k (insert (record { variable = x; value = t }) ζ) w u q.0 (insert_all (record { variable = x; value = t }) ζ b.0 q.1) b.1

  solve_below : (k : ℕ) (θ : List Binding) (w : List Pair) (m : Made) → MadeBelow n m → ValuesBelow n θ → PairsBelow w
      → Bounds n UnifierBelow (solve k θ w m)
  unfolding solve UnifierBelow
  solve_below zero θ w m g h p = fine (g, tt)
  solve_below (suc k) θ w m g h p =
      by_then _ _ (peel_below (suc (weight θ w)) θ w m g h p) λ f u q.
      outcome_below (λ ζ v. solve k ζ v) θ f u q.0 h q.1 (λ ζ v x y z b. solve_below k ζ v x y z b)

  -- k is the number of steps
  pub unify_below : (k : ℕ) (s t : Tree) (m : Made) → MadeBelow n m → Below n s → Below n t → Bounds n UnifierBelow (unify k s t m)
  unfolding unify
  unify_below k s t m g h p = solve_below (suc k) [] _ m g empty (both (h, p) empty)
