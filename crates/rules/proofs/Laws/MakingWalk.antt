-- The walk of Keeping through the store, building and unification: whatever is kept by storing one new tree whose arguments are there is
-- kept by all of these, and what they answer is stored. Assumes nothing.
use Prim.Native.Nat.{ℕ, zero, suc, ◌+◌}
use Rattle.std.specs.Prelude.{◌≡◌, Bool, eqb, length, Option, Some as some, None as nothing}
use Rattle.std.proofs.Math.Path.{refl}
use Rattle.std.proofs.Math.Bool.{true, false}
use mathlib.Core.List.{List, [], ◌∷◌, ◌++◌}
use Rattle.std.proofs.Common.{ltb-true, leb-true}
use Rattle.std.proofs.Math.Dec.{leb, ltb}
use Rattle.rules.specs.Limits.{TERMS, WORDS, PAIRS}
use Rattle.rules.specs.Out.{Out, ok, refuse, found}
use Rattle.rules.specs.Tree.{Tree, Trees, var, app, none, more, same_tree, sub, single, variables, node, count_trees}
use Rattle.rules.specs.Store.{Made, stored, words, keep, make, makes, substitute, substitutes}
use Rattle.rules.specs.Match.{Bound, build, builds}
use Rattle.rules.specs.Unify.{Binding, along, insert, replace, Pair, Look, agree, clash, binds, parts, bind_or_clash, differ, look, push, Found, finished, clashed, bound, onward, peel, weight, outcome, solve, unify}
use Rattle.rules.specs.Laws.Theory.{empty, both, all_map}
use Rattle.rules.specs.Laws.Keeping.{Each, Arguments, Invariant, Grows, Keeps, fine, off, stays, has_on, weaken, by_then, by_room}
use Rattle.rules.specs.Laws.Ready.{Known, Knowns, Values}

module _ (K : Invariant) where
  pub insert_values : (b : Binding) (θ : List Binding) (m : Made) → K.Has m b.value → Values K θ m → Values K (insert b θ) m
  unfolding insert
  insert_values b [] m p q = both p empty
  insert_values b (c ∷ θ) m p (both h q) = go (ltb b.variable c.variable) (insert_values b θ m p q)
    where
      go : (a : Bool) → Values K (insert b θ) m → Values K (elim a [ true ↦ b ∷ c ∷ θ | false ↦ c ∷ insert b θ ]) m
      go true r = both p (both h q)
      go false r = both h r

  unfoldable Seen : Made → Look → Type 0
  Seen m agree = Unit {0}
  Seen m clash = Unit {0}
  Seen m (binds x t) = K.Has m t
  Seen m (parts ts us) = Unit {0}

  bind_seen : (x : ℕ) (t : Tree) (m : Made) → K.Has m t → Seen m (bind_or_clash x t)
  unfolding bind_or_clash Seen
  bind_seen x t m h = go (variables t x)
    where
      go : (a : Bool) → Seen m (elim a [ true ↦ clash | false ↦ binds x t ])
      go true = tt
      go false = h

  differ_seen : (s t : Tree) (m : Made) → K.Has m s → K.Has m t → Seen m (differ s t)
  unfolding differ Seen
  differ_seen (var x) t m h k = bind_seen x t m k
  differ_seen (app c ts) (var y) m h k = bind_seen y (app c ts) m h
  differ_seen (app c ts) (app d us) m h k = go (eqb c d) (eqb (count_trees ts) (count_trees us))
    where
      go : (a b : Bool) → Seen m (elim a [ true ↦ elim b [ true ↦ parts ts us | false ↦ clash ] | false ↦ clash ])
      go true true = tt
      go true false = tt
      go false b = tt

  look_seen : (s t : Tree) (m : Made) → K.Has m s → K.Has m t → Seen m (look s t)
  unfolding look Seen
  look_seen s t m h k = go (same_tree s t)
    where
      go : (a : Bool) → Seen m (elim a [ true ↦ agree | false ↦ differ s t ])
      go true = tt
      go false = differ_seen s t m h k

  unfoldable Binds : Found → Made → Type 0
  Binds finished m = Unit {0}
  Binds clashed m = Unit {0}
  Binds (bound x t w) m = K.Has m t

  -- the unifier, where there is one
  unfoldable pub Unifier : Option (List Binding) → Made → Type 0
  Unifier (some θ) u = Values K θ u
  Unifier nothing u = Unit {0}

module _ {K : Invariant} where
  -- Storing --------------------------------------------------------------------------------------------------------------------

  pub keep_this : (t : Tree) (m : Made) → K.Good m → Arguments (K.Has m) t → Keeps K m (λ a u. K.Has u t × K.Has u a) (keep t m)
  unfolding keep
  keep_this t m g h = go (stored m t) refl (ltb (length m) TERMS) refl (leb (words m + node t) WORDS) refl
    where
      go : (a : Bool) → stored m t ≡ a → (b : Bool) → ltb (length m) TERMS ≡ b → (c : Bool) → leb (words m + node t) WORDS ≡ c →
          Keeps K m (λ a u. K.Has u t × K.Has u a)
          (elim a [
            | true ↦ ok t m
            | false ↦ elim b [ true ↦ elim c [ true ↦ ok t (m ++ (t ∷ [])) | false ↦ refuse 60 9 m ] | false ↦ refuse 60 8 m ]
          ])
      go true e b f c k = fine (stays g) (K.there m t e, K.there m t e)
      go false e true f true k =
          fine (record { new = t ∷ []; is = refl; good = K.added m t g h e (ltb-true _ TERMS f) (leb-true _ WORDS k) }) (K.last m t, K.last m t)
      go false e true f false k = off (stays g)
      go false e false f c k = off (stays g)

  pub keep_keeps : (t : Tree) (m : Made) → K.Good m → Arguments (K.Has m) t → Keeps K m (Known K) (keep t m)
  keep_keeps t m g h = weaken (keep_this t m g h) (λ a u p. p.1)

  mutual
    unfolding make Arguments Each

    make_this : (t : Tree) (m : Made) → K.Good m → Keeps K m (λ a u. K.Has u t × K.Has u a) (make t m)
    make_this (var v) m g = keep_this (var v) m g tt
    make_this (app c ts) m g = by_then _ _ (makes_these ts m g) λ us u h p. keep_this (app c ts) u h.good p

    makes_these : (ts : Trees) (m : Made) → K.Good m → Keeps K m (λ a u. Each (K.Has u) ts) (makes ts m)
    makes_these none m g = fine (stays g) tt
    makes_these (more t ts) m g =
        by_then _ _ (make_this t m g) λ a u h p. by_then _ _ (makes_these ts u h.good) λ us w k q. fine (stays k.good) (has_on k p.0, q)

  pub make_keeps : (t : Tree) (m : Made) → K.Good m → Keeps K m (Known K) (make t m)
  make_keeps t m g = weaken (make_this t m g) (λ a u p. p.1)

  pub substitute_keeps : (σ : ℕ → Tree) (t : Tree) (m : Made) → K.Good m → Keeps K m (Known K) (substitute σ t m)
  unfolding substitute
  substitute_keeps σ t m g = make_keeps (sub σ t) m g

  pub substitutes_keeps : (σ : ℕ → Tree) (ts : Trees) (m : Made) → K.Good m → Keeps K m (Knowns K) (substitutes σ ts m)
  unfolding substitutes Each
  substitutes_keeps σ none m g = fine (stays g) tt
  substitutes_keeps σ (more t ts) m g =
      by_then _ _ (substitute_keeps σ t m g) λ a u h p.
      by_then _ _ (substitutes_keeps σ ts u h.good) λ us w k q. fine (stays k.good) (has_on k p, q)

  -- Building --------------------------------------------------------------------------------------------------------------------

  pub found_keeps : (o : Option Tree) (n : ℕ) (m : Made) → K.Good m → ((t : Tree) → o ≡ some t → K.Has m t) → Keeps K m (Known K) (found n o m)
  found_keeps (some t) n m g h = fine (stays g) (h t refl)
  found_keeps nothing n m g h = off (stays g)

  mutual
    unfolding build Each Arguments

    pub build_keeps : (p : Tree) (b : Bound) (m : Made) → K.Good m → ((v : ℕ) (t : Tree) → b v ≡ some t → K.Has m t) → Keeps K m (Known K) (build p b m)
    build_keeps (var v) b m g h = found_keeps (b v) 38 m g (λ t e. h v t e)
    build_keeps (app c ps) b m g h = by_then _ _ (builds_keeps ps b m g h) λ ts u k p. keep_keeps (app c ts) u k.good p

    pub builds_keeps : (ps : Trees) (b : Bound) (m : Made) → K.Good m → ((v : ℕ) (t : Tree) → b v ≡ some t → K.Has m t) →
        Keeps K m (Knowns K) (builds ps b m)
    builds_keeps none b m g h = fine (stays g) tt
    builds_keeps (more p ps) b m g h =
        by_then _ _ (build_keeps p b m g h) λ a u k q.
        by_then _ _ (builds_keeps ps b u k.good (λ v t e. has_on k (h v t e))) λ us w l r. fine (stays l.good) (has_on l q, r)

  -- Unification -----------------------------------------------------------------------------------------------------------------

  pub values_on : {m u : Made} {θ : List Binding} → Grows K m u → Values K θ m → Values K θ u
  values_on g h = all_map (λ b k. has_on g k) h

  replace_keeps : (x : ℕ) (s : Tree) (θ : List Binding) (m : Made) → K.Good m → Keeps K m (Values K) (replace x s θ m)
  unfolding replace
  replace_keeps x s [] m g = fine (stays g) empty
  replace_keeps x s (b ∷ θ) m g =
      by_then _ _ (substitute_keeps (single x s) b.value m g) λ t u h p.
      by_then _ _ (replace_keeps x s θ u h.good) λ ζ w k q. fine (stays k.good) (both (has_on k p) q)

  onward_keeps : (go : List Pair → Made → Out Made Found) (w : List Pair) (l : Look) (m : Made) → K.Good m → Seen K m l →
      ((v : List Pair) → Keeps K m (Binds K) (go v m)) → Keeps K m (Binds K) (onward go w l m)
  unfolding onward Seen Binds
  onward_keeps go w agree m g s k = k w
  onward_keeps go w clash m g s k = fine (stays g) tt
  onward_keeps go w (binds x t) m g s k = fine (stays g) s
  onward_keeps go w (parts ts us) m g s k = by_room 14 (leb (length w + count_trees ts) PAIRS) _ g λ e. k (push ts us w)

  peel_keeps : (n : ℕ) (θ : List Binding) (w : List Pair) (m : Made) → K.Good m → Keeps K m (Binds K) (peel n θ w m)
  unfolding peel Binds
  peel_keeps zero θ w m g = fine (stays g) tt
  peel_keeps (suc n) θ [] m g = fine (stays g) tt
  peel_keeps (suc n) θ (p ∷ w) m g =
      by_then _ _ (substitute_keeps (along θ) p.left m g) λ s u h a.
      by_then _ _ (substitute_keeps (along θ) p.right u h.good) λ t v k b.
      onward_keeps (λ v. peel n θ v) w (look s t) v k.good (look_seen K s t v (has_on k a) b) (λ x. peel_keeps n θ x v k.good)

  outcome_keeps : (go : List Binding → List Pair → Made → Out Made (Option (List Binding))) (θ : List Binding) (f : Found) (m : Made) → K.Good m →
      Values K θ m → Binds K f m → ((ζ : List Binding) (w : List Pair) (u : Made) → K.Good u → Values K ζ u → Keeps K u (Unifier K) (go ζ w u)) →
      Keeps K m (Unifier K) (outcome go θ f m)
  unfolding outcome Binds Unifier
  outcome_keeps go θ finished m g h s k = fine (stays g) h
  outcome_keeps go θ clashed m g h s k = fine (stays g) tt
  outcome_keeps go θ (bound x t w) m g h s k =
      by_then _ _ (replace_keeps x t θ m g) λ ζ u l q.
      k (insert (record { variable = x; value = t }) ζ) w u l.good (insert_values K _ ζ u (has_on l s) q)

  solve_keeps : (n : ℕ) (θ : List Binding) (w : List Pair) (m : Made) → K.Good m → Values K θ m → Keeps K m (Unifier K) (solve n θ w m)
  unfolding solve Unifier
  solve_keeps zero θ w m g h = fine (stays g) tt
  solve_keeps (suc n) θ w m g h =
      by_then _ _ (peel_keeps (suc (weight θ w)) θ w m g) λ f u l p.
      outcome_keeps (λ ζ v. solve n ζ v) θ f u l.good (values_on l h) p (λ ζ v x y z. solve_keeps n ζ v x y z)

  pub unify_keeps : (n : ℕ) (s t : Tree) (m : Made) → K.Good m → Keeps K m (Unifier K) (unify n s t m)
  unfolding unify
  unify_keeps n s t m g = solve_keeps (suc n) [] _ m g empty
