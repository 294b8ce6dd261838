-- The made trees, the property that every action on them keeps: no tree stands twice, the arguments of a tree stand before it, rows 8 and 9
-- hold. `sound` is that property as an invariant; proofs/Laws/Made has that every state that a check reaches has it. Assumes nothing.
use Rattle.std.specs.Prelude.{ℕ, zero, suc, ◌+◌, ◌≤◌, ◌<◌, ◌≡◌, refl, Bool, true, false, ◌⊎◌, [], ◌∷◌, ◌++◌, length, Some as some}
use Rattle.std.proofs.Common.{subst, sym, ◌∙◌, ap, true≢false, inl, inr, append_assoc, append-nil, arith, length-append}
use Rattle.std.proofs.lemmas.Bool.{false≢true}
use Rattle.rules.specs.Limits.{TERMS, WORDS}
use Rattle.rules.specs.Find.{entry}
use Rattle.rules.specs.Tree.{Tree, Trees, app, same_tree}
use Rattle.rules.specs.Laws.Tree.{same_tree_lem, same_self}
use Rattle.rules.specs.Laws.Store.{words_more}
use Rattle.rules.specs.Store.{Made, stored, number, words}
use Rattle.rules.specs.Laws.Keeping.{Each, Arguments, Invariant, each_map}

-- What is kept --------------------------------------------------------------------------------------------------------------------

unfoldable pub In : Tree → Made → Type 0
In t [] = ⊥
In t (u ∷ m) = (t ≡ u) ⊎ In t m

-- no tree twice
unfoldable pub Distinct : Made → Type 0
Distinct [] = Unit {0}
Distinct (t ∷ m) = ¬ (In t m) × Distinct m

-- behind the trees b: every tree's arguments stand before it
unfoldable pub ClosedBehind : Made → Made → Type 0
ClosedBehind b [] = Unit {0}
ClosedBehind b (t ∷ m) = Arguments (λ u. In u b) t × ClosedBehind (b ++ (t ∷ [])) m

abbrev pub Closed : Made → Type 0
Closed m = ClosedBehind [] m

pub record Sound (m : Made) : Type 0 where
  pub distinct : Distinct m
  pub closed : Closed m
  pub row8 : length m ≤ TERMS
  pub row9 : words m ≤ WORDS

-- Membership ------------------------------------------------------------------------------------------------------------------------

pub stored_in : (m : Made) (t : Tree) → stored m t ≡ true → In t m
unfolding stored In
stored_in [] t e = absurd (false≢true e)
stored_in (u ∷ m) t e = go (same_tree u t) refl e (stored_in m t)
  where
    go : (b : Bool) → same_tree u t ≡ b → elim b [ true ↦ true | false ↦ stored m t ] ≡ true → (stored m t ≡ true → In t m) → (t ≡ u) ⊎ In t m
    go true q e k = inl (sym (same_tree_lem u t q))
    go false q e k = inr (k e)

pub in_stored : (m : Made) (t : Tree) → In t m → stored m t ≡ true
unfolding stored In
in_stored [] t i = absurd i
in_stored (u ∷ m) t (inl e) = rw (e, stored, same_self u)
in_stored (u ∷ m) t (inr i) = go (same_tree u t) (in_stored m t i)
  where
    go : (b : Bool) → stored m t ≡ true → elim b [ true ↦ true | false ↦ stored m t ] ≡ true
    go true e = refl
    go false e = e

pub in_front : (m n : Made) (t : Tree) → In t m → In t (m ++ n)
unfolding In
in_front [] n t i = absurd i
in_front (u ∷ m) n t (inl e) = inl e
in_front (u ∷ m) n t (inr i) = inr (in_front m n t i)

pub in_last : (m : Made) (t : Tree) → In t (m ++ (t ∷ []))
unfolding In
in_last [] t = inl refl
in_last (u ∷ m) t = inr (in_last m t)

in_snoc : (m : Made) (u t : Tree) → In t (m ++ (u ∷ [])) → In t m ⊎ (t ≡ u)
unfolding In
in_snoc [] u t (inl e) = inr e
in_snoc [] u t (inr i) = absurd i
in_snoc (v ∷ m) u t (inl e) = inl (inl e)
in_snoc (v ∷ m) u t (inr i) = elim (in_snoc m u t i) [ inl j ↦ inl (inr j) | inr e ↦ inr e ]

entry_in : (m : Made) (i : ℕ) (t : Tree) → entry m i ≡ some t → In t m
unfolding entry In
entry_in [] i t e = absurd (let z : ◌≡◌ {A = ℕ} 0 1 = cc in omega arith)
entry_in (u ∷ m) zero t e = inl cc
entry_in (u ∷ m) (suc i) t e = inr (entry_in m i t e)

-- One tree more -----------------------------------------------------------------------------------------------------------------------

pub distinct_snoc : (m : Made) (t : Tree) → Distinct m → ¬ (In t m) → Distinct (m ++ (t ∷ []))
unfolding Distinct In
distinct_snoc [] t d n = (λ i. i, tt)
distinct_snoc (u ∷ m) t d n =
    (λ i. elim (in_snoc m t u i) [ inl j ↦ d.0 j | inr e ↦ n (inl (sym e)) ], distinct_snoc m t d.1 (λ i. n (inr i)))

pub closed_snoc : (b m : Made) (t : Tree) → ClosedBehind b m → Arguments (λ u. In u (b ++ m)) t → ClosedBehind b (m ++ (t ∷ []))
unfolding ClosedBehind
closed_snoc b [] t c a = (subst (λ l. Arguments (λ u. In u l) t) (append-nil b) a, tt)
closed_snoc b (u ∷ m) t c a = (c.0, closed_snoc (b ++ (u ∷ [])) m t c.1 (subst (λ l. Arguments (λ u. In u l) t) (sym (append_assoc b (u ∷ []) m)) a))

arguments_each : (P : Tree → Type 0) (c : ℕ) (ts : Trees) → Arguments P (app c ts) → Each P ts
unfolding Arguments
arguments_each P c ts a = a

pub closed_below : (b m : Made) (c : ℕ) (ts : Trees) → ClosedBehind b m → In (app c ts) m → Each (λ u. In u (b ++ m)) ts
unfolding ClosedBehind In
closed_below b [] c ts k i = absurd i
closed_below b (t ∷ m) c ts k (inl e) =
    each_map (λ u. In u b) (λ u. In u (b ++ (t ∷ m))) (λ u i. in_front b (t ∷ m) u i) ts
    (arguments_each (λ u. In u b) c ts (subst (Arguments (λ u. In u b)) (sym e) k.0))
closed_below b (t ∷ m) c ts k (inr i) = subst (λ l. Each (λ u. In u l) ts) (append_assoc b (t ∷ []) m) (closed_below (b ++ (t ∷ [])) m c ts k.1 i)

pub not_stored : (m : Made) (t : Tree) → stored m t ≡ false → ¬ (In t m)
not_stored m t e i = true≢false (sym (in_stored m t i) ∙ e)

unfoldable pub sound : Invariant
sound = record {
  Good = Sound;
  Has = λ m t. In t m;
  there = stored_in;
  added = λ m t g a e l w. record {
    distinct = distinct_snoc m t g.distinct (not_stored m t e);
    closed = closed_snoc [] m t g.closed a;
    row8 = omega (arith, length-append m (t ∷ []));
    row9 = omega (arith, words_more m t);
  };
  last = in_last;
  longer = in_front;
  below = λ m c ts g i. closed_below [] m c ts g.closed i;
}

-- By number --------------------------------------------------------------------------------------------------------------------------

-- a tree that is there has a number below the number of trees
pub in_number : (m : Made) (t : Tree) → In t m → number m t < length m
unfolding In number
in_number [] t i = absurd i
in_number (u ∷ m) t (inl e) = rw (e, number, same_self u) (omega arith)
in_number (u ∷ m) t (inr i) = go (same_tree u t) (in_number m t i)
  where
    go : (b : Bool) → number m t < length m → elim b [ true ↦ 0 | false ↦ suc (number m t) ] < suc (length m)
    go true l = omega arith
    go false l = omega arith

-- further trees behind do not change it
number_front : (m n : Made) (t : Tree) → In t m → number (m ++ n) t ≡ number m t
unfolding In number
number_front [] n t i = absurd i
number_front (u ∷ m) n t (inl e) = rw (e, number, same_self u)
number_front (u ∷ m) n t (inr i) = ap (λ k. elim (same_tree u t) [ true ↦ 0 | false ↦ suc k ]) (number_front m n t i)

-- two places that hold the same tree are one
pub distinct_apart : (m : Made) → Distinct m → (i j : ℕ) (t : Tree) → entry m i ≡ some t → entry m j ≡ some t → i ≡ j
unfolding Distinct entry
distinct_apart [] d i j t e f = absurd (let z : ◌≡◌ {A = ℕ} 0 1 = cc in omega arith)
distinct_apart (u ∷ m) d zero zero t e f = refl
distinct_apart (u ∷ m) d zero (suc j) t e f = let q : t ≡ u = cc in absurd (d.0 (entry_in m j u (subst (λ x. entry m j ≡ some x) q f)))
distinct_apart (u ∷ m) d (suc i) zero t e f = let q : t ≡ u = cc in absurd (d.0 (entry_in m i u (subst (λ x. entry m i ≡ some x) q e)))
distinct_apart (u ∷ m) d (suc i) (suc j) t e f = ap suc (distinct_apart m d.1 i j t e f)

-- so a tree's number is its place
pub place_number : (m : Made) → Distinct m → (i : ℕ) (t : Tree) → entry m i ≡ some t → number m t ≡ i
unfolding Distinct entry number
place_number [] d i t e = absurd (let z : ◌≡◌ {A = ℕ} 0 1 = cc in omega arith)
place_number (u ∷ m) d zero t e = let q : t ≡ u = cc in rw (q, number, same_self u)
place_number (u ∷ m) d (suc i) t e = go (same_tree u t) refl (place_number m d.1 i t e)
  where
    go : (b : Bool) → same_tree u t ≡ b → number m t ≡ i → elim b [ true ↦ 0 | false ↦ suc (number m t) ] ≡ suc i
    go true s h = absurd (d.0 (entry_in m i u (subst (λ x. entry m i ≡ some x) (sym (same_tree_lem u t s)) e)))
    go false s h = ap suc h

-- and its arguments have lower numbers
before_number : (b m : Made) (i c : ℕ) (ts : Trees) → ClosedBehind b m → entry m i ≡ some (app c ts) → Each (λ u. number (b ++ m) u < length b + i) ts
unfolding ClosedBehind entry
before_number b [] i c ts k e = absurd (let z : ◌≡◌ {A = ℕ} 0 1 = cc in omega arith)
before_number b (t ∷ m) zero c ts k e =
    let q : t ≡ app c ts = cc in
    each_map (λ u. In u b) (λ u. number (b ++ (t ∷ m)) u < length b + 0) (λ u i. omega (arith, in_number b u i, number_front b (t ∷ m) u i)) ts
    (arguments_each (λ u. In u b) c ts (subst (Arguments (λ u. In u b)) q k.0))
before_number b (t ∷ m) (suc i) c ts k e =
    each_map (λ u. number ((b ++ (t ∷ [])) ++ m) u < length (b ++ (t ∷ [])) + i) (λ u. number (b ++ (t ∷ m)) u < length b + suc i)
    (λ u l. let q : number ((b ++ (t ∷ [])) ++ m) u ≡ number (b ++ (t ∷ m)) u = ap (λ x. number x u) (append_assoc b (t ∷ []) m) in
    omega (arith, length-append b (t ∷ []))) ts
    (before_number (b ++ (t ∷ [])) m i c ts k.1 e)

pub arguments_before : (m : Made) → Closed m → (i c : ℕ) (ts : Trees) → entry m i ≡ some (app c ts) → Each (λ u. number m u < i) ts
arguments_before m k i c ts e = each_map (λ u. number m u < 0 + i) (λ u. number m u < i) (λ u l. omega arith) ts (before_number [] m i c ts k e)
