-- The store makes given trees exactly where the distinct trees among them and all their parts are few enough. Assumes nothing.
use Rattle.std.specs.Prelude.{◌+◌, ◌≤◌, ◌≡◌, refl, Bool, true, false, ◌&&◌, [], ◌∷◌, ◌++◌, leb, ltb, length}
use Rattle.std.proofs.Common.{arith, sym, ap₂, subst, length-append, ltb-true, ltb-false, leb-true, leb-false, le-leb}
use Rattle.rules.specs.Limits.{TERMS, WORDS}
use Rattle.rules.specs.Out.{Out, ok, refuse, then}
use Rattle.rules.specs.Tree.{Tree, Trees, var, app, none, more, node}
use Rattle.rules.specs.Store.{Made, stored, words, keep, make, makes}
use Rattle.rules.specs.Laws.Store.{words_more}
use Rattle.meaning.specs.Written.{once, gather, gathers, few}

-- More of them --------------------------------------------------------------------------------------------------------------------

record Small (m : Made) : Type 0 where
  terms : length m ≤ TERMS
  words : words m ≤ WORDS

record Within (m u : Made) : Type 0 where
  terms : length m ≤ length u
  words : words m ≤ words u

small_within : (m u : Made) → Within m u → Small u → Small m
small_within m u h s = record { terms = omega arith; words = omega arith }

within_then : (m u v : Made) → Within m u → Within u v → Within m v
within_then m u v h k = record { terms = omega arith; words = omega arith }

once_within : (t : Tree) (m : Made) → Within m (once t m)
unfolding once
once_within t m = go (stored m t)
  where
    go : (b : Bool) → Within m (elim b as (λ _. Made) [ true ↦ m | false ↦ m ++ (t ∷ []) ])
    go true = record { terms = omega arith; words = omega arith }
    go false = let a = length-append m (t ∷ []) in let b = words_more m t in record { terms = omega arith; words = omega arith }

mutual
  unfolding gather

  gather_within : (t : Tree) (m : Made) → Within m (gather t m)
  gather_within (var v) m = once_within (var v) m
  gather_within (app c ts) m = within_then m (gathers ts m) _ (gathers_within ts m) (once_within (app c ts) (gathers ts m))

  gathers_within : (ts : Trees) (m : Made) → Within m (gathers ts m)
  gathers_within none m = record { terms = omega arith; words = omega arith }
  gathers_within (more t ts) m = within_then m (gather t m) _ (gather_within t m) (gathers_within ts (gather t m))

-- The store -----------------------------------------------------------------------------------------------------------------------

-- the store's answer is these trees if they are few enough, and none otherwise
unfoldable Holds : {A : Type 0} → Out Made A → Made → Type 0
Holds (ok a u) m = (u ≡ m) × Small m
Holds (refuse n d u) m = Small m → ⊥

keep_holds : (t : Tree) (m : Made) → Small m → Holds (keep t m) (once t m)
unfolding keep once Holds
keep_holds t m s = go (stored m t) (ltb (length m) TERMS) (leb (words m + node t) WORDS) refl refl refl
  where
    go : (a b c : Bool) → stored m t ≡ a → ltb (length m) TERMS ≡ b → leb (words m + node t) WORDS ≡ c
        → Holds {A = Tree} (elim a as (λ _. Out Made Tree) [
          | true ↦ ok t m
          | false ↦ elim b as (λ _. Out Made Tree) [ true ↦ elim c as (λ _. Out Made Tree) [ true ↦ ok t (m ++ (t ∷ [])) | false ↦ refuse 60 9 m ] | false ↦ refuse 60 8 m ]
        ]) (elim a as (λ _. Made) [ true ↦ m | false ↦ m ++ (t ∷ []) ])
    go true b c e f g = (refl, s)
    go false true true e f g =
        let long = length-append m (t ∷ []) in let wide = words_more m t in
        let room = ltb-true (length m) TERMS f in let fits = leb-true (words m + node t) WORDS g in
        (refl, record { terms = omega arith; words = omega arith })
    go false true false e f g = λ h. let wide = words_more m t in let full = leb-false (words m + node t) WORDS g in omega arith
    go false false c e f g = λ h. let long = length-append m (t ∷ []) in let full = ltb-false (length m) TERMS f in omega arith

-- one action behind another
then_holds : {A B : Type 0} (o : Out Made A) (f : A → Made → Out Made B) (m u : Made) → Holds o m → Within m u
    → ((a : A) → Small m → Holds (f a m) u) → Holds (then o f) u
unfolding Holds then
then_holds (ok a v) f m u h w k = subst (λ z. Holds (f a z) u) (sym h.0) (k a h.1)
then_holds (refuse n d v) f m u h w k = λ s. h (small_within m u w s)

mutual
  unfolding gather make Holds

  make_holds : (t : Tree) (m : Made) → Small m → Holds (make t m) (gather t m)
  make_holds (var v) m s = keep_holds (var v) m s
  make_holds (app c ts) m s =
      then_holds (makes ts m) _ (gathers ts m) _ (makes_holds ts m s) (once_within (app c ts) (gathers ts m)) (λ _ k. keep_holds (app c ts) (gathers ts m) k)

  makes_holds : (ts : Trees) (m : Made) → Small m → Holds (makes ts m) (gathers ts m)
  makes_holds none m s = (refl, s)
  makes_holds (more t ts) m s =
      then_holds (make t m) _ (gather t m) _ (make_holds t m s) (gathers_within ts (gather t m))
      (λ _ k. then_holds (makes ts (gather t m)) _ (gathers ts (gather t m)) _ (makes_holds ts (gather t m) k)
      (record { terms = omega arith; words = omega arith }) (λ _ l. (refl, l)))

-- it answers exactly where they are few enough
unfoldable pub answers : {S A : Type 0} → Out S A → Bool
answers (ok a s) = true
answers (refuse n d s) = false

small_few : (m : Made) → Small m → few m ≡ true
unfolding few
small_few m s = ap₂ ◌&&◌ (le-leb (length m) TERMS s.terms) (le-leb (words m) WORDS s.words)

large_few : (m : Made) → (Small m → ⊥) → few m ≡ false
unfolding few
large_few m h = go (leb (length m) TERMS) (leb (words m) WORDS) refl refl
  where
    go : (a b : Bool) → leb (length m) TERMS ≡ a → leb (words m) WORDS ≡ b → (a && b) ≡ false
    go true true e f = absurd (h (record { terms = leb-true (length m) TERMS e; words = leb-true (words m) WORDS f }))
    go true false e f = refl
    go false b e f = refl

pub makes_few : (ts : Trees) → few (gathers ts []) ≡ answers (makes ts [])
unfolding words answers Holds
makes_few ts = go (makes ts []) (makes_holds ts [] (record { terms = omega arith; words = omega arith }))
  where
    go : (o : Out Made Trees) → Holds o (gathers ts []) → few (gathers ts []) ≡ answers o
    go (ok a u) h = small_few (gathers ts []) h.1
    go (refuse n d u) h = large_few (gathers ts []) h
