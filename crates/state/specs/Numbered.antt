-- The numbers of made trees: each is below the number of trees and names its tree, and stays when trees are made behind. Assumes nothing.
use Rattle.std.specs.Prelude.{◌≡◌, ℕ, suc, ◌<◌, true, false, List, [], ◌∷◌, ◌++◌, length, get_or}
use Rattle.std.proofs.Math.Path.{refl}
use Rattle.std.proofs.Common.{sym, ap, ◌∙◌, subst, inl, inr}
use Rattle.rules.specs.Tree.{Tree, Trees, var, none, more, same_tree, count_trees}
use Rattle.rules.specs.Store.{Made, number}
use Rattle.rules.specs.StateTables.{numbers}
use Rattle.rules.specs.Laws.Theory.{All, empty, both}
use Rattle.rules.specs.Laws.Tree.{same_self}
use Rattle.rules.specs.Laws.Store.{number_is}
use Rattle.rules.specs.Laws.Keeping.{Each, Grows}
use Rattle.rules.specs.Laws.Sound.{In, sound, in_number}
use Rattle.terms.specs.Table.{args_of}

-- a term by its number: it is below, and the tree is there
pub record Numbered (M : Made) (t : Tree) (n : ℕ) : Type 0 where
  pub is : n ≡ number M t
  pub below : n < length M
  pub tree : get_or M n (var 0) ≡ t

-- terms by their numbers
pub record AllNumbered (M : Made) (ts : Trees) (ns : List ℕ) : Type 0 where
  pub is : ns ≡ numbers M ts
  pub below : All (λ n. n < length M) ns
  pub trees : args_of M ns ≡ ts
  pub many : length ns ≡ count_trees ts

pub in_numbered : {M : Made} {t : Tree} → In t M → Numbered M t (number M t)
in_numbered {M} {t} i = record { is = refl; below = in_number M t i; tree = number_is M t (in_number M t i) }

pub numbered_at : {M : Made} {t : Tree} (n : ℕ) → In t M → n ≡ number M t → Numbered M t n
numbered_at {M} {t} n i e = subst (Numbered M t) (sym e) (in_numbered i)

-- what `sound` says of a tree
pub sound_in : (M : Made) (t : Tree) → sound.Has M t → In t M
unfolding sound
sound_in M t i = i

pub in_sound : (M : Made) (t : Tree) → In t M → sound.Has M t
unfolding sound
in_sound M t i = i

pub length_numbers : (M : Made) (ts : Trees) → length (numbers M ts) ≡ count_trees ts
unfolding numbers count_trees
length_numbers M none = refl
length_numbers M (more t ts) = ap suc (length_numbers M ts)

numbers_below : (M : Made) (ts : Trees) → Each (sound.Has M) ts → All (λ n. n < length M) (numbers M ts)
unfolding numbers Each sound
numbers_below M none h = empty
numbers_below M (more t ts) h = both (in_number M t h.0) (numbers_below M ts h.1)

numbers_trees : (M : Made) (ts : Trees) → Each (sound.Has M) ts → args_of M (numbers M ts) ≡ ts
unfolding numbers Each sound args_of
numbers_trees M none h = refl
numbers_trees M (more t ts) h = λ i. more (number_is M t (in_number M t h.0) i) (numbers_trees M ts h.1 i)

pub each_numbered : {M : Made} (ts : Trees) → Each (sound.Has M) ts → AllNumbered M ts (numbers M ts)
each_numbered {M} ts h = record { is = refl; below = numbers_below M ts h; trees = numbers_trees M ts h; many = length_numbers M ts }

-- Growth -----------------------------------------------------------------------------------------------------------------------------

-- a private law of `rules` too, which stays as it is
number_ahead : (m n : Made) (t : Tree) → In t m → number (m ++ n) t ≡ number m t
unfolding In number
number_ahead [] n t i = absurd i
number_ahead (u ∷ m) n t (inl e) = rw (e, number, same_self u)
number_ahead (u ∷ m) n t (inr i) = ap (λ k. elim (same_tree u t) [ true ↦ 0 | false ↦ suc k ]) (number_ahead m n t i)

module _ {M U : Made} (g : Grows sound M U) where
  pub number_on : (t : Tree) → In t M → number U t ≡ number M t
  number_on t i = ap (λ w. number w t) g.is ∙ number_ahead M g.new t i

  pub numbers_on : (ts : Trees) → Each (sound.Has M) ts → numbers U ts ≡ numbers M ts
  unfolding numbers Each
  numbers_on none h = refl
  numbers_on (more t ts) h = λ i. number_on t (sound_in M t h.0) i ∷ numbers_on ts h.1 i
