-- The bucket of a node, word by word. Assumes nothing.
use mathlib.Core.Path.{◌≡◌, refl, sym, ap, ◌∙◌}
use mathlib.Core.List.{List}
use Prim.Native.Nat.{ℕ, ◌+◌, ◌*◌, ◌/◌, ◌%◌, ◌≤◌, ◌<◌}
use native.Mathlib.Omega.{arith}
use native.Mathlib.Numerals.{add-one}
use lib.ListN.{length, get_or, drop, drop_of_length-le}
use lib.Seq.{drop-cons}
use Rattle.terms.specs.Table.{hash_from, hash, BUCKETS}

-- what is left of the node decides
pub record Hashing (w : List ℕ) (h i : ℕ) : Type 0 where
  pub inside : i ≤ length w
  pub small : h < 4294967296
  pub left : hash w ≡ hash_from h (drop i w)

pub hashing_begins : (w : List ℕ) → Hashing w 0 0
hashing_begins w = record { inside = omega arith; small = omega arith; left = refl }

pub hashing_on : (w : List ℕ) (h i : ℕ) → Hashing w h i → i < length w → Hashing w (((h + get_or w i 0) * 2015346805) % 4294967296) (i + 1)
unfolding hash_from
hashing_on w h i c l = record { inside = omega arith; small = omega arith; left = c.left ∙ ap (hash_from h) (drop-cons w i 0 l) ∙ rw (add-one i) }

pub hashing_ends : (w : List ℕ) (h i : ℕ) → Hashing w h i → length w ≤ i → h / (4294967296 / BUCKETS) ≡ hash w
unfolding hash_from
hashing_ends w h i c l = sym (c.left ∙ ap (hash_from h) (drop_of_length-le w {i = i} l))
