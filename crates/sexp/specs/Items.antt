-- What the contracts of `items` cite: a list's items in the cells of that list. Assumes nothing.
use Rattle.std.specs.Prelude.{◌≡◌, ℕ, zero, suc, ◌+◌, ◌/◌, ◌%◌, ◌<◌, List, Bool, true, false, eqb, length, get_or}
use Rattle.rules.specs.Sexp.{Sexp, Sexps, atom, list, nil, cons, count}
use Rattle.sexp.specs.Encode.{encode, encodes}
use Rattle.sexp.specs.Spelt.{Spells}
use Rattle.sexp.specs.declared.items.Item.{Item}
use Rattle.sexp.specs.declared.items.Item.TheVariants.{Atom, List as Part}

-- the cells hold these items, whose atoms stand in the text
pub record Holds (text words : List ℕ) (xs : Sexps) : Type 0 where
  pub cells : words ≡ encodes xs
  pub spelt : Spells text xs

-- the cells hold some items of the text
abbrev pub Held : List ℕ → List ℕ → Type 0
Held text words = (xs : Sexps) × Holds text words xs

-- the cells are those of some items
abbrev pub Items : List ℕ → Type 0
Items words = (xs : Sexps) × (words ≡ encodes xs)

-- the same, with an item of number k
abbrev pub Reaches : List ℕ → ℕ → Type 0
Reaches words k = (xs : Sexps) × (words ≡ encodes xs) × (k < count xs)

-- an item whose cells begin at a place: an atom by its place in the text, a list by where its items' cells begin and end
abbrev pub item_of : ℕ → Sexp → Item
item_of at (atom p bs) = Atom p
item_of at (list xs) = Part (at + 1) (at + 1 + length (encodes xs))

-- the same by the item's first cell
abbrev pub by_parity : Bool → ℕ → ℕ → Item
by_parity true at cell = Atom (cell / 2)
by_parity false at cell = Part (at + 1) (at + 1 + cell / 2)

unfoldable pub item_at : List ℕ → ℕ → Item
item_at words at = by_parity (eqb (get_or words at 0 % 2) 1) at (get_or words at 0)

-- the place behind an item whose cells begin at a place
abbrev pub behind : ℕ → Item → ℕ
behind at (Atom p) = at + 1
behind at (Part a b) = b

-- where the cells of an item begin, by its number; where there is none, the number of all cells
unfoldable pub place : Sexps → ℕ → ℕ
place nil k = 0
place (cons x xs) zero = 0
place (cons x xs) (suc k) = length (encode x) + place xs k
