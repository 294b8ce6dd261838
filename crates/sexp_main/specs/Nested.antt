-- What the next item is to those that were left. Assumes nothing.
use Rattle.std.specs.Prelude.{ℕ, ◌≤◌, ◌<◌, length, Option, Some, None}
use Rattle.sexp_main.specs.declared.items.Items.{Items}
use Rattle.sexp_main.specs.declared.items.Part.{Part}
use Rattle.sexp_main.specs.declared.items.Part.TheVariants.{Atom, List}

-- the cells of a list's items are fewer than so many
abbrev pub Inside : ℕ → Option Part → Type 0
Inside n (Some (List items)) = length items.cells.now < n
Inside n (Some (Atom bytes)) = Unit {0}
Inside n None = Unit {0}

-- a list's items have fewer cells than those that were left, and what is left now has no more
abbrev pub Nests : Items → Option Part → Items → Type 0
Nests before item after = (length after.cells.now ≤ length before.cells.now) × Inside (length before.cells.now) item
