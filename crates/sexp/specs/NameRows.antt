-- What the look-up of a name cites: rows of a table that hold names of a text. Assumes nothing.
use Rattle.std.specs.Prelude.{◌≡◌, ℕ, ◌+◌, ◌*◌, ◌<◌, ◌≤◌, List, length, get_or, take, drop}
use Rattle.rules.specs.Sexp.{Name}
use Rattle.rules.specs.Theory.{no_name}

-- the name's bytes stand in the text where it says
pub record NameIn (text : List ℕ) (n : Name) : Type 0 where
  pub inside : n.start + length n.bytes ≤ length text
  pub spelt : take (length n.bytes) (drop n.start text) ≡ n.bytes

-- of a row that begins at a place: two cells inside the table hold the name
pub record NameAt (text table : List ℕ) (at : ℕ) (n : Name) : Type 0 where
  pub inside : at + 1 < length table
  pub start : get_or table at 0 ≡ n.start
  pub end : get_or table (at + 1) 0 ≡ n.start + length n.bytes
  pub name : NameIn text n

-- the first rows, of w cells each, hold these names from cell o on
pub record NameRows (text table : List ℕ) (w o count : ℕ) (ns : List Name) : Type 0 where
  pub many : length ns ≡ count
  pub row : (k : ℕ) → k < length ns → NameAt text table (w * k + o) (get_or ns k no_name)

abbrev pub SomeNames : List ℕ → List ℕ → ℕ → ℕ → ℕ → Type 0
SomeNames text table w o count = (ns : List Name) × NameRows text table w o count ns
