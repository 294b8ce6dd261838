-- Bytes: quoted text, equal names, and the two questions put to a text before it is read. Assumes nothing.
use Rattle.std.specs.Prelude.{ℕ, Bool, true, false, List, [], ◌∷◌, leb, eqb, length}
use Prim.Native.Char.{code}
use Prim.Native.String.{String, [] as []ˢ, ◌∷◌ as ◌∷ˢ◌}
use Rattle.rules.specs.Limits.{LENGTH}

-- the bytes of a quoted text, each character below 128
abbrev pub bytes : String → List ℕ
bytes []ˢ = []
bytes (c ∷ˢ s) = code c ∷ bytes s

-- names are equal when their bytes are
unfoldable pub same : List ℕ → List ℕ → Bool
same [] [] = true
same [] (y ∷ ys) = false
same (x ∷ xs) [] = false
same (x ∷ xs) (y ∷ ys) = elim (eqb x y) [ true ↦ same xs ys | false ↦ false ]

-- question 2
unfoldable pub short : List ℕ → Bool
short text = leb (length text) LENGTH

-- question 3
unfoldable pub plain : List ℕ → Bool
plain [] = true
plain (b ∷ text) = elim (leb b 127) [ true ↦ plain text | false ↦ false ]

-- `unfolding texts` opens all of the above, for a computation
unfoldable pub texts : Unit {0}
unfolding same short plain
texts = tt
