-- Sets of numbers as words of 64 bits: what a list of words stands for. Callers of the code read it by `holds` alone. Assumes nothing.
use Rattle.std.specs.Prelude.{ℕ, suc, ◌-◌, ◌/◌, ◌%◌, ◌^◌, Bool, ◌||◌, List, get_or, eqb, Option, Some as some, None as nothing}
use Rattle.rules.specs.Find.{Set}

-- digit k of a number, lowest first
abbrev pub digit : ℕ → ℕ → Bool
digit n k = eqb (n / 2 ^ k % 2) 1

-- the set that the words stand for: v is in it by bit v % 64 of word v / 64
unfoldable pub holds : List ℕ → Set
holds s v = digit (get_or s (v / 64) 0) (v % 64)

-- one member more
abbrev pub plus : ℕ → Set → Set
plus v a w = a w || eqb w v

-- the set that one word stands for, its lowest bit at base
abbrev pub shifted : ℕ → ℕ → Set
shifted base n v = digit n (v - base)

-- a number found, counted from 1; 0 where none is found
abbrev pub counted_from_1 : Option ℕ → ℕ
counted_from_1 nothing = 0
counted_from_1 (some k) = suc k
