-- The cells for numbers of terms that are lent for a form. Assumes nothing.
use Rattle.std.specs.Prelude.{ℕ}

-- how many they are: enough for a case of an induction, and for a fact's premises
abbrev pub IDS : ℕ
IDS = 40960
