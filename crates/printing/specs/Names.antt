-- A name as it is written. Assumes nothing.
use Rattle.std.specs.Prelude.{ℕ, List, ◌∷◌}
use Rattle.std.specs.Fmt.{decimal}
use Rattle.printing.specs.declared.names.Name.{Name}
use Rattle.printing.specs.declared.names.Name.TheVariants.{Written, Made}

-- `_` before a number
abbrev pub name_text : Name → List ℕ
name_text (Written s) = s.now
name_text (Made v) = 95 ∷ decimal v
