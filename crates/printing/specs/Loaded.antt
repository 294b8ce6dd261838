-- What is known of texts that were read, and of why there are none. Assumes nothing.
use Rattle.std.specs.Prelude.{◌≤◌, ⊤}
use Rattle.printing.specs.declared.load.TextFiles.{TextFiles}
use Rattle.printing.specs.declared.load.LoadError.{LoadError}
use Rattle.printing.specs.declared.load.LoadError.TheVariants.{Usage, Argument, File}

-- none is longer than a text may be, and one byte
pub record AreShort (t : TextFiles) : Type 0 where
  pub theory : t.theory.many ≤ 65537
  pub goals : t.goals.many ≤ 65537
  pub proof : t.proof.many ≤ 65537

-- an argument is blamed
abbrev pub BlamesArgument : LoadError → Type 0
BlamesArgument (Argument _) = ⊤
BlamesArgument Usage = ⊥
BlamesArgument (File _ _) = ⊥
