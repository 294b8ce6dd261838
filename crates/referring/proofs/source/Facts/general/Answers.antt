use native.Mathlib.Omega.{arith}
use Rattle.referring.specs.Laws.Refers.{fact_asks}
use Rattle.referring.proofs.Parts.{part_lies}
use Rattle.referring.proofs.source.Facts.general.Goals as goal

pub general-requires : goal.general-requires
general-requires c = fact_asks c.requires.1.recorded c.requires.1.there

pub of-requires : goal.of-requires
of-requires c = part_lies c.requires.1 c.general.ensures (omega arith) (omega arith)
