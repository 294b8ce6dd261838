use native.Mathlib.Omega.{arith}
use Rattle.referring.specs.Laws.Refers.{fact_asks}
use Rattle.referring.proofs.Parts.{part_lies}
use Rattle.referring.proofs.source.Facts.premises.Goals as goal

pub premises-requires : goal.premises-requires
premises-requires c = fact_asks c.requires.1.recorded c.requires.1.there

pub of-requires : goal.of-requires
of-requires c = part_lies c.requires.1 c.premises.ensures (omega arith) (omega arith)
