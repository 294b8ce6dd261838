-- Counts that are added field by field, and that the sums fit in a word. Assumes nothing.
use Rattle.std.specs.Prelude.{◌≡◌, refl, ◌<◌, ◌+◌, ◌^◌}
use Rattle.counts.specs.declared.Counts.{Counts}
use Rattle.counts.specs.declared.TheConstants.Counts.{NONE}

abbrev pub none : Counts
none = record { hypotheses = 0; inductions = 0; inversions = 0; instances = 0 }

pub none_is : NONE ≡ none
none_is = refl

abbrev pub sum : Counts → Counts → Counts
sum c d = record {
  hypotheses = c.hypotheses + d.hypotheses;
  inductions = c.inductions + d.inductions;
  inversions = c.inversions + d.inversions;
  instances = c.instances + d.instances;
}

abbrev pub Fits : Counts → Counts → Type 0
Fits c d =
    (c.hypotheses + d.hypotheses < 2 ^ 64)
    × ((c.inductions + d.inductions < 2 ^ 64) × ((c.inversions + d.inversions < 2 ^ 64) × (c.instances + d.instances < 2 ^ 64)))
