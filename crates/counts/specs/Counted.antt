-- Counts as the definition has them, and that adding is its adding. Assumes nothing.
use Rattle.std.specs.Prelude.{◌≡◌, refl}
use Rattle.rules.specs.State.{Counts, no_counts}
use Rattle.rules.specs.Forms.{plus}
use Rattle.counts.specs.declared.Counts.{Counts as Counted}
use Rattle.counts.specs.Sum.{none, sum}

abbrev pub counts_of : Counted → Counts
counts_of c = record { hypotheses = c.hypotheses; inductions = c.inductions; inversions = c.inversions; instances = c.instances }

pub counts_none : counts_of none ≡ no_counts
counts_none = refl

pub counts_sum : (c d : Counted) → counts_of (sum c d) ≡ plus (counts_of c) (counts_of d)
unfolding plus
counts_sum c d = refl
