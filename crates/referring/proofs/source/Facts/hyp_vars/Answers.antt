use mathlib.Core.Path.{refl}
use native.Mathlib.Omega.{arith}
use Rattle.referring.proofs.ScopeHyps.{joining_begins, joining_ends}
use Rattle.referring.proofs.source.Facts.hyp_vars.Goals as goal

pub returns-then-count-eq0 : goal.returns-then-count-eq0
returns-then-count-eq0 c = joining_ends (joining_begins c.requires.seen) c.requires.recalls.0 c.requires.recalls.1 (omega arith)
    refl (omega (arith, c.count.ensures))
