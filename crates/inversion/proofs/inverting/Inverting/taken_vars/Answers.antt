use mathlib.Core.Path.{refl}
use native.Mathlib.Omega.{arith}
use Rattle.terms.specs.Laws.Seen.{seen_none}
use Rattle.inversion.proofs.InvertTaken.{taking_begins, taking_on, taking_ends}
use Rattle.inversion.proofs.inverting.Inverting.taken_vars.Goals as goal

pub visit-requires-clause-seen : goal.visit-requires-clause-seen
visit-requires-clause-seen c = seen_none _ _ _ _ _ refl

pub loop-h-init : goal.loop-h-init
loop-h-init c = taking_begins refl c.visit.ensures c.visit-2.ensures

pub loop-h-preserved : goal.loop-h-preserved
loop-h-preserved c = taking_on c.loop-h.invariant c.requires.0 c.requires.3 c.loop-h-test.true (rw c.facts-facts.ensures at c.mention.ensures)

pub returns : goal.returns
returns c = taking_ends c.loop-h.invariant (omega (arith, c.loop-h-test.false))
