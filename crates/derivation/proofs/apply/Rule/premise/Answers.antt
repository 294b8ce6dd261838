use native.Mathlib.Omega.{arith}
use mathlib.Core.Path.{ap, ◌∙◌}
use mathlib.Core.List.{List}
use Prim.Native.Nat.{ℕ}
use lib.ListN.{length, get_or}
use Rattle.derivation.proofs.RulePremises.{premises_few, own_are, rests_inside, rests_asks, rests_at}
use Rattle.derivation.proofs.RuleFacts.{rule_asks}
use Rattle.derivation.proofs.apply.Rule.premise.Goals as goal

pub is_assumed-requires : goal.is_assumed-requires
is_assumed-requires c = rule_asks c.requires.0

pub offset_bounds-premises-k : goal.offset_bounds-premises-k
offset_bounds-premises-k c = omega (arith, premises_few c.requires.0, c.requires.1)

pub bounds-premises-k : goal.bounds-premises-k
bounds-premises-k c = omega (arith, ap length (own_are c.requires.0 c.is_assumed.ensures c.if-is_assumed.true c.premises.ensures), c.requires.1)

pub returns-then-is_assumed : goal.returns-then-is_assumed
returns-then-is_assumed c = ap (λ (l : List ℕ). get_or l c.args.k 0) (own_are c.requires.0 c.is_assumed.ensures c.if-is_assumed.true c.premises.ensures)

pub offset_bounds-hyps-k : goal.offset_bounds-hyps-k
offset_bounds-hyps-k c = omega (arith, premises_few c.requires.0, c.requires.1)

pub bounds-hyps-k : goal.bounds-hyps-k
bounds-hyps-k c = rests_inside c.requires.0 c.is_assumed.ensures c.if-is_assumed.false c.hyps.ensures c.requires.1

pub judgment-requires : goal.judgment-requires
judgment-requires c = rests_asks c.requires.0 c.is_assumed.ensures c.if-is_assumed.false c.hyps.ensures c.requires.1

pub returns : goal.returns
returns c = c.judgment.ensures ∙ rests_at c.requires.0 c.is_assumed.ensures c.if-is_assumed.false c.hyps.ensures c.requires.1
