use mathlib.Core.Path.{ap}
use lib.ListN.{length}
use Rattle.derivation.proofs.RulePremises.{own_are, rests_count}
use Rattle.derivation.proofs.RuleFacts.{rule_asks}
use Rattle.derivation.proofs.apply.Rule.premises_of.Goals as goal

pub is_assumed-requires : goal.is_assumed-requires
is_assumed-requires c = rule_asks c.requires

pub returns-then-is_assumed : goal.returns-then-is_assumed
returns-then-is_assumed c = ap length (own_are c.requires c.is_assumed.ensures c.if-is_assumed.true c.premises.ensures)

pub returns : goal.returns
returns c = rests_count c.requires c.is_assumed.ensures c.if-is_assumed.false c.hyps.ensures
