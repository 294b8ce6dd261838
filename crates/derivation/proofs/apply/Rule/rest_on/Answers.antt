use Rattle.derivation.proofs.RulePremises.{rests_itself, rests_nowhere}
use Rattle.derivation.proofs.RuleFacts.{rule_asks}
use Rattle.derivation.proofs.apply.Rule.rest_on.Goals as goal

pub is_assumed-requires : goal.is_assumed-requires
is_assumed-requires c = rule_asks c.requires

pub returns-then-is_assumed : goal.returns-then-is_assumed
returns-then-is_assumed c = λ g. rests_itself g c.is_assumed.ensures c.if-is_assumed.true _ _ c.insert.ensures

pub returns-else-is_assumed : goal.returns-else-is_assumed
returns-else-is_assumed c = λ g. rests_nowhere g c.is_assumed.ensures c.if-is_assumed.false _
