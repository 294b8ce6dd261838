use Rattle.kernel.specs.RuleRows.{some_rule_names, rule_is}
use Rattle.kernel.proofs.rule_readers.Rules.rule_named.Goals as goal

pub named-requires : goal.named-requires
named-requires c = some_rule_names c.requires

pub returns : goal.returns
returns c = λ T vars patterns words h. rule_is T h _ _ c.named.ensures
