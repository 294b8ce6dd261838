use Rattle.kernel.specs.RuleRows.{some_var_names, named_few, var_is}
use native.Mathlib.Omega.{arith}
use Rattle.kernel.proofs.rule_readers.Rules.rule_var_named.Goals as goal

pub overflow_mul-r : goal.overflow_mul-r
overflow_mul-r c = omega (arith, named_few c.requires)

pub overflow_add-r : goal.overflow_add-r
overflow_add-r c = omega (arith, named_few c.requires)

pub named-requires : goal.named-requires
named-requires c = some_var_names c.requires

pub returns : goal.returns
returns c = λ T rules patterns known words h l m. var_is T h _ l m _ _ c.named.ensures
