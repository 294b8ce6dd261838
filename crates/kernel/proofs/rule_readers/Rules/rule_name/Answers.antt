use native.Mathlib.Omega.{arith}
use Rattle.kernel.specs.RuleRows.{rule_place, rule_spans}
use Rattle.kernel.proofs.rule_readers.Rules.rule_name.Goals as goal

pub overflow_mul-r : goal.overflow_mul-r
overflow_mul-r c = omega (arith, rule_place c.requires, c.well_formed)

pub span_at-requires : goal.span_at-requires
span_at-requires c = omega (arith, rule_place c.requires)

pub returns : goal.returns
returns c = λ T text vars patterns count words h l. rw c.span_at.ensures (rule_spans T h _ l)
