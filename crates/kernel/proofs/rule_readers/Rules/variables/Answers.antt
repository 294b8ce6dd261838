use Rattle.kernel.specs.RuleRows.{rule_place, variables_cell}
use native.Mathlib.Omega.{arith}
use Rattle.kernel.proofs.rule_readers.Rules.variables.Goals as goal

pub overflow_mul-result : goal.overflow_mul-result
overflow_mul-result c = omega (arith, rule_place c.requires, c.well_formed)

pub overflow_add-result : goal.overflow_add-result
overflow_add-result c = omega (arith, rule_place c.requires, c.well_formed)

pub offset_bounds-self-r : goal.offset_bounds-self-r
offset_bounds-self-r c = omega (arith, rule_place c.requires, c.well_formed)

pub bounds-self-r : goal.bounds-self-r
bounds-self-r c = omega (arith, rule_place c.requires)

pub returns : goal.returns
returns c = λ T text vars patterns count words h l. variables_cell T h _ l
