use Rattle.kernel.specs.RuleRows.{var_place, var_cell}
use native.Mathlib.Omega.{arith}
use Rattle.kernel.proofs.rule_readers.Rules.variable_sort.Goals as goal

pub overflow_mul-result : goal.overflow_mul-result
overflow_mul-result c = omega (arith, var_place c.requires, c.well_formed)

pub overflow_add-result : goal.overflow_add-result
overflow_add-result c = omega (arith, var_place c.requires, c.well_formed)

pub overflow_mul-result-2 : goal.overflow_mul-result-2
overflow_mul-result-2 c = omega (arith, var_place c.requires, c.well_formed)

pub offset_bounds-self-r : goal.offset_bounds-self-r
offset_bounds-self-r c = omega (arith, var_place c.requires, c.well_formed)

pub bounds-self-r : goal.bounds-self-r
bounds-self-r c = var_place c.requires

pub returns : goal.returns
returns c = λ T text rules patterns count words h l m. var_cell T h _ l _ m
