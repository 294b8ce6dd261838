use native.Mathlib.Omega.{arith}
use Rattle.kernel.proofs.Readings.{inputs_place, inputs_cut}
use Rattle.kernel.proofs.names.SymbolTable.inputs.Goals as goal

pub overflow_mul-from : goal.overflow_mul-from
overflow_mul-from c = omega (arith, inputs_place c.requires)

pub overflow_add-result : goal.overflow_add-result
overflow_add-result c = omega (arith, inputs_place c.requires)

pub slice_bounds-result-end : goal.slice_bounds-result-end
slice_bounds-result-end c = inputs_place c.requires

pub returns : goal.returns
returns c = λ T text syms count h l e. inputs_cut c.requires T h l e

pub offset_bounds-self-from : goal.offset_bounds-self-from
offset_bounds-self-from c = omega (arith, inputs_place c.requires)
