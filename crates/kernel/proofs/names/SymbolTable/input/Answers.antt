use native.Mathlib.Omega.{arith}
use Rattle.kernel.proofs.Readings.{argument_place}
use Rattle.kernel.specs.SignatureRows.{argument_cell}
use Rattle.kernel.proofs.names.SymbolTable.input.Goals as goal

pub overflow_mul-result : goal.overflow_mul-result
overflow_mul-result c = omega (arith, argument_place c.requires)

pub overflow_add-result : goal.overflow_add-result
overflow_add-result c = omega (arith, argument_place c.requires)

pub offset_bounds-self-c : goal.offset_bounds-self-c
offset_bounds-self-c c = omega (arith, argument_place c.requires)

pub bounds-self-c : goal.bounds-self-c
bounds-self-c c = argument_place c.requires

pub returns-clause-sort : goal.returns-clause-sort
returns-clause-sort c = λ T text syms count h l m. argument_cell T h _ l _ m
