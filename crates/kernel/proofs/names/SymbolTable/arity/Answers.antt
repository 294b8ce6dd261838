use native.Mathlib.Omega.{arith}
use Rattle.kernel.proofs.Readings.{symbol_place}
use Rattle.kernel.specs.SignatureRows.{arity_cell}
use Rattle.kernel.proofs.names.SymbolTable.arity.Goals as goal

pub overflow_mul-result : goal.overflow_mul-result
overflow_mul-result c = omega (arith, symbol_place c.requires)

pub overflow_add-result : goal.overflow_add-result
overflow_add-result c = omega (arith, symbol_place c.requires)

pub offset_bounds-self-c : goal.offset_bounds-self-c
offset_bounds-self-c c = omega (arith, symbol_place c.requires)

pub bounds-self-c : goal.bounds-self-c
bounds-self-c c = omega (arith, symbol_place c.requires)

pub returns : goal.returns
returns c = λ T text ins count h l. arity_cell T h _ l
