use Rattle.kernel.proofs.Readings.{some_names, sort_inside, sort_mapped}
use Rattle.kernel.specs.SignatureRows.{sorts_rows}
use native.Mathlib.Omega.{arith}
use Rattle.std.proofs.Common.{rules}
use Rattle.kernel.proofs.names.SortTable.named.Goals as goal

pub named-requires : goal.named-requires
named-requires c = some_names c.requires

pub map-requires : goal.map-requires
map-requires c = λ x e k l. omega (arith, sort_inside c.requires _ _ _ c.named.ensures e)

pub returns : goal.returns
returns c = λ T h. sort_mapped T (sorts_rows h) _ _ c.named.ensures _ c.map.ensures.cases (λ i j e p. search rules)
