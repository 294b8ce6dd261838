use Rattle.std.proofs.Common.{rules}
use Rattle.state.proofs.Named.{some_defs, def_mapped, def_inside}
use Rattle.state.proofs.defs.def_named.Goals as goal

pub named-requires : goal.named-requires
named-requires c = some_defs c.requires

pub map-requires : goal.map-requires
map-requires c = λ i e. let l = def_inside c.args.name.now i c.requires c.named.ensures e in let w = c.well_formed in search rules

pub returns : goal.returns
returns c = λ M ds h. def_mapped h c.args.name.now c.named.ensures _ c.map.ensures.cases (λ i j e p. search rules)
