use Rattle.kernel.proofs.Readings.{some_rows, constructor_is}
use Rattle.kernel.proofs.names.SymbolTable.constructor_named.Goals as goal

pub named-requires : goal.named-requires
named-requires c = some_rows c.requires

pub returns : goal.returns
returns c = λ T ins h. constructor_is T h _ _ c.named.ensures
