use Rattle.kernel.proofs.Readings.{some_rows, predicate_is}
use Rattle.kernel.proofs.names.SymbolTable.predicate_named.Goals as goal

pub named-requires : goal.named-requires
named-requires c = some_rows c.requires

pub returns : goal.returns
returns c = λ T ins h. predicate_is T h _ _ c.named.ensures
