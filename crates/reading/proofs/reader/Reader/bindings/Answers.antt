use native.Mathlib.Omega.{arith}
use Rattle.reading.proofs.Binds.{bindings_read}
use Rattle.reading.proofs.reader.Reader.bindings.Goals as goal

pub returns-clause-bindings_as : goal.returns-clause-bindings_as
returns-clause-bindings_as c = λ g. rw c.or_cleared.ensures.same
    (bindings_read _ _ _ _ _ g c.binding_each-each.ensures.bindings_as _ c.requires.map_value (omega arith) c.or_cleared.ensures.cleared)
