use native.Mathlib.Omega.{arith}
use Rattle.reading.proofs.TermItems.{atom_abbreviates, atom_names}
use Rattle.reading.proofs.reader.Reader.atomic.Goals as goal

pub atom-name-requires : goal.atom-name-requires
atom-name-requires c = omega (arith, c.requires.inside)

pub returns-then-marked-clause-typed_as : goal.returns-then-marked-clause-typed_as
returns-then-marked-clause-typed_as c = λ g. atom_abbreviates g c.atom-name.ensures c.marked.ensures c.if-marked.true c.abbreviation.result
    (rw c.terms.ensures at c.abbreviation.ensures)

pub returns-clause-typed_as : goal.returns-clause-typed_as
returns-clause-typed_as c = λ g. atom_names g c.atom-name.ensures c.marked.ensures c.if-marked.false c.named.new.store.index.now
    c.named.new.store.words.now c.named.new.store.mark c.named.result c.named.ensures.typed_as
