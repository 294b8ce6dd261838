use Rattle.rules.specs.Sexp.{cons}
use Rattle.reading.proofs.Atoms.{no_index, index_spelt}
use Rattle.reading.proofs.names.index.Goals as goal

pub head-requires : goal.head-requires
head-requires c = (cons c.requires.x c.requires.ys, c.requires.holds)

pub returns-in_err-name : goal.returns-in_err-name
returns-in_err-name c = λ x ys h. rw c.from_residual.ensures (no_index x ys (c.in_err-name.ensures (cons x ys) h))

pub returns : goal.returns
returns c = λ x ys h. index_spelt x ys (c.in_ok-name.ensures (cons x ys) h) c.index_of.ensures
