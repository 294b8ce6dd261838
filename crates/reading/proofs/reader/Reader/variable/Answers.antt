use Rattle.rules.specs.Sexp.{cons}
use Rattle.reading.proofs.Atoms.{no_variable, variable_named}
use Rattle.reading.proofs.reader.Reader.variable.Goals as goal

pub head-requires : goal.head-requires
head-requires c = (cons c.requires.0.x c.requires.0.ys, c.requires.0.holds)

pub returns-in_err-name : goal.returns-in_err-name
returns-in_err-name c = λ vs x ys k h. rw c.from_residual.ensures (no_variable x ys (c.in_err-name.ensures (cons x ys) h) vs)

pub returns : goal.returns
returns c = λ vs x ys k h. variable_named x ys (c.in_ok-name.ensures (cons x ys) h) vs ((rw c.var_table.ensures at c.named.ensures) vs k)
