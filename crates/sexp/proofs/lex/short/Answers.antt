-- `sexp::lex::short` meets its contract. The comparison is the definition's. Assumes nothing.
use Rattle.rules.specs.Text.{short}
use borrow.Author.Rules.{rules}
use Rattle.sexp.proofs.lex.short.Goals as goal

pub returns : goal.returns
unfolding short
returns c = search rules
