use Rattle.sexp.proofs.IndexLaws.{Reading}
use Rattle.sexp.proofs.names.unsigned.Given as goal

abbrev pub invariant-loop-digit : goal.invariant-loop-digit
invariant-loop-digit l = Reading l.digits l.n l.digit-index
