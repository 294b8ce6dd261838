use Rattle.kernel.proofs.Handed.{handed}
use Rattle.kernel.proofs.Runs.{unread_refused, read_whole}
use Rattle.kernel.proofs.parse.read_and_declare.Goals as goal

pub returns-in_err-read_all-clause-run : goal.returns-in_err-read_all-clause-run
returns-in_err-read_all-clause-run c = rw (handed c.from_residual.result c.from_residual.ensures)
    (unread_refused _ _ c.requires.exact _ c.requires.empty _ c.read_all.ensures c.in_err-read_all.was)

pub returns-clause-run : goal.returns-clause-run
returns-clause-run c = read_whole _ _ _ c.declarations.result _ c.read_all.ensures c.in_ok-read_all.was c.declarations.ensures.run
