use Rattle.kernel.proofs.Handed.{handed}
use Rattle.referring.proofs.Referring.{bare_no, bare_read, bare_asks}
use Rattle.referring.proofs.source.Source.bare.Goals as goal

pub returns-in_err-i : goal.returns-in_err-i
returns-in_err-i c = λ m g p bs x. rw (handed c.from_residual.result c.from_residual.ensures, c.in_err-i.ensures.0) (bare_no g p bs x c.in_err-i.ensures.1)

pub judgment-requires : goal.judgment-requires
judgment-requires c = bare_asks c.requires.1 c.in_ok-i.ensures.1

pub returns : goal.returns
returns c = λ m g p bs x. bare_read g p bs x c.in_ok-i.ensures.0 c.in_ok-i.ensures.1 c.judgment.ensures
