-- Less of the text is left, so the calls end.
use Rattle.std.proofs.Common.{length}
use Rattle.terms_main.proofs.+read.Given as goal

abbrev pub decreases-read : goal.decreases-read
decreases-read l = length l.text.now.now
