use Rattle.schematic.proofs.Whole.{finish_asks, whole}
use Rattle.schematic.proofs.check_exact.Goals as goal

pub returns-clause-whole : goal.returns-clause-whole
returns-clause-whole c =
    let r = c.run-outcome.ensures.ran in
    let f = c.finish.ensures in
    whole r f.index_after f.words_after (f.finishes (finish_asks r))
