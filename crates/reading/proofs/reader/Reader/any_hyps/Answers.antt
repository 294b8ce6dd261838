use Rattle.std.proofs.Common.{◌∙◌}
use Rattle.reading.proofs.Hypotheses.{any_tested}
use Rattle.reading.proofs.reader.Reader.any_hyps.Goals as goal

pub returns : goal.returns
returns c = λ g. c.hyp_list.ensures g _ (record { says = λ rows i r f e l post k. rw e at post ∙ any_tested g l k })
