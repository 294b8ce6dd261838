use Rattle.std.proofs.Common.{◌∙◌}
use Rattle.rules.specs.State.{is_plain}
use Rattle.reading.proofs.Hypotheses.{plain_tested}
use Rattle.reading.proofs.reader.Reader.plain_hyps.Goals as goal

pub returns : goal.returns
returns c = λ g. c.hyp_list.ensures g is_plain (record { says = λ rows i r f e l post k. rw e at post ∙ plain_tested g l k })
