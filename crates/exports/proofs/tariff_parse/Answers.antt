use mathlib.Core.Path.{sym, ap, ◌∙◌}
use Rattle.kernel.specs.Layout.{judged_done, judged_refused}
use Rattle.exports.specs.Counts.{rules_of}
use Rattle.exports.proofs.tariff_parse.Goals as goal

pub parse-requires : goal.parse-requires
parse-requires c = record { legible = c.requires.legible; roomy = c.requires.roomy }

pub returns-in-Ok-clause-value : goal.returns-in-Ok-clause-value
returns-in-Ok-clause-value c = ap (λ n. n.rules) c.parse.ensures.held ∙ sym (ap rules_of (judged_done _ _ c.parse.ensures.value c.in-Ok.is))

pub returns-in-Err-clause-value : goal.returns-in-Err-clause-value
returns-in-Err-clause-value c = sym (ap rules_of (judged_refused _ _ c.parse.ensures.value c.in-Err.is))
