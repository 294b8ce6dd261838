use mathlib.Core.Path.{refl, ap, ◌∙◌}
use Rattle.rules.specs.Index.{unsigned}
use Rattle.sexp.proofs.IndexLaws.{index_stripped}
use Rattle.sexp.proofs.names.index_of.Goals as goal

pub returns : goal.returns
returns c = c.unsigned.ensures ∙ ap (λ n. unsigned n.now) c.unwrap_or.ensures ∙ index_stripped _ _ refl c.strip_prefix.result c.strip_prefix.ensures.cases
