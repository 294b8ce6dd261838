use Rattle.terms.specs.Laws.Zeros.{zero_again}
use Rattle.terms.specs.Laws.Seen.{seen_none}
use Rattle.terms.proofs.variables.variables.Goals as goal

pub visit-requires-clause-seen : goal.visit-requires-clause-seen
visit-requires-clause-seen c = seen_none _ _ _ _ _ c.requires.seen_value

pub returns : goal.returns
returns c = record {
  joined = c.visit.ensures.set;
  seen_unchanged = zero_again c.visit.new.seen c.requires.seen_value c.visit.auto.seen c.clear.ensures;
}
