use mathlib.Core.Path.{ap}
use Rattle.terms.specs.Sets.{counted_from_1}
use Rattle.derivation.proofs.StepMatches.{stated_matchable, stated_matched, stated_none}
use Rattle.derivation.proofs.step.match_stated.Goals as goal

pub returns-in_default-clause-matched_as : goal.returns-in_default-clause-matched_as
returns-in_default-clause-matched_as c = stated_none c.requires (ap counted_from_1 c.in_default.is)

pub match_all-requires : goal.match_all-requires
match_all-requires c = stated_matchable c.requires (ap counted_from_1 c.in-Some.is)

pub returns-clause-matched_as : goal.returns-clause-matched_as
returns-clause-matched_as c = stated_matched c.requires (ap counted_from_1 c.in-Some.is) c.match_all.ensures.matched
