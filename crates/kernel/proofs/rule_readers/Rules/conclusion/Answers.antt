use Rattle.kernel.proofs.Conclusions.{rule_there, premises_pass, premises_passed}
use Rattle.kernel.proofs.rule_readers.Rules.conclusion.Goals as goal

pub words-requires : goal.words-requires
words-requires c = rule_there c.requires

pub premises-requires : goal.premises-requires
premises-requires c = rule_there c.requires

pub skip-requires : goal.skip-requires
skip-requires c = rw c.patterns.ensures (premises_pass _ _ c.words.ensures c.premises.ensures c.requires)

pub returns : goal.returns
returns c = premises_passed _ _ c.words.ensures c.premises.ensures (rw c.patterns.ensures at c.skip.ensures)
