use native.Mathlib.Omega.{arith}
use Rattle.induction.proofs.Allowed.{rest_facts, rest_judgment, hyp_plain, hyp_rule}
use Rattle.induction.proofs.resting.Allowed.hyp.Goals as goal

pub is_plain-requires : goal.is_plain-requires
is_plain-requires c = rest_facts c.requires.0 c.requires.1

pub judgment-requires : goal.judgment-requires
judgment-requires c = rest_facts c.requires.0 c.requires.1

pub has-requires : goal.has-requires
has-requires c = rest_judgment c.requires.0 _ c.requires.1 c.judgment.ensures (omega arith)

pub returns-then-is_plain : goal.returns-then-is_plain
returns-then-is_plain c = λ g. hyp_plain g _ c.requires.1 c.is_plain.result c.judgment.result c.has.result c.is_plain.ensures c.if-is_plain.true
    c.judgment.ensures c.has.ensures

pub returns : goal.returns
returns c = λ g. hyp_rule g _ c.requires.1 c.is_plain.result c.rule.result c.is_plain.ensures c.if-is_plain.false (c.rule.ensures g)
