use native.Mathlib.Omega.{arith}
use Rattle.terms.specs.Table.{made}
use Rattle.terms.specs.Laws.Growth.{made_length}
use Rattle.casework.proofs.Allow.{allow_plain, allow_other}
use Rattle.casework.proofs.context.Grounds.allow.Goals as goal

pub returns-then-is_plain-clause-adds : goal.returns-then-is_plain-clause-adds
returns-then-is_plain-clause-adds c = λ g. allow_plain (made g.index g.words g.mark) g.recalls.S c.args.allowing.now.premises.now c.args.allowing.now.judgment c.args.allowing.now.general.now
    (c.is_plain.ensures (made g.index g.words g.mark)) c.args.self.now.own.now (omega (arith, g.judgment, made_length g.index g.words g.mark)) c.if-is_plain.true c.insert.ensures

pub returns-clause-adds : goal.returns-clause-adds
returns-clause-adds c = λ g. rw c.mark_rests.ensures.others.1 (allow_other (made g.index g.words g.mark) g.recalls.S c.args.allowing.now.premises.now c.args.allowing.now.judgment c.args.allowing.now.general.now
    (c.is_plain.ensures (made g.index g.words g.mark)) c.args.self.now.own.now c.if-is_plain.false (c.mark_rests.ensures.marked g))
