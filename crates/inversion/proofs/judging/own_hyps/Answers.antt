use Rattle.std.proofs.Common.{ap, ◌∙◌, arith}
use Rattle.state.specs.Entries.{part}
use Rattle.casework.specs.Laws.Loops.{own_early, own_yes, own_no}
use Rattle.casework.specs.Laws.Rows.{recalled}
use Rattle.inversion.proofs.judging.own_hyps.Goals as goal

pub hyps-requires : goal.hyps-requires
hyps-requires c = recalled c.requires.1 (own_early _ _ c.is_fact.result c.is_fact.ensures c.if-is_fact.true (omega arith))

pub returns-then-is_fact : goal.returns-then-is_fact
returns-then-is_fact c = c.hyps.ensures ∙ ap (part c.args.facts.now.lists.now) (own_yes _ _ c.is_fact.result c.is_fact.ensures c.if-is_fact.true _)

pub returns : goal.returns
returns c = ap (part c.args.facts.now.lists.now) (own_no _ _ c.is_fact.result c.is_fact.ensures c.if-is_fact.false _)
