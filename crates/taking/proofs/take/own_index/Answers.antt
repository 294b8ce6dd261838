use Rattle.rules.specs.Forms.{next}
use Rattle.taking.proofs.Arms.{numbered_else}
use Rattle.taking.proofs.take.own_index.Goals as goal

pub returns-in_default : goal.returns-in_default
returns-in_default c = λ g. numbered_else c.args.tag g.S (next g.xs g.S) c.next_index.result c.in_default.not-Var c.in_default.not-Def c.in_default.not-Outcome (c.next_index.ensures g)
