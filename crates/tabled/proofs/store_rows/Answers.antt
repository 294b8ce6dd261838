use borrow.Author.Rules.{rules}
use mathlib.Core.List.{[]}
use Rattle.facts.specs.declared.Fact.{Fact}
use Rattle.tabled.proofs.Storing as storing
use Rattle.tabled.proofs.store_rows.Goals as goal

-- what reading a slice past its end gives
abbrev absent : Fact
absent = record { judgment = 0; assumed = 0; first = 0; hyps = 0; premises = 0; general = 0; footing = [] }

pub loop-i-init : goal.loop-i-init
loop-i-init c = storing.begin

pub loop-i-preserved : goal.loop-i-preserved
loop-i-preserved c = storing.next absent c.requires c.loop-i.invariant (search rules) c.put_fact.ensures.row c.put_fact.ensures.foot

pub returns-clause-rows : goal.returns-clause-rows
returns-clause-rows c = storing.rows_done c.loop-i.invariant (search rules)

pub returns-clause-feet : goal.returns-clause-feet
returns-clause-feet c = storing.feet_done c.loop-i.invariant (search rules)
