use Rattle.unification.proofs.Compares.{both_one, left_some, right_some, left_asks, left_binds, right_asks, right_binds, heads_clash, counts_clash, parts_are}
use Rattle.unification.proofs.pairs.compare.Goals as goal

pub returns-then-s-t-clause-answered : goal.returns-then-s-t-clause-answered
returns-then-s-t-clause-answered c = both_one _ _ _ _ _ _ c.requires c.if-s-t.true

pub bounds-left-0 : goal.bounds-left-0
bounds-left-0 c = left_some _ _ _ _ _ _ c.requires c.if-s-t.false _ c.node-left.ensures

pub bind-requires : goal.bind-requires
bind-requires c = rw c.in-Variable.ensures.0 (left_asks _ _ _ _ _ _ c.requires c.if-s-t.false _ c.node-left.ensures c.in-Variable.ensures.1)

pub returns-in-Variable-clause-answered : goal.returns-in-Variable-clause-answered
returns-in-Variable-clause-answered c = left_binds _ _ _ _ _ _ c.requires c.if-s-t.false _ c.node-left.ensures c.in-Variable.ensures.1 c.bind.result (rw c.in-Variable.ensures.0 at c.bind.ensures.answered)

pub bounds-right-0 : goal.bounds-right-0
bounds-right-0 c = right_some _ _ _ _ _ _ c.requires c.if-s-t.false _ c.node-left.ensures c.in_default.ensures.1 _ c.node-right.ensures

pub bind-requires-in-Variable-from : goal.bind-requires-in-Variable-from
bind-requires-in-Variable-from c = rw c.in-Variable-from.ensures.0 (right_asks _ _ _ _ _ _ c.requires c.if-s-t.false _ c.node-left.ensures c.in_default.ensures.1 _ c.node-right.ensures c.in-Variable-from.ensures.1)

pub returns-in-Variable-from-clause-answered : goal.returns-in-Variable-from-clause-answered
returns-in-Variable-from-clause-answered c = right_binds _ _ _ _ _ _ c.requires c.if-s-t.false _ c.node-left.ensures c.in_default.ensures.1 _ c.node-right.ensures c.in-Variable-from.ensures.1 c.bind-in-Variable-from.result
    (rw c.in-Variable-from.ensures.0 at c.bind-in-Variable-from.ensures.answered)

pub returns-then-left-right-clause-answered : goal.returns-then-left-right-clause-answered
returns-then-left-right-clause-answered c = heads_clash _ _ _ _ _ _ c.requires c.if-s-t.false _ c.node-left.ensures c.in_default.ensures.1 _ c.node-right.ensures c.in_default-from.ensures.1 c.if-left-right.true

pub returns-then-left-right-2-clause-answered : goal.returns-then-left-right-2-clause-answered
returns-then-left-right-2-clause-answered c = counts_clash _ _ _ _ _ _ c.requires c.if-s-t.false _ c.node-left.ensures c.in_default.ensures.1 _ c.node-right.ensures c.in_default-from.ensures.1 c.if-left-right.false
    c.if-left-right-2.true

pub returns-clause-answered : goal.returns-clause-answered
returns-clause-answered c = parts_are _ _ _ _ _ _ c.requires c.if-s-t.false _ c.node-left.ensures c.in_default.ensures.1 _ c.node-right.ensures c.in_default-from.ensures.1 c.if-left-right.false c.if-left-right-2.false
