use Rattle.std.proofs.Common.{sym, ◌∙◌}
use Rattle.beginning.proofs.Asks.{none_passed, one_passed, one_fails, all_passed, put_left}
use Rattle.beginning.proofs.texts.each.Goals as goal

pub loop-text-init : goal.loop-text-init
loop-text-init g c = λ p h. none_passed p _ _ _

pub returns-then-not-passes : goal.returns-then-not-passes
returns-then-not-passes g c = λ p h.
    let x = c.args.texts.now in
    put_left _ c.args.question
    (one_fails p x.theory x.goals x.proof _ _ c.loop-text-test.true (sym (h _ _ c.passes.ensures) ∙ c.if-not-passes.true) (c.loop-text.invariant p h))
    c.behind.ensures c.left_in.ensures

pub loop-text-preserved : goal.loop-text-preserved
loop-text-preserved g c = λ p h.
    let x = c.args.texts.now in
    one_passed p x.theory x.goals x.proof _ _ c.loop-text-test.true (sym (h _ _ c.passes.ensures) ∙ c.if-not-passes.false) (c.loop-text.invariant p h)

pub returns : goal.returns
returns g c = λ p h. all_passed p _ _ _ c.loop-text-test.false (c.loop-text.invariant p h)
