use mathlib.Core.Path.{◌∙◌}
use mathlib.Core.Logic.{⊎_elim}
use Rattle.terms.proofs.SetWords.{beside_here, beside_on, beside_same, beside_over}
use Rattle.terms.proofs.sets.lowest_outside.Goals as goal

pub returns-then-outside-ne0 : goal.returns-then-outside-ne0
returns-then-outside-ne0 c =
    let t = c.in-Some.ensures.steps in let n = c.loop-i.i-iterator.count in
    beside_here c.loop-i.invariant t.0.0 t.0.1 (c.type_inv.b n).fits (c.type_inv.a n).fits c.if-outside-ne0.true t.1

pub loop-i-preserved : goal.loop-i-preserved
loop-i-preserved c =
    let t = c.in-Some.ensures.steps in
    beside_on c.loop-i.invariant t.0.0 t.0.1 (c.type_inv.b c.loop-i.i-iterator.count).fits c.if-outside-ne0.false t.2

pub returns : goal.returns
returns c =
    let w = c.loop-i.invariant in let e = c.requires.0 in
    ⊎_elim (λ p. beside_over w e p.1.0) (λ p. beside_over w e (beside_same w e ∙ p.1.0)) c.in-None.ensures.steps.0
