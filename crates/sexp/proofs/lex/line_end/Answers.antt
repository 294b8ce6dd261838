use mathlib.Core.Path.{refl}
use native.Mathlib.Omega.{arith}
use Rattle.sexp.proofs.Blocks.{comment_begin, comment_byte, line_blocks, comment_stop, comment_over}
use Rattle.sexp.proofs.lex.line_end.Goals as goal

pub loop-at-init : goal.loop-at-init
loop-at-init c = comment_begin _ _ _ c.requires refl

pub returns-then-text-at-eq10 : goal.returns-then-text-at-eq10
returns-then-text-at-eq10 c = comment_stop c.loop-at.invariant c.loop-at-test.true c.if-text-at-eq10.true

pub loop-at-smaller : goal.loop-at-smaller
loop-at-smaller c = omega (arith, c.loop-at-test.true)

pub loop-at-preserved : goal.loop-at-preserved
loop-at-preserved c = comment_byte c.loop-at.invariant c.loop-at-test.true c.if-text-at-eq10.false refl

pub returns : goal.returns
returns c = comment_over c.loop-at.invariant c.loop-at-test.false

pub loop-at-preserved-then-at-eq0 : goal.loop-at-preserved-then-at-eq0
loop-at-preserved-then-at-eq0 c =
    let e = c.skip_blocks-at.ensures in
    line_blocks e.0 e.1 e.2 (comment_byte c.loop-at.invariant c.loop-at-test.true c.if-text-at-eq10.false refl)
    (λ k l. rw (e.3 k l).shows at (e.3 k l).says.met refl)
