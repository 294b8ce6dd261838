use mathlib.Core.Path.{sym, ◌∙◌}
use Rattle.sexp.proofs.Skips as skips
use Rattle.sexp.proofs.lex.skip.Goals as goal

pub loop-at-init : goal.loop-at-init
loop-at-init c = skips.begin _ _ (c.requires)

pub loop-at-preserved-then-white : goal.loop-at-preserved-then-white
loop-at-preserved-then-white c = skips.past_white c.loop-at.invariant c.loop-at-test.true (sym c.white.ensures ∙ c.if-white.true)

pub loop-at-preserved : goal.loop-at-preserved
loop-at-preserved c = skips.past_comment c.loop-at.invariant c.loop-at-test.true c.if-b-eq59.true _ c.line_end-at.ensures

pub returns-else-b-eq59 : goal.returns-else-b-eq59
returns-else-b-eq59 c = skips.found c.loop-at.invariant (sym c.white.ensures ∙ c.if-white.false) c.if-b-eq59.false

pub returns : goal.returns
returns c = skips.over c.loop-at.invariant c.loop-at-test.false
