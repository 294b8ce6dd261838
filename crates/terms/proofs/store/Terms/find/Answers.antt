use native.Mathlib.Omega.{arith}
use Rattle.std.proofs.Common.{◌∙◌, sym, true≢false}
use Rattle.terms.proofs.Finds.{head_in, seeking_begins, seeking_hit, seeking_on, seeking_falls, seeking_none}
use Rattle.terms.proofs.store.Terms.find.Goals as goal

pub overflow_add-at : goal.overflow_add-at
overflow_add-at c = omega (arith, head_in _ _ _ _ _ c.requires.good c.requires.bucket_value)

pub bounds-self-bucket : goal.bounds-self-bucket
bounds-self-bucket c = head_in _ _ _ _ _ c.requires.good c.requires.bucket_value

pub offset_bounds-self-bucket : goal.offset_bounds-self-bucket
offset_bounds-self-bucket c = omega (arith, head_in _ _ _ _ _ c.requires.good c.requires.bucket_value)

pub loop-at-init : goal.loop-at-init
loop-at-init c = seeking_begins _ _ _ _ _ c.requires.good c.requires.shaped c.requires.bucket_value

pub returns-then-is_node : goal.returns-then-is_node
returns-then-is_node c = seeking_hit _ _ _ _ _ c.loop-at.invariant c.loop-at-test.true (sym c.node.ensures ∙ c.is_node.ensures.0 c.if-is_node.true)

pub loop-at-smaller : goal.loop-at-smaller
loop-at-smaller c = seeking_falls _ _ _ _ _ c.loop-at.invariant c.loop-at-test.true

pub loop-at-preserved : goal.loop-at-preserved
loop-at-preserved c = seeking_on _ _ _ _ _ c.loop-at.invariant c.loop-at-test.true (λ e. true≢false (sym (c.is_node.ensures.1 (c.node.ensures ∙ e)) ∙ c.if-is_node.false))

pub returns : goal.returns
returns c = seeking_none _ _ _ _ _ c.loop-at.invariant c.loop-at-test.false
