use Prim.Native.Nat.{◌*◌}
use native.Mathlib.Omega.{arith}
use mathlib.Core.Path.{sym, ap, ◌∙◌}
use lib.ListN.{length}
use Rattle.terms.specs.Sets.{holds}
use Rattle.state.specs.Members.{rising_few}
use Rattle.referring.proofs.ScopeHyps.{members_out, joining_ready, joining_on, joining_ends}
use Rattle.referring.proofs.source.Facts.join_hyps.Goals as goal

pub write_out-count-requires-clause-set_in_bounds : goal.write_out-count-requires-clause-set_in_bounds
write_out-count-requires-clause-set_in_bounds c = omega (arith, rising_few (64 * length c.args.hyps.now) (holds c.args.hyps.now))

pub slice_bounds-ids-end : goal.slice_bounds-ids-end
slice_bounds-ids-end c = omega (
  arith,
  rising_few (64 * length c.args.hyps.now) (holds c.args.hyps.now),
  c.write_out-count.ensures.0,
)

pub slice_bounds-id-items-end : goal.slice_bounds-id-items-end
slice_bounds-id-items-end c =
    c.write_out-count.ensures.0 ∙ sym (ap length (members_out c.args.hyps.now (omega arith) c.write_out-count.ensures.0 c.write_out-count.ensures.1))

pub join_free-requires-clause-recalls : goal.join_free-requires-clause-recalls
join_free-requires-clause-recalls c = joining_ready c.loop-id.invariant c.requires.recalls.0 c.requires.recalls.1 (omega arith)
    (members_out c.args.hyps.now (omega arith) c.write_out-count.ensures.0 c.write_out-count.ensures.1)
    c.loop-id-test.true

pub loop-id-preserved : goal.loop-id-preserved
loop-id-preserved c = joining_on c.loop-id.invariant c.requires.recalls.0 c.requires.recalls.1 (omega arith)
    (members_out c.args.hyps.now (omega arith) c.write_out-count.ensures.0 c.write_out-count.ensures.1) c.loop-id-test.true c.join_free.ensures

pub returns : goal.returns
returns c = joining_ends c.loop-id.invariant c.requires.recalls.0 c.requires.recalls.1 (omega arith)
    (members_out c.args.hyps.now (omega arith) c.write_out-count.ensures.0 c.write_out-count.ensures.1) c.loop-id-test.false
