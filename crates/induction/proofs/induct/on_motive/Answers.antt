use Prim.Native.Nat.{◌+◌, ◌*◌}
use lib.ListN.{length}
use native.Mathlib.Omega.{arith}
use Rattle.rules.specs.Limits.{ARGUMENTS}
use Rattle.referring.specs.Laws.Fronts.{front_room, front_count, back_room, back_count, front_cleared}
use Rattle.referring.specs.Ids.{IDS}
use Rattle.induction.proofs.induct.on_motive.Goals as goal

pub slice_bounds-motive_cases-end : goal.slice_bounds-motive_cases-end
slice_bounds-motive_cases-end c = front_room IDS c.requires.scratch.1 (ARGUMENTS * (length c.args.motive.now.premises.now + 1)) (omega (arith, c.requires.motive_items.motived.few))

pub slice_bounds-motive_cases-end-2 : goal.slice_bounds-motive_cases-end-2
slice_bounds-motive_cases-end-2 c = front_count IDS c.requires.scratch.1 (ARGUMENTS * (length c.args.motive.now.premises.now + 1)) (omega (arith, c.requires.motive_items.motived.few))

pub motive_cases-result-requires-clause-scratch : goal.motive_cases-result-requires-clause-scratch
motive_cases-result-requires-clause-scratch c = (c.requires.scratch.0, omega (arith, front_count IDS c.requires.scratch.1 (ARGUMENTS * (length c.args.motive.now.premises.now + 1)) (omega (arith, c.requires.motive_items.motived.few))))

pub slice_bounds-clear-end : goal.slice_bounds-clear-end
slice_bounds-clear-end c = back_room IDS c.requires.scratch.1 (ARGUMENTS * (length c.args.motive.now.premises.now + 1)) (omega (arith, c.requires.motive_items.motived.few)) _ c.motive_cases-result.auto.ids

pub slice_bounds-clear-end-2 : goal.slice_bounds-clear-end-2
slice_bounds-clear-end-2 c = back_count IDS c.requires.scratch.1 (ARGUMENTS * (length c.args.motive.now.premises.now + 1)) (omega (arith, c.requires.motive_items.motived.few)) _ c.motive_cases-result.auto.ids

pub returns-clause-memo_unchanged : goal.returns-clause-memo_unchanged
returns-clause-memo_unchanged c = (
  c.motive_cases-result.ensures.memo_unchanged,
  front_cleared IDS c.requires.scratch.1 (ARGUMENTS * (length c.args.motive.now.premises.now + 1)) (omega (arith, c.requires.motive_items.motived.few)) _ c.motive_cases-result.auto.ids c.clear.new.cells c.clear.ensures,
)
