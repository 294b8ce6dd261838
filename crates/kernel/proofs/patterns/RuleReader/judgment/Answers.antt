use Prim.Native.Nat.{◌≤◌}
use native.Mathlib.Omega.{arith}
use lib.ListN.{length}
use Rattle.rules.specs.Laws.PatternSteps.{worded}
use Rattle.kernel.proofs.Handed.{handed}
use Rattle.kernel.proofs.Trees.{symbolic, list_read, opened_reads, opened_placed, arguing_inner}
use Rattle.kernel.proofs.patterns.RuleReader.judgment.Goals as goal

pub open_judgment-requires : goal.open_judgment-requires
open_judgment-requires c = record { zs = c.requires.zs; holds = c.requires.holds; held = c.requires.held; long = c.requires.long }

pub returns-in_err-p-clause-read : goal.returns-in_err-p-clause-read
returns-in_err-p-clause-read c = λ T R zs h r k.
    rw (handed c.from_residual.result c.from_residual.ensures) (c.in_err-p.ensures.opened T R _ h r.words k)

pub slice_bounds-arguments-count : goal.slice_bounds-arguments-count
slice_bounds-arguments-count c =
    (c.in_ok-p.ensures.opened (symbolic c.requires.held.0) c.requires.so_far _ c.requires.held.1 c.requires.reads.words c.requires.holds).some

pub slice_bounds-arguments-start : goal.slice_bounds-arguments-start
slice_bounds-arguments-start c =
    (c.in_ok-p.ensures.opened (symbolic c.requires.held.0) c.requires.so_far _ c.requires.held.1 c.requires.reads.words c.requires.holds).some

pub arguments-requires : goal.arguments-requires
arguments-requires c =
    rw (c.in_ok-p.ensures.same_tables.known, c.in_ok-p.ensures.same_vars.vars, c.in_ok-p.ensures.same_vars.count)
    (arguing_inner (c.in_ok-p.ensures.opened (symbolic c.requires.held.0) c.requires.so_far _ c.requires.held.1 c.requires.reads.words c.requires.holds)
    c.requires.held.1 c.requires.reads c.requires.short c.requires.long)

pub returns-clause-read : goal.returns-clause-read
returns-clause-read c = λ T R zs h r k.
    let known = c.in_ok-p.ensures.same_tables.known in
    let opened = c.in_ok-p.ensures.opened T R _ h r.words k in
    let room : c.args.self.now.used ≤ length c.args.self.now.patterns.now = omega (arith, r.room, c.requires.long) in
    list_read opened room _ _ _ _ c.arguments.result
    (rw known at (c.arguments.ensures.read T (worded R) _ (rw known h)
    (rw (known, c.in_ok-p.ensures.same_vars.vars, c.in_ok-p.ensures.same_vars.count) (opened_reads opened room r)) (rw known opened.rest)
    (opened_placed opened room)))
