use mathlib.Core.Path.{refl}
use Prim.Native.Nat.{◌-◌, ◌≤◌}
use native.Mathlib.Omega.{arith}
use lib.ListN.{length, take, drop}
use Rattle.rules.specs.Laws.PatternSteps.{worded}
use Rattle.sexp.specs.WalkLaws.{walk_start, walk_list, part_shorter}
use Rattle.sexp.specs.FirstItem.{rest_shorter, atom_first, some_list, cons_first}
use Rattle.kernel.proofs.Handed.{handed}
use Rattle.sexp.specs.Each.{here, over, item_long}
use Rattle.kernel.proofs.Argued.{arguments_start, arguments_over, argument_known, argument_some, argument_asks, arguments_stop, arguments_on}
use Rattle.kernel.proofs.Premised.{same_on}
use Rattle.kernel.proofs.Trees.{symbolic, list_read, opened_reads, opened_placed, arguing_inner}
use Rattle.kernel.proofs.patterns.RuleReader.+arguments_term.Goals as goal

pub arguments-loop-k-init : goal.arguments-loop-k-init
arguments-loop-k-init t c = rw (c.into_iter-k-iterator.ensures.into_iter_gives, c.enumerate-k-items.ensures.source, c.enumerate-k-items.ensures.count, c.all.ensures.0, c.all.ensures.1)
    record { cells = refl; going = record { same = record { known = refl; vars = refl; patterns = refl }; arguments = arguments_start _ _ _ _ _ _ _ _ _ _ } }

pub arguments-input-sort-requires : goal.arguments-input-sort-requires
arguments-input-sort-requires t c =
    let steps = c.in-Some.ensures.steps in
    let h = here c.loop-k.invariant.cells steps.0 in
    rw steps.1 (argument_known c.loop-k.invariant.going.arguments c.requires h)

pub arguments-term-requires : goal.arguments-term-requires
arguments-term-requires t c =
    let h = here c.loop-k.invariant.cells c.in-Some.ensures.steps.0 in (
      omega (arith, item_long c.args.cells.now _ c.loop-k.k-iterator.iter.at h.is, c.decreases),
      (
        rw c.loop-k.invariant.going.same.known (argument_asks c.loop-k.invariant.going.arguments c.requires h),
        (argument_some c.loop-k.invariant.going.arguments c.requires h, c.input-sort.ensures.small),
      ),
    )

pub arguments-returns-in_err-term-clause-read : goal.arguments-returns-in_err-term-clause-read
arguments-returns-in_err-term-clause-read t c =
    let steps = c.in-Some.ensures.steps in
    let h = here c.loop-k.invariant.cells steps.0 in
    let known = c.loop-k.invariant.going.same.known in
    λ T R zs s y b p. rw (handed c.from_residual.result c.from_residual.ensures)
    (arguments_stop c.loop-k.invariant.going.arguments c.requires h _ (rw steps.1 at c.input-sort.ensures.sort) _ _
    (λ T R y ys s r b. c.in_err-term.ensures.read T R y ys (rw known s) (rw known r) (rw known b)) T R zs s y b p)

pub arguments-loop-k-preserved : goal.arguments-loop-k-preserved
arguments-loop-k-preserved t c =
    let steps = c.in-Some.ensures.steps in
    let h = here c.loop-k.invariant.cells steps.0 in
    let known = c.loop-k.invariant.going.same.known in
    record {
      cells = h.same;
      going = record {
        same = same_on c.loop-k.invariant.going.same c.in_ok-term.ensures.same_tables;
        arguments = rw steps.2 (arguments_on c.loop-k.invariant.going.arguments c.requires h _ (rw steps.1 at c.input-sort.ensures.sort)
            (λ T R y ys s r b. rw known at (c.in_ok-term.ensures.read T R y ys (rw known s) (rw known r) (rw known b))));
      };
    }

pub arguments-returns-clause-read : goal.arguments-returns-clause-read
arguments-returns-clause-read t c = arguments_over c.loop-k.invariant.going.arguments (over c.loop-k.invariant.cells c.in-None.ensures.steps.0)

pub term-atomic-requires-clause-atom : goal.term-atomic-requires-clause-atom
term-atomic-requires-clause-atom t c =
    let atom = atom_first c.requires.part.holds (λ z. omega (arith, z, c.requires.cells_nonzero.0)) c.item_at.ensures c.in-Atom.is in record {
      vs = c.requires.part.so_far.vars;
      held = c.requires.part.reads.held;
      inside = atom.inside;
      short = c.requires.part.short;
      small = c.requires.cells_nonzero.1;
      long = c.requires.part.long;
    }

pub term-atomic-requires-clause-head : goal.term-atomic-requires-clause-head
term-atomic-requires-clause-head t c = record { inputs = _; held = c.requires.part.held; long = c.requires.part.long }

pub term-offset_bounds-cells-a : goal.term-offset_bounds-cells-a
term-offset_bounds-cells-a t c =
    let list = some_list c.requires.part.holds (λ z. omega (arith, z, c.requires.cells_nonzero.0)) c.item_at.ensures c.in-List.is in
    omega (arith, list.1.low, list.1.high, c.well_formed)

pub term-slice_bounds-inner-count : goal.term-slice_bounds-inner-count
term-slice_bounds-inner-count t c = (some_list c.requires.part.holds (λ z. omega (arith, z, c.requires.cells_nonzero.0)) c.item_at.ensures c.in-List.is).1.low

pub term-slice_bounds-inner-start : goal.term-slice_bounds-inner-start
term-slice_bounds-inner-start t c = (some_list c.requires.part.holds (λ z. omega (arith, z, c.requires.cells_nonzero.0)) c.item_at.ensures c.in-List.is).1.low

pub term-slice_bounds-inner-end : goal.term-slice_bounds-inner-end
term-slice_bounds-inner-end t c = (some_list c.requires.part.holds (λ z. omega (arith, z, c.requires.cells_nonzero.0)) c.item_at.ensures c.in-List.is).1.high

pub term-open_term-requires : goal.term-open_term-requires
term-open_term-requires t c =
    let list = some_list c.requires.part.holds (λ z. omega (arith, z, c.requires.cells_nonzero.0)) c.item_at.ensures c.in-List.is in
    record { zs = list.1.items; holds = list.1.holds; held = c.requires.part.held; long = c.requires.part.long }

pub term-returns-in_err-c-in-List-clause-read : goal.term-returns-in_err-c-in-List-clause-read
term-returns-in_err-c-in-List-clause-read t c = λ T R x ys h r k.
    let list = walk_list (walk_start k) c.item_at.ensures c.in-List.is in
    rw (handed c.from_residual.result c.from_residual.ensures, list.is) (c.in_err-c-in-List.ensures.opened T R _ h r.words list.holds)

pub term-slice_bounds-arguments-count : goal.term-slice_bounds-arguments-count
term-slice_bounds-arguments-count t c =
    let list = some_list c.requires.part.holds (λ z. omega (arith, z, c.requires.cells_nonzero.0)) c.item_at.ensures c.in-List.is in
    (c.in_ok-c-in-List.ensures.opened (symbolic c.requires.part.held.0) c.requires.part.so_far _ c.requires.part.held.1 c.requires.part.reads.words list.1.holds).some

pub term-slice_bounds-arguments-start : goal.term-slice_bounds-arguments-start
term-slice_bounds-arguments-start t c =
    let list = some_list c.requires.part.holds (λ z. omega (arith, z, c.requires.cells_nonzero.0)) c.item_at.ensures c.in-List.is in
    (c.in_ok-c-in-List.ensures.opened (symbolic c.requires.part.held.0) c.requires.part.so_far _ c.requires.part.held.1 c.requires.part.reads.words list.1.holds).some

pub term-arguments-requires : goal.term-arguments-requires
term-arguments-requires t c =
    let inner = take (c.in-List.b - c.in-List.a) (drop c.in-List.a c.args.cells.now) in
    let list = some_list c.requires.part.holds (λ z. omega (arith, z, c.requires.cells_nonzero.0)) c.item_at.ensures c.in-List.is in
    let same = c.in_ok-c-in-List.ensures in
    let opened = same.opened (symbolic c.requires.part.held.0) c.requires.part.so_far _ c.requires.part.held.1 c.requires.part.reads.words list.1.holds in (
      omega (arith, rest_shorter inner 1 (omega arith) opened.some, part_shorter list.1, c.decreases),
      rw (c.in_ok-c-in-List.ensures.same_tables.known, c.in_ok-c-in-List.ensures.same_vars.vars, c.in_ok-c-in-List.ensures.same_vars.count)
          (arguing_inner opened c.requires.part.held.1 c.requires.part.reads c.requires.part.short c.requires.part.long),
    )

pub term-returns-in-Atom-clause-read : goal.term-returns-in-Atom-clause-read
term-returns-in-Atom-clause-read t c = λ T R x ys h r k.
    rw (cons_first x _ ys _ (atom_first k (λ z. omega (arith, z, c.requires.cells_nonzero.0)) c.item_at.ensures c.in-Atom.is).is)
    (c.atomic.ensures.read T _ h R r)

pub term-returns-in_ok-c-in-List-clause-read : goal.term-returns-in_ok-c-in-List-clause-read
term-returns-in_ok-c-in-List-clause-read t c = λ T R x ys h r k.
    let known = c.in_ok-c-in-List.ensures.same_tables.known in
    let list = walk_list (walk_start k) c.item_at.ensures c.in-List.is in
    let opened = c.in_ok-c-in-List.ensures.opened T R _ h r.words list.holds in
    let room : c.args.self.now.used ≤ length c.args.self.now.patterns.now = omega (arith, r.room, c.requires.part.long) in
    rw list.is
    (list_read opened room _ _ _ _ c.arguments.result
    (rw known at (c.arguments.ensures.read T (worded R) _ (rw known h)
    (rw (known, c.in_ok-c-in-List.ensures.same_vars.vars, c.in_ok-c-in-List.ensures.same_vars.count) (opened_reads opened room r)) (rw known opened.rest)
    (opened_placed opened room))))
