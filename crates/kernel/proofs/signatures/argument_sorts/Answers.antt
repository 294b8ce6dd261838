use mathlib.Core.Path.{refl}
use native.Mathlib.Omega.{arith}
use Rattle.sexp.specs.Each.{here, over}
use Rattle.kernel.proofs.Handed.{handed}
use Rattle.kernel.proofs.Readings.{some_names}
use Rattle.kernel.proofs.Arguments.{gathers_start, gathers_over, gathers_item, gathers_unknown, gathers_full, gathers_small, gathers_on}
use Rattle.kernel.proofs.signatures.argument_sorts.Goals as goal

pub loop-k-init : goal.loop-k-init
loop-k-init c = rw (c.into_iter-k-iterator.ensures.into_iter_gives, c.enumerate-k-items.ensures.source, c.enumerate-k-items.ensures.count, c.all.ensures.0, c.all.ensures.1)
    record { cells = refl; gathers = gathers_start }

pub sort-requires : goal.sort-requires
sort-requires c =
    let h = here c.loop-k.invariant.cells c.in-Some.ensures.steps.0 in
    record {
      some_item = gathers_item c.loop-k.invariant.gathers h _ c.item_at.ensures c.requires.held (c.requires.xs, c.requires.holds);
      some_names = some_names c.requires.held;
    }

pub returns-in_err-s : goal.returns-in_err-s
returns-in_err-s c = λ T xs s w.
    let h = here c.loop-k.invariant.cells c.in-Some.ensures.steps.0 in
    rw (handed c.from_residual.result c.from_residual.ensures)
    (gathers_unknown c.loop-k.invariant.gathers h c.item_at.ensures c.sort.ensures T xs s w c.in_err-s.was)

pub returns : goal.returns
returns c = gathers_over c.loop-k.invariant.gathers (over c.loop-k.invariant.cells c.in-None.ensures.steps.0) _ c.count.ensures

pub returns-then-k-ge-ARGUMENTS : goal.returns-then-k-ge-ARGUMENTS
returns-then-k-ge-ARGUMENTS c = λ T xs s w.
    let steps = c.in-Some.ensures.steps in
    gathers_full c.loop-k.invariant.gathers (here c.loop-k.invariant.cells steps.0) c.item_at.ensures c.sort.ensures T xs s w _ c.in_ok-s.was
    (omega (arith, c.if-k-ge-ARGUMENTS.true, steps.1))

pub overflow_cast-row : goal.overflow_cast-row
overflow_cast-row c =
    let h = here c.loop-k.invariant.cells c.in-Some.ensures.steps.0 in
    omega (arith, gathers_small c.loop-k.invariant.gathers h c.item_at.ensures c.sort.ensures _ c.in_ok-s.was c.requires.held (c.requires.xs, c.requires.holds))

pub loop-k-preserved : goal.loop-k-preserved
loop-k-preserved c =
    let steps = c.in-Some.ensures.steps in
    let h = here c.loop-k.invariant.cells steps.0 in
    rw (steps.1, steps.2) record {
      cells = h.same;
      gathers = gathers_on c.loop-k.invariant.gathers h c.item_at.ensures c.sort.ensures _ c.in_ok-s.was (omega (arith, c.if-k-ge-ARGUMENTS.false, steps.1));
    }
