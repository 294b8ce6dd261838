use mathlib.Core.Path.{refl, ◌∙◌}
use native.Mathlib.Omega.{arith}
use Rattle.kernel.proofs.Handed.{handed}
use Rattle.sexp.specs.Each.{here, over}
use Rattle.reading.proofs.Binds.{binds_start, left_given, left_refused, left_small, left_fits, left_twice, left_again, left_done}
use Rattle.reading.proofs.reader.Reader.binding_each.Goals as goal

pub loop-item-init : goal.loop-item-init
loop-item-init c = rw (c.into_iter-item-iterator.ensures.into_iter_gives, c.all-item-items.ensures.0, c.all-item-items.ensures.1) record { cells = refl; tables = (refl, refl); binds = binds_start c.requires.map_value }

pub binding-requires : goal.binding-requires
binding-requires c = left_given (c.loop-item.invariant.binds c.requires.reads_items) (here c.loop-item.invariant.cells c.in-Some.ensures.steps)

pub returns-in_err-pair-clause-bindings_as : goal.returns-in_err-pair-clause-bindings_as
returns-in_err-pair-clause-bindings_as c =
    let h = here c.loop-item.invariant.cells c.in-Some.ensures.steps in
    λ g. rw (handed c.from_residual.result c.from_residual.ensures)
    (left_refused (c.loop-item.invariant.binds g) h _ _ _ c.binding.ensures.pair_as c.in_err-pair.was, refl)

pub bounds-map-pair : goal.bounds-map-pair
bounds-map-pair c =
    let h = here c.loop-item.invariant.cells c.in-Some.ensures.steps in
    omega (arith, left_small (c.loop-item.invariant.binds c.requires.reads_items) h _ _ _ c.binding.ensures.pair_as c.in_ok-pair.was, (c.loop-item.invariant.binds c.requires.reads_items).theta.long)

pub returns-then-map-pair-ne0-clause-bindings_as : goal.returns-then-map-pair-ne0-clause-bindings_as
returns-then-map-pair-ne0-clause-bindings_as c =
    let h = here c.loop-item.invariant.cells c.in-Some.ensures.steps in
    λ g. (left_twice (c.loop-item.invariant.binds g) h _ _ _ c.binding.ensures.pair_as c.in_ok-pair.was c.if-map-pair-ne0.true, refl)

pub overflow_add-map : goal.overflow_add-map
overflow_add-map c =
    let h = here c.loop-item.invariant.cells c.in-Some.ensures.steps in
    omega (arith, left_fits (c.loop-item.invariant.binds c.requires.reads_items) h _ _ _ c.binding.ensures.pair_as c.in_ok-pair.was)

pub overflow_cast-map : goal.overflow_cast-map
overflow_cast-map c =
    let h = here c.loop-item.invariant.cells c.in-Some.ensures.steps in
    omega (arith, left_fits (c.loop-item.invariant.binds c.requires.reads_items) h _ _ _ c.binding.ensures.pair_as c.in_ok-pair.was)

pub loop-item-preserved : goal.loop-item-preserved
loop-item-preserved c =
    let h = here c.loop-item.invariant.cells c.in-Some.ensures.steps in
    record {
      cells = h.same;
      tables = (c.binding.ensures.same_tables.0 ∙ c.loop-item.invariant.tables.0, c.binding.ensures.same_tables.1 ∙ c.loop-item.invariant.tables.1);
      binds = λ g. left_again (c.loop-item.invariant.binds g) h _ _ _ c.binding.ensures.pair_as c.in_ok-pair.was c.if-map-pair-ne0.false;
    }

pub returns-clause-bindings_as : goal.returns-clause-bindings_as
returns-clause-bindings_as c = λ g. left_done (c.loop-item.invariant.binds g) (over c.loop-item.invariant.cells c.in-None.ensures.steps)

pub offset_bounds-map-pair : goal.offset_bounds-map-pair
offset_bounds-map-pair c =
    let h = here c.loop-item.invariant.cells c.in-Some.ensures.steps in
    omega (arith, left_small (c.loop-item.invariant.binds c.requires.reads_items) h _ _ _ c.binding.ensures.pair_as c.in_ok-pair.was, (c.loop-item.invariant.binds c.requires.reads_items).theta.long)

pub offset_bounds-map-pair-in-loop-item : goal.offset_bounds-map-pair-in-loop-item
offset_bounds-map-pair-in-loop-item c =
    let h = here c.loop-item.invariant.cells c.in-Some.ensures.steps in
    omega (arith, left_small (c.loop-item.invariant.binds c.requires.reads_items) h _ _ _ c.binding.ensures.pair_as c.in_ok-pair.was, (c.loop-item.invariant.binds c.requires.reads_items).theta.long)

pub bounds-map-pair-in-loop-item : goal.bounds-map-pair-in-loop-item
bounds-map-pair-in-loop-item c =
    let h = here c.loop-item.invariant.cells c.in-Some.ensures.steps in
    omega (arith, left_small (c.loop-item.invariant.binds c.requires.reads_items) h _ _ _ c.binding.ensures.pair_as c.in_ok-pair.was, (c.loop-item.invariant.binds c.requires.reads_items).theta.long)
