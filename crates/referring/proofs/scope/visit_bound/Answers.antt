use native.Mathlib.Omega.{arith}
use Rattle.std.proofs.Common.{refl, sym}
use Rattle.terms.specs.Laws.Bound.{cells_long, cell_of}
use Rattle.referring.proofs.ScopeCells.{visiting_readable, visiting_more, visiting_done}
use Rattle.referring.proofs.scope.visit_bound.Goals as goal

pub loop-term-init : goal.loop-term-init
loop-term-init c = record { whole = refl; visits = c.requires.seen }

pub visit_one-requires-clause-readable_cells : goal.visit_one-requires-clause-readable_cells
visit_one-requires-clause-readable_cells c =
    let bound = c.args.bound.now in
    let k = c.loop-term.term-index in
    visiting_readable c.requires.readable_cells c.loop-term.invariant (omega (arith, c.loop-term-test.true, cells_long bound, c.told-bound))
    (sym (cell_of bound k _ (omega (arith, c.loop-term-test.true, c.told-bound))))

pub loop-term-preserved : goal.loop-term-preserved
loop-term-preserved c =
    let bound = c.args.bound.now in
    let k = c.loop-term.term-index in
    visiting_more c.requires.readable_cells c.loop-term.invariant (omega (arith, c.loop-term-test.true, cells_long bound, c.told-bound))
    (sym (cell_of bound k _ (omega (arith, c.loop-term-test.true, c.told-bound))))
    c.visit_one.new.seen c.visit_one.new.set c.visit_one.ensures

pub returns : goal.returns
returns c = visiting_done c.requires.readable_cells c.loop-term.invariant (omega (arith, c.loop-term-test.false, cells_long c.args.bound.now, c.told-bound))
