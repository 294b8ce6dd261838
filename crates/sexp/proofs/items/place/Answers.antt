use mathlib.Core.Path.{ap, ◌∙◌}
use mathlib.Core.Bool.{not}
use native.Mathlib.Omega.{arith}
use Prim.Native.Nat.{◌-◌}
use Rattle.sexp.proofs.Tallies.{seek_start, seek_next, seek_none, seek_found}
use Rattle.sexp.proofs.items.place.Goals as goal

pub loop-k-init : goal.loop-k-init
loop-k-init c = (c.all-items.ensures.0, c.args.number, omega arith, rw c.all-items.ensures.1 (seek_start _))

pub returns-then-is_none : goal.returns-then-is_none
returns-then-is_none c =
    let (same, left, sum, seeks) = c.loop-k.invariant in
    seek_none c.loop-k.items c.next.new.self c.next.result same seeks c.next.ensures.steps (c.is_none.ensures ∙ ap not c.if-is_none.true)

pub loop-k-preserved : goal.loop-k-preserved
loop-k-preserved c =
    let (same, left, sum, seeks) = c.loop-k.invariant in
    let n = seek_next c.loop-k.items c.next.new.self c.next.result same seeks (omega arith) c.next.ensures.steps in
    (n.0, left - 1, omega arith, n.1)

pub returns : goal.returns
returns c =
    let (same, left, sum, seeks) = c.loop-k.invariant in
    seek_found seeks (omega arith)
