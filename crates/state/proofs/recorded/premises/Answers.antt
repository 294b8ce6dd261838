use Prim.Native.Nat.{◌+◌}
use native.Mathlib.Omega.{arith}
use Rattle.state.proofs.Cells.{below, number_is}
use Rattle.state.proofs.recorded.premises.Goals as goal

pub bounds-facts-i : goal.bounds-facts-i
bounds-facts-i c = below c.args.facts.now c.args.i c.requires

pub returns : goal.returns
returns c =
    let first = number_is c.args.facts.now c.args.i c.requires _ 2 (omega arith) in
    let hyps = number_is c.args.facts.now c.args.i c.requires _ 3 (omega arith) in
    let premises = number_is c.args.facts.now c.args.i c.requires _ 4 (omega arith) in
    λ i. record { from = first i + hyps i; end = first i + hyps i + premises i }
