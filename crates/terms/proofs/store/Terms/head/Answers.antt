use native.Mathlib.Omega.{arith}
use Rattle.terms.proofs.Nodes.{held_start, head_is_lem}
use Rattle.terms.proofs.store.Terms.head.Goals as goal

pub offset_bounds-self-start_of : goal.offset_bounds-self-start_of
offset_bounds-self-start_of c = omega (arith, held_start _ _ _ c.requires _ c.start_of.ensures)

pub bounds-self-start_of : goal.bounds-self-start_of
bounds-self-start_of c = held_start _ _ _ c.requires _ c.start_of.ensures

pub returns : goal.returns
returns c = head_is_lem _ _ _ c.requires _ c.start_of.ensures
