use native.Mathlib.Omega.{arith}
use Rattle.referring.proofs.Joins.{join_asks, hyps_below, hyps_join, none_join, footing_joins}
use Rattle.referring.proofs.support.Support.join.Goals as goal

pub join_footing-requires : goal.join_footing-requires
join_footing-requires c = join_asks c.requires

pub insert_all-requires : goal.insert_all-requires
insert_all-requires c = hyps_below c.requires c.hyps.ensures _ (omega arith)

pub returns-then-referred : goal.returns-then-referred
returns-then-referred c = λ g. (hyps_join g c.hyps.ensures _ _ c.insert_all.ensures _ c.if-referred.true, footing_joins g _ _ c.join_footing.ensures)

pub returns-else-referred : goal.returns-else-referred
returns-else-referred c = λ g. (none_join g _ _ c.if-referred.false, footing_joins g _ _ c.join_footing.ensures)
