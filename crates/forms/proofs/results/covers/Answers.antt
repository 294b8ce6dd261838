use mathlib.Core.Path.{refl}
use lib.ListN.{replicate}
use Rattle.rules.specs.Limits.{TERMWORDS}
use Rattle.forms.proofs.Covering.{covers_goal, aims_low, aims_high, aims_below, own_given, covers_all}
use Rattle.forms.proofs.results.covers.Goals as goal

pub goal_hyps-hyps-requires : goal.goal_hyps-hyps-requires
goal_hyps-hyps-requires c = covers_goal c.requires

pub of-requires : goal.of-requires
of-requires c = (aims_low c.requires c.goal_hyps-hyps.ensures, aims_high c.requires c.goal_hyps-hyps.ensures)

pub insert_all-requires : goal.insert_all-requires
insert_all-requires c = rw c.of.ensures (aims_below c.requires c.goal_hyps-hyps.ensures (replicate TERMWORDS 0) refl)

pub all_listed-requires : goal.all_listed-requires
all_listed-requires c = own_given c.requires c.goal_hyps-hyps.ensures c.hyps.ensures

pub returns : goal.returns
returns c = λ g. covers_all g c.goal_hyps-hyps.ensures c.hyps.ensures c.insert_all.new.set (rw c.of.ensures at c.insert_all.ensures) c.all_listed.ensures
