use mathlib.Core.List.{[]}
use mathlib.Core.Path.{refl}
use native.Mathlib.Omega.{arith}
use Rattle.kernel.proofs.Handed.{handed}
use Rattle.forms.proofs.GoalReads.{place_given, plain_given, plain_small, plain_stops, plain_aimed}
use Rattle.forms.proofs.goals.add_goal.Goals as goal

pub judgment-requires : goal.judgment-requires
judgment-requires c = rw c.reader_of.ensures (plain_given c.requires c.from.ensures)

pub returns-in_err-judgment-clause-aimed_as : goal.returns-in_err-judgment-clause-aimed_as
returns-in_err-judgment-clause-aimed_as c = λ g.
    let r = rw c.reader_of.ensures at c.in_err-judgment.ensures.read_as in
    rw (handed c.from_residual.result c.from_residual.ensures) (plain_stops g c.from.ensures r, refl, refl, refl)

pub place_goal-requires : goal.place_goal-requires
place_goal-requires c =
    let r = rw c.reader_of.ensures at c.in_ok-judgment.ensures.read_as in
    (place_given c.requires (omega arith) [], plain_small c.requires c.from.ensures r)

pub returns-clause-aimed_as : goal.returns-clause-aimed_as
returns-clause-aimed_as c = λ g.
    let r = rw c.reader_of.ensures at c.in_ok-judgment.ensures.read_as in
    plain_aimed g c.from.ensures r _ _ _ _ c.place_goal.result c.place_goal.ensures.only.3 c.place_goal.ensures.placed_as
