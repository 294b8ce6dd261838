use mathlib.Core.Path.{refl}
use native.Mathlib.Omega.{arith}
use Rattle.forms.proofs.GoalRows.{row_asks, place_unnamed, place_inside, place_high, place_twice, place_11, place_13, place_added}
use Rattle.kernel.proofs.Missing.{is_there, is_absent}
use Rattle.forms.proofs.goals.place_goal.Goals as goal

pub returns-in_default-clause-placed_as : goal.returns-in_default-clause-placed_as
returns-in_default-clause-placed_as c = λ g hs j e. (place_unnamed g c.nth.ensures c.in_default.is hs j, refl, refl)

pub atom_span-name-requires : goal.atom_span-name-requires
atom_span-name-requires c = place_inside c.requires.0 c.nth.ensures c.in-Atom.is

pub of-requires : goal.of-requires
of-requires c = rw c.atom_span-name.ensures (omega arith, place_high c.requires.0 c.nth.ensures c.in-Atom.is)

pub returns-then-is_some-clause-placed_as : goal.returns-then-is_some-clause-placed_as
returns-then-is_some-clause-placed_as c = λ g hs j e.
    (place_twice g c.nth.ensures c.in-Atom.is (rw (c.goal_table.ensures, c.of.ensures, c.atom_span-name.ensures) at c.named-known.ensures) (is_there _ c.is_some.ensures c.if-is_some.true).1 hs j, refl, refl)

pub returns-then-n-ge-GOALS-clause-placed_as : goal.returns-then-n-ge-GOALS-clause-placed_as
returns-then-n-ge-GOALS-clause-placed_as c = λ g hs j e. (
  place_11 g c.nth.ensures c.in-Atom.is (rw (c.goal_table.ensures, c.of.ensures, c.atom_span-name.ensures) at c.named-known.ensures) (is_absent _ c.is_some.ensures c.if-is_some.false) c.if-n-ge-GOALS.true hs
      j,
  refl,
  refl,
)

pub returns-then-room-stated-clause-placed_as : goal.returns-then-room-stated-clause-placed_as
returns-then-room-stated-clause-placed_as c = λ g hs j e. (
  place_13 g c.nth.ensures c.in-Atom.is (rw (c.goal_table.ensures, c.of.ensures, c.atom_span-name.ensures) at c.named-known.ensures) (is_absent _ c.is_some.ensures c.if-is_some.false) c.if-n-ge-GOALS.false hs j e
      c.if-room-stated.true,
  refl,
  refl,
)

pub put_goal-requires : goal.put_goal-requires
put_goal-requires c = rw c.atom_span-name.ensures
    (row_asks c.requires.0 (place_high c.requires.0 c.nth.ensures c.in-Atom.is) (omega arith) c.requires.1 c.if-n-ge-GOALS.false c.if-room-stated.false)

pub returns-clause-placed_as : goal.returns-clause-placed_as
returns-clause-placed_as c = λ g hs j e. (
  place_added g c.nth.ensures c.in-Atom.is (rw (c.goal_table.ensures, c.of.ensures, c.atom_span-name.ensures) at c.named-known.ensures) (is_absent _ c.is_some.ensures c.if-is_some.false) c.if-n-ge-GOALS.false hs j e c.args.stated.judgment _
      c.if-room-stated.false (rw c.atom_span-name.ensures at c.put_goal.ensures),
  refl,
)
