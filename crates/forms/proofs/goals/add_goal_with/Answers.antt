use mathlib.Core.List.{[]}
use mathlib.Core.Path.{refl}
use native.Mathlib.Omega.{arith}
use Rattle.kernel.proofs.Handed.{handed}
use Rattle.rules.specs.Limits.{ENTRIES}
use Rattle.forms.proofs.GoalReads.{place_given}
use Rattle.forms.proofs.GoalLists.{form_given, with_stop, with_small, with_either}
use Rattle.forms.proofs.Tails.{tail_zero, tailed_same}
use Rattle.forms.proofs.goals.add_goal_with.Goals as goal

pub read_stated-requires-clause-reads_form : goal.read_stated-requires-clause-reads_form
read_stated-requires-clause-reads_form c = form_given c.requires.adds_goal

pub read_stated-requires-clause-out_value : goal.read_stated-requires-clause-out_value
read_stated-requires-clause-out_value c = tail_zero c.args.board.now.lists.now ENTRIES c.requires.lists_len.0 c.args.board.now.n.entries
    c.requires.adds_goal.fits c.requires.lists_len.1

pub returns-in_err-stated-clause-aimed_as : goal.returns-in_err-stated-clause-aimed_as
returns-in_err-stated-clause-aimed_as c = λ g. rw (handed c.from_residual.result c.from_residual.ensures)
    (let h = with_stop g c.in_err-stated.ensures.stated_as in (h.0, refl, tailed_same c.args.board.now.lists.now c.args.board.now.n.entries h.1, refl))

pub place_goal-placed-requires : goal.place_goal-placed-requires
place_goal-placed-requires c = (place_given c.requires.adds_goal (omega arith) [], with_small c.requires.adds_goal c.in_ok-stated.ensures.stated_as)

pub returns-clause-aimed_as : goal.returns-clause-aimed_as
returns-clause-aimed_as c = λ g. rw c.or_cleared.ensures.same
    (with_either g c.in_ok-stated.ensures.stated_as _ _ c.place_goal-placed.result c.place_goal-placed.ensures.placed_as c.args.board.now.lists.now
    c.requires.lists_len.0 c.requires.lists_len.1 c.read_stated.auto.out _ c.place_goal-placed.ensures.only.3 c.or_cleared.ensures.cleared)
