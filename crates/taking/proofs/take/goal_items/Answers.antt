use mathlib.Core.Path.{refl, ap, ◌∙◌}
use Rattle.std.specs.Prelude.{Err}
use Rattle.kernel.proofs.Handed.{handed}
use Rattle.kernel.proofs.Missing.{there, absent, question_is}
use native.Mathlib.Omega.{arith}
use Rattle.rules.specs.Tags.{a_variable, a_goal, a_goal_with}
use Rattle.sexp.specs.declared.tags.GoalForm.TheVariants.{Variable, Goal, GoalWith}
use Rattle.forms.specs.Laws.Declared.{gives_var}
use Rattle.forms.specs.Laws.Goals.{stands_lists}
use Rattle.taking.proofs.Heads.{told_goal, untold_goal, goal_many}
use Rattle.taking.proofs.Arms.{goal_given, goal_untagged, posed, posed_var, posed_goal, posed_row, goal_var}
use Rattle.taking.proofs.take.goal_items.Goals as goal

pub add_var_of-requires : goal.add_var_of-requires
add_var_of-requires c = (
  gives_var c.requires.items.stands c.requires.items.holds (goal_many c.requires.items.xs a_variable (told_goal Variable (rw (there _ _ c.ok_or.ensures.ok_part c.in_ok-ok_or.was) at (c.tag_of_goal.ensures c.requires.items.xs c.requires.items.holds)) c.in-Variable.is)),
  rw c.number.ensures (omega arith),
)

pub add_goal-requires : goal.add_goal-requires
add_goal-requires c = (goal_given c.requires (goal_many c.requires.items.xs a_goal (told_goal Goal (rw (there _ _ c.ok_or.ensures.ok_part c.in_ok-ok_or.was) at (c.tag_of_goal.ensures c.requires.items.xs c.requires.items.holds)) c.in-Goal.is)))

pub add_goal_with-requires-clause-adds_goal : goal.add_goal_with-requires-clause-adds_goal
add_goal_with-requires-clause-adds_goal c = (goal_given c.requires (goal_many c.requires.items.xs a_goal_with (told_goal GoalWith (rw (there _ _ c.ok_or.ensures.ok_part c.in_ok-ok_or.was) at (c.tag_of_goal.ensures c.requires.items.xs c.requires.items.holds)) c.in-GoalWith.is)))

pub add_goal_with-requires-clause-lists_len : goal.add_goal_with-requires-clause-lists_len
add_goal_with-requires-clause-lists_len c = stands_lists (rw c.requires.text at c.requires.items.stands)

pub returns-in-Variable-clause-tried_as : goal.returns-in-Variable-clause-tried_as
returns-in-Variable-clause-tried_as c = λ i. posed i (told_goal Variable (rw (there _ _ c.ok_or.ensures.ok_part c.in_ok-ok_or.was) at (c.tag_of_goal.ensures i.items.xs i.items.holds)) c.in-Variable.is) (goal_var i.items.xs i.items.S) c.add_var_of.new.board c.args.store.now _
    (posed_var i c.add_var_of.new.board _ c.add_var_of.ensures.only (rw c.number.ensures at (c.add_var_of.ensures.var_as (gives_var i.items.stands i.items.holds (goal_many i.items.xs a_variable (told_goal Variable (rw (there _ _ c.ok_or.ensures.ok_part c.in_ok-ok_or.was) at (c.tag_of_goal.ensures i.items.xs i.items.holds)) c.in-Variable.is))))))

pub returns-in-Goal-clause-tried_as : goal.returns-in-Goal-clause-tried_as
returns-in-Goal-clause-tried_as c = λ i. posed i (told_goal Goal (rw (there _ _ c.ok_or.ensures.ok_part c.in_ok-ok_or.was) at (c.tag_of_goal.ensures i.items.xs i.items.holds)) c.in-Goal.is) refl c.add_goal.new.board c.add_goal.new.store _
    (posed_row i a_goal c.add_goal.new.board c.add_goal.new.store _ c.add_goal.ensures.only (c.add_goal.ensures.aimed_as (goal_given i (goal_many i.items.xs a_goal (told_goal Goal (rw (there _ _ c.ok_or.ensures.ok_part c.in_ok-ok_or.was) at (c.tag_of_goal.ensures i.items.xs i.items.holds)) c.in-Goal.is)))))

pub returns-in-GoalWith-clause-tried_as : goal.returns-in-GoalWith-clause-tried_as
returns-in-GoalWith-clause-tried_as c = λ i. posed i (told_goal GoalWith (rw (there _ _ c.ok_or.ensures.ok_part c.in_ok-ok_or.was) at (c.tag_of_goal.ensures i.items.xs i.items.holds)) c.in-GoalWith.is) refl c.add_goal_with.new.board c.add_goal_with.new.store _
    (posed_goal i a_goal_with c.add_goal_with.new.board c.add_goal_with.new.store _ c.add_goal_with.ensures.only (c.add_goal_with.ensures.aimed_as (goal_given i (goal_many i.items.xs a_goal_with (told_goal GoalWith (rw (there _ _ c.ok_or.ensures.ok_part c.in_ok-ok_or.was) at (c.tag_of_goal.ensures i.items.xs i.items.holds)) c.in-GoalWith.is)))))

pub returns-in_err-ok_or-clause-tried_as : goal.returns-in_err-ok_or-clause-tried_as
returns-in_err-ok_or-clause-tried_as c = λ i.
    rw (handed c.from_residual.result c.from_residual.ensures ∙ ap Err (question_is _ _ c.ok_or.ensures.ok_part c.ok_or.ensures.value c.in_err-ok_or.was))
    (goal_untagged i (untold_goal (rw (absent _ _ c.ok_or.ensures.ok_part c.in_err-ok_or.was) at (c.tag_of_goal.ensures i.items.xs i.items.holds))))
