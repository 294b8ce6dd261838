use Rattle.running.proofs.Ends.{open_rows_given, carried, question_53, accepted}
use Rattle.running.proofs.finish.finish.Goals as goal

pub count_open-open_goals-requires : goal.count_open-open_goals-requires
count_open-open_goals-requires c = rw (c.terms.ensures, c.goal_table-goals.ensures) (open_rows_given c.requires.0)

pub returns-in-Err-clause-finishes : goal.returns-in-Err-clause-finishes
returns-in-Err-clause-finishes c =
    let list = rw c.goal_table-goals.ensures at c.carry.ensures.list in
    rw c.in-Err.is (λ g. carried g c.carry.ensures.refusal list)

pub returns-then-many-ne0-clause-finishes : goal.returns-then-many-ne0-clause-finishes
returns-then-many-ne0-clause-finishes c =
    let stopped = rw c.behind-refused.ensures at c.left_in.ensures in
    let many = rw c.goal_table-goals.ensures at c.count_missing-many.ensures in
    let listed = rw c.goal_table-goals.ensures at c.list_missing.ensures in
    rw c.in-Ok.is (λ g. question_53 g stopped many listed c.if-many-ne0.true)

pub returns-clause-finishes : goal.returns-clause-finishes
returns-clause-finishes c =
    let opens = rw (c.terms.ensures, c.goal_table-goals.ensures) at c.count_open-open_goals.ensures in
    let many = rw c.goal_table-goals.ensures at c.count_missing-many.ensures in
    rw (c.in-Ok.is, c.goal_table-goals.ensures) (λ g. accepted g many (rw c.requires.1 at c.clear.ensures) c.if-many-ne0.false (opens (open_rows_given g)))
