use Rattle.std.specs.Prelude.{◌≡◌, Ok}
use Rattle.std.proofs.Common.{sym, ap, ◌∙◌, rules}
use Rattle.kernel.proofs.Handed.{handed}
use Rattle.beginning.proofs.Turns.{behind_in, boards_then, stores_then, turn_first, turn_no_goals, turn_ends, turn_fails, form_read, turn_takes, turn_refused, turn_on}
use Rattle.cells.specs.Cleared.{front_cleared}
use Rattle.sexp.specs.Through.{going_room, going_cleared}
use Rattle.beginning.proofs.goals.take_goals.Goals as goal

pub loop-form-init : goal.loop-form-init
loop-form-init c = (turn_first c.requires, search, search)

pub returns-in_err-form-clause-posed : goal.returns-in_err-form-clause-posed
returns-in_err-form-clause-posed c =
    let r : c.map_err.result ≡ behind_in c.loop-form.forms c.read_form-read.result = search rules in
    rw (handed c.from_residual.result c.from_residual.ensures) (turn_fails c.loop-form.invariant.0 c.read_form-read.ensures (sym r ∙ c.in_err-form.was)).0

pub take_goal-taken-requires : goal.take_goal-taken-requires
take_goal-taken-requires c =
    let r : c.map_err.result ≡ behind_in c.loop-form.forms c.read_form-read.result = search rules in
    turn_takes c.loop-form.invariant.0 c.read_form-read.ensures (sym r ∙ c.in_ok-form.was ∙ ap Ok c.in-Some.is)

pub returns-in_err-map_err-clause-posed : goal.returns-in_err-map_err-clause-posed
returns-in_err-map_err-clause-posed c =
    let r : c.map_err.result ≡ behind_in c.loop-form.forms c.read_form-read.result = search rules in
    let n : c.map_err-in-loop-form.result ≡ behind_in c.loop-form.forms c.take_goal-taken.result = search rules in
    let e = sym r ∙ c.in_ok-form.was ∙ ap Ok c.in-Some.is in
    let x = c.loop-form.invariant.0 in
    rw (handed c.from_residual-in_err-map_err.result c.from_residual-in_err-map_err.ensures)
    (turn_refused x c.read_form-read.ensures e c.take_goal-taken.new.board c.take_goal-taken.new.store _
    (c.take_goal-taken.ensures.taken_as (turn_takes x c.read_form-read.ensures e)) (sym n ∙ c.in_err-map_err.was))

pub returns-in_err-map_err-clause-cells_unchanged : goal.returns-in_err-map_err-clause-cells_unchanged
returns-in_err-map_err-clause-cells_unchanged c =
    let r : c.map_err.result ≡ behind_in c.loop-form.forms c.read_form-read.result = search rules in
    let x = c.loop-form.invariant.0 in
    let e = form_read x c.read_form-read.ensures (sym r ∙ c.in_ok-form.was ∙ ap Ok c.in-Some.is) in
    going_cleared x.going c.read_form-read.ensures e (front_cleared 0 _ _ (going_room x.going c.read_form-read.ensures e c.read_form-read.auto.words) c.clear.ensures)

pub loop-form-preserved : goal.loop-form-preserved
loop-form-preserved c =
    let r : c.map_err.result ≡ behind_in c.loop-form.forms c.read_form-read.result = search rules in
    let n : c.map_err-in-loop-form.result ≡ behind_in c.loop-form.forms c.take_goal-taken.result = search rules in
    let j = sym r ∙ c.in_ok-form.was ∙ ap Ok c.in-Some.is in
    let x = c.loop-form.invariant.0 in
    let e = form_read x c.read_form-read.ensures j in (
      turn_on x c.read_form-read.ensures j c.take_goal-taken.new.board c.take_goal-taken.new.store _
          (c.take_goal-taken.ensures.taken_as (turn_takes x c.read_form-read.ensures j)) (sym n ∙ c.in_ok-map_err.was)
          (front_cleared 0 _ _ (going_room x.going c.read_form-read.ensures e c.read_form-read.auto.words) c.clear.ensures),
      boards_then c.args.board.now c.loop-form.board c.take_goal-taken.new.board c.loop-form.invariant.1 c.take_goal-taken.ensures.same_board.0,
      stores_then c.args.store.now c.loop-form.store c.take_goal-taken.new.store c.loop-form.invariant.2 c.take_goal-taken.ensures.same_board.1,
    )

pub returns-then-board-eq0-clause-posed : goal.returns-then-board-eq0-clause-posed
returns-then-board-eq0-clause-posed c =
    let r : c.map_err.result ≡ behind_in c.loop-form.forms c.read_form-read.result = search rules in
    rw c.behind.ensures (turn_no_goals c.loop-form.invariant.0 c.read_form-read.ensures (sym r ∙ c.in_ok-form.was ∙ ap Ok c.in_default.is) c.if-board-eq0.true).0

pub returns-clause-posed : goal.returns-clause-posed
returns-clause-posed c =
    let r : c.map_err.result ≡ behind_in c.loop-form.forms c.read_form-read.result = search rules in
    (turn_ends c.loop-form.invariant.0 c.read_form-read.ensures (sym r ∙ c.in_ok-form.was ∙ ap Ok c.in_default.is) c.if-board-eq0.false).0
