use Rattle.std.specs.Prelude.{refl}
use Rattle.std.proofs.lemmas.Result.{err_from_is_err_and}
use Rattle.beginning.proofs.Turns.{goals_unread, goals_read}
use Rattle.beginning.proofs.goals.pose.Goals as goal

pub returns-in_err-read_all-clause-posed : goal.returns-in_err-read_all-clause-posed
returns-in_err-read_all-clause-posed c =
    let p = err_from_is_err_and c.from_residual.result c.from_residual.ensures.1 in
    rw (p.1, p.2) (goals_unread c.args.given.now _ c.in_err-read_all.ensures c.args.board.now c.args.store.now c.requires refl)

pub returns-clause-posed : goal.returns-clause-posed
returns-clause-posed c =
    goals_read c.args.given.now _ c.in_ok-read_all.ensures refl c.take_goals.new.board c.take_goals.new.store _ c.take_goals.ensures.posed
