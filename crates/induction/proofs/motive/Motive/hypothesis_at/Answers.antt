use Rattle.std.proofs.lemmas.Result.{err_from_is_err_and}
use Rattle.induction.proofs.Casings.{put_movable, supposed_full, supposed_moved}
use Rattle.induction.proofs.motive.Motive.hypothesis_at.Goals as goal

pub returns-in_err-t-clause-moved_as : goal.returns-in_err-t-clause-moved_as
returns-in_err-t-clause-moved_as c =
    let p = err_from_is_err_and c.from_residual.result c.from_residual.ensures.1 in
    rw (p.1, p.2) (supposed_full c.requires.motived.0 c.args.self.now.sort _ c.in_err-t.ensures.kept.says)

pub premises_first-requires : goal.premises_first-requires
premises_first-requires c = put_movable c.requires.motived.0 c.in_ok-t.ensures.kept.says c.put.ensures c.requires.memo_value.0 c.requires.memo_value.1

pub returns-clause-moved_as : goal.returns-clause-moved_as
returns-clause-moved_as c = supposed_moved c.requires.motived.0 c.args.self.now.sort _ c.in_ok-t.ensures.kept.says c.put.ensures _ _ _ _ c.premises_first.result c.premises_first.ensures.moved_as

pub returns-clause-put : goal.returns-clause-put
returns-clause-put c = (_, c.put.ensures)
