use Rattle.std.proofs.lemmas.Result.{err_from_is_err_and}
use Rattle.induction.proofs.Casings.{put_movable, built_full, built_moved}
use Rattle.induction.proofs.motive.Motive.at_constructor_with.Goals as goal

pub returns-in_err-t-clause-moved_as : goal.returns-in_err-t-clause-moved_as
returns-in_err-t-clause-moved_as c =
    let p = err_from_is_err_and c.from_residual.result c.from_residual.ensures.1 in
    rw (p.1, p.2) (built_full c.requires.casing.1 c.args.self.now.sort _ _ c.in_err-t.ensures.kept.says)

pub judgment_first-requires : goal.judgment_first-requires
judgment_first-requires c = put_movable c.requires.casing.1 c.in_ok-t.ensures.kept.says c.put.ensures c.requires.memo_value.0 c.requires.memo_value.1

pub returns-clause-moved_as : goal.returns-clause-moved_as
returns-clause-moved_as c = built_moved c.requires.casing.1 c.args.self.now.sort _ _ c.in_ok-t.ensures.kept.says c.put.ensures _ _ _ _ c.judgment_first.result c.judgment_first.ensures.moved_as

pub returns-clause-put : goal.returns-clause-put
returns-clause-put c = (_, c.put.ensures)
