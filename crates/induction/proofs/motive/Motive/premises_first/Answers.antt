use Rattle.std.proofs.lemmas.Result.{err_from_is_err_and}
use Rattle.referring.specs.Laws.Substitutes.{memo_asked}
use Rattle.induction.proofs.Moves.{last_stopped, last_replaceable, last_moved}
use Rattle.induction.proofs.motive.Motive.premises_first.Goals as goal

pub returns-in_err-substitute_all-clause-moved_as : goal.returns-in_err-substitute_all-clause-moved_as
returns-in_err-substitute_all-clause-moved_as c =
    let p = err_from_is_err_and c.from_residual.result c.from_residual.ensures.1 in
    rw (p.1, p.2) (last_stopped c.requires c.in_err-substitute_all.ensures.replaced_as)

pub substitute-requires : goal.substitute-requires
substitute-requires c =
    let g = last_replaceable c.requires c.in_ok-substitute_all.ensures.replaced_as in
    record { replaceable = g; id_in_bounds = memo_asked g.good c.requires.0.empty c.substitute_all.ensures.memo_unchanged g.there }

pub returns-clause-moved_as : goal.returns-clause-moved_as
returns-clause-moved_as c = last_moved c.requires c.in_ok-substitute_all.ensures.replaced_as c.substitute.result c.substitute.ensures.kept
