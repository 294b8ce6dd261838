use mathlib.Core.Path.{refl}
use Rattle.std.proofs.lemmas.Result.{err_from_is_err_and}
use Rattle.referring.specs.Laws.Substitutes.{memo_asked}
use Rattle.induction.proofs.Moves.{first_full, first_stopped, first_moved}
use Rattle.induction.proofs.motive.Motive.judgment_first.Goals as goal

pub substitute-requires-clause-id_in_bounds : goal.substitute-requires-clause-id_in_bounds
substitute-requires-clause-id_in_bounds c = memo_asked c.requires.0.good c.requires.0.empty refl c.requires.1

pub returns-in_err-t-clause-moved_as : goal.returns-in_err-t-clause-moved_as
returns-in_err-t-clause-moved_as c =
    let p = err_from_is_err_and c.from_residual.result c.from_residual.ensures.1 in
    rw (p.1, p.2) (first_full c.requires c.in_err-t.ensures.kept.says)

pub returns-in_err-substitute_all-clause-moved_as : goal.returns-in_err-substitute_all-clause-moved_as
returns-in_err-substitute_all-clause-moved_as c =
    let p = err_from_is_err_and c.from_residual-in_err-substitute_all.result c.from_residual-in_err-substitute_all.ensures.1 in
    rw (p.1, p.2) (first_stopped c.requires c.in_ok-t.ensures.kept.says c.in_err-substitute_all.ensures.replaced_as)

pub returns-clause-moved_as : goal.returns-clause-moved_as
returns-clause-moved_as c = first_moved c.requires c.in_ok-t.ensures.kept.says c.in_ok-substitute_all.ensures.replaced_as
