use Rattle.std.proofs.Common.{refl, rules}
use Rattle.terms_main.proofs.Kept.{ok_before}
use Rattle.terms_main.proofs.Unifies.{unifiable, unified_grown, unified_bound}
use Rattle.terms_main.proofs.bindings.Goals as goal

pub unify-requires : goal.unify-requires
unify-requires c = unifiable c.requires.0 c.requires.1 c.requires.2 refl refl refl refl refl

pub returns-then-not-found-clause-kept : goal.returns-then-not-found-clause-kept
returns-then-not-found-clause-kept c =
    unified_grown c.unify.ensures.unified_by

pub returns-clause-kept : goal.returns-clause-kept
returns-clause-kept c =
    unified_grown c.unify.ensures.unified_by

pub returns-clause-bound : goal.returns-clause-bound
returns-clause-bound c =
    unified_bound c.unify.ensures.unified_by c.in_ok-found.found (ok_before _ _ _ c.in_ok-found.ensures.cases) (search rules)

pub returns-in_err-found-clause-kept : goal.returns-in_err-found-clause-kept
returns-in_err-found-clause-kept c = unified_grown c.unify.ensures.unified_by
