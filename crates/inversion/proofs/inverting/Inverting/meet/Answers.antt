use Rattle.std.proofs.lemmas.Result.{err_from_is_err_and}
use Rattle.inversion.proofs.InvertMeets.{meet_keeps, meet_unkept, meet_stands, meet_buildable, meet_unbuilt, meet_unifiable, meet_full, meet_done, meet_apart, zero_again}
use Rattle.inversion.proofs.inverting.Inverting.meet.Goals as goal

pub keep_vars-requires : goal.keep_vars-requires
keep_vars-requires c = meet_keeps c.requires.meeting

pub returns-in_err-bound-clause-met_as : goal.returns-in_err-bound-clause-met_as
returns-in_err-bound-clause-met_as c = λ g. let p = err_from_is_err_and c.from_residual.result c.from_residual.ensures.1 in
    rw (p.1, p.2) (meet_unkept g c.in_err-bound.ensures.kept_as, c.requires.empty.0)

pub build-requires : goal.build-requires
build-requires c = let g = c.requires.meeting in
    rw c.patterns-patterns.ensures (meet_buildable g c.in_ok-bound.ensures.kept_as (c.conclusion-at.ensures g.T _ g.formed g.known))

pub returns-in_err-built-clause-met_as : goal.returns-in_err-built-clause-met_as
returns-in_err-built-clause-met_as c = λ g.
    let at = c.conclusion-at.ensures g.T _ g.formed g.known in
    let kept = c.in_ok-bound.ensures.kept_as in
    let p = err_from_is_err_and c.from_residual-in_err-built.result c.from_residual-in_err-built.ensures.1 in
    rw (p.1, p.2) (meet_unbuilt g kept at (c.in_err-built.ensures.built _ (rw c.patterns-patterns.ensures (meet_stands g kept at))).says, c.requires.empty.0)

pub unify-requires : goal.unify-requires
unify-requires c =
    let g = c.requires.meeting in
    let at = c.conclusion-at.ensures g.T _ g.formed g.known in
    let kept = c.in_ok-bound.ensures.kept_as in
    meet_unifiable g kept at (c.in_ok-built.ensures.built _ (rw c.patterns-patterns.ensures (meet_stands g kept at))).says c.requires.empty.0 c.requires.empty.1

pub returns-in_err-unify-clause-met_as : goal.returns-in_err-unify-clause-met_as
returns-in_err-unify-clause-met_as c = λ g.
    let at = c.conclusion-at.ensures g.T _ g.formed g.known in
    let kept = c.in_ok-bound.ensures.kept_as in
    let p = err_from_is_err_and c.from_residual-in_err-unify.result c.from_residual-in_err-unify.ensures.1 in
    let u = c.in_err-unify.ensures.unified_by.says in
    rw (p.1, p.2) (meet_full g kept at (c.in_ok-built.ensures.built _ (rw c.patterns-patterns.ensures (meet_stands g kept at))).says u.0, zero_again u.1 u.2)

pub returns-clause-met_as : goal.returns-clause-met_as
returns-clause-met_as c = λ g.
    let at = c.conclusion-at.ensures g.T _ g.formed g.known in
    let kept = c.in_ok-bound.ensures.kept_as in
    meet_done g kept at (c.in_ok-built.ensures.built _ (rw c.patterns-patterns.ensures (meet_stands g kept at))).says _ _ _ _ c.in_ok-unify.ensures.unified_by.says c.if-not-branch.false

pub returns-then-not-branch-clause-met_as : goal.returns-then-not-branch-clause-met_as
returns-then-not-branch-clause-met_as c = λ g.
    let at = c.conclusion-at.ensures g.T _ g.formed g.known in
    let kept = c.in_ok-bound.ensures.kept_as in
    meet_apart g kept at (c.in_ok-built.ensures.built _ (rw c.patterns-patterns.ensures (meet_stands g kept at))).says _ _ _ _ c.in_ok-unify.ensures.unified_by.says c.if-not-branch.true
