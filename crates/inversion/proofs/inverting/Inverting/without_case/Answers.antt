use native.Mathlib.Omega.{arith}
use Rattle.std.proofs.lemmas.Result.{err_from_is_err_and}
use Rattle.inversion.proofs.InvertLacks.{lack_short, lack_full, lack_room, lack_part, lack_meeting, lack_stopped, lack_found, lack_apart}
use Rattle.inversion.proofs.inverting.Inverting.without_case.Goals as goal

pub make-requires : goal.make-requires
make-requires c =
    let g = c.requires.lacking in
    (g.rule_vars_lem, lack_short g, g.long, g.few)

pub returns-in_err-list-clause-lacked_as : goal.returns-in_err-list-clause-lacked_as
returns-in_err-list-clause-lacked_as c = λ g. let p = err_from_is_err_and c.from_residual.result c.from_residual.ensures.1 in
    rw (p.1, p.2) (lack_full g c.in_err-list.ensures.made_as)

pub slice_bounds-list-end : goal.slice_bounds-list-end
slice_bounds-list-end c =
    let g = c.requires.lacking in
    lack_room g c.in_ok-list.ensures.made_as (omega arith)

pub slice_bounds-own-end : goal.slice_bounds-own-end
slice_bounds-own-end c =
    let g = c.requires.lacking in
    lack_part g c.in_ok-list.ensures.made_as (omega arith)

pub meet-requires-clause-meeting : goal.meet-requires-clause-meeting
meet-requires-clause-meeting c =
    let g = c.requires.lacking in
    lack_meeting g c.in_ok-list.ensures.made_as (omega arith)

pub returns-in_err-meet-clause-lacked_as : goal.returns-in_err-meet-clause-lacked_as
returns-in_err-meet-clause-lacked_as c = λ g.
    let m = lack_meeting g c.in_ok-list.ensures.made_as (omega arith) in
    let p = err_from_is_err_and c.from_residual-in_err-meet.result c.from_residual-in_err-meet.ensures.1 in
    rw (p.1, p.2) (lack_stopped g c.in_ok-list.ensures.made_as (omega arith) (c.in_err-meet.ensures.met_as m).0)

pub returns-in-Some-clause-lacked_as : goal.returns-in-Some-clause-lacked_as
returns-in-Some-clause-lacked_as c = λ g.
    let m = lack_meeting g c.in_ok-list.ensures.made_as (omega arith) in
    lack_found g c.in_ok-list.ensures.made_as (omega arith) _ _ _ _ (c.in_ok-meet.ensures.met_as m) c.in-Some.is

pub returns-in-None-clause-lacked_as : goal.returns-in-None-clause-lacked_as
returns-in-None-clause-lacked_as c = λ g.
    let m = lack_meeting g c.in_ok-list.ensures.made_as (omega arith) in
    lack_apart g c.in_ok-list.ensures.made_as (omega arith) _ _ _ _ (c.in_ok-meet.ensures.met_as m) c.in-None.is
