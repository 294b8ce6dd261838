use Rattle.std.specs.Prelude.{refl}
use Rattle.std.proofs.lemmas.Result.{err_from_is_err_and}
use Rattle.cells.specs.Cleared.{front_cleared}
use Rattle.advancing.proofs.Steps.{read_asks, at_the_end, at_unread, form_asks, used_inside, cleared, form_refused, refused_stay, taken_stay, form_taken}
use Rattle.advancing.proofs.advance.next_form.Goals as goal

pub read_form-requires-clause-legible : goal.read_form-requires-clause-legible
read_form-requires-clause-legible c = read_asks c.requires.ready c.requires.idle

pub returns-in_err-form-clause-advanced : goal.returns-in_err-form-clause-advanced
returns-in_err-form-clause-advanced c =
    let p = err_from_is_err_and c.from_residual.result c.from_residual.ensures.1 in
    λ g. rw (p.1, p.2) ((at_unread g c.requires.idle c.read_form.ensures c.in_err-form.was).0, refl)

pub returns-in_err-form-clause-idle_again : goal.returns-in_err-form-clause-idle_again
returns-in_err-form-clause-idle_again c = (at_unread c.requires.ready c.requires.idle c.read_form.ensures c.in_err-form.was).1

pub returns-in_default-clause-advanced : goal.returns-in_default-clause-advanced
returns-in_default-clause-advanced c =
    let w = c.in_ok-form.was in
    let e = rw c.in_default.is at w in
    λ g. ((at_the_end g c.requires.idle c.read_form.ensures e).0, refl)

pub returns-in_default-clause-idle_again : goal.returns-in_default-clause-idle_again
returns-in_default-clause-idle_again c =
    let w = c.in_ok-form.was in
    let e = rw c.in_default.is at w in
    (at_the_end c.requires.ready c.requires.idle c.read_form.ensures e).1

pub returns-in_err-counts-clause-advanced : goal.returns-in_err-counts-clause-advanced
returns-in_err-counts-clause-advanced c =
    let p = err_from_is_err_and c.from_residual-in_err-counts.result c.from_residual-in_err-counts.ensures.1 in
    let w = c.in_ok-form.was in
    let e = rw c.in-Some.is at w in
    λ g.
    let a = c.in_err-counts.ensures.taken_as (form_asks g c.requires.idle c.read_form.ensures e) in
    rw (p.1, p.2)
    (form_refused g c.requires.idle c.read_form.ensures e c.take_form-taken.new.board c.take_form-taken.new.store _ a, a.2)

pub returns-in_err-counts-clause-stay : goal.returns-in_err-counts-clause-stay
returns-in_err-counts-clause-stay c =
    let w = c.in_ok-form.was in
    let e = rw c.in-Some.is at w in
    refused_stay c.requires.ready c.requires.idle c.read_form.ensures e c.take_form-taken.new.board c.take_form-taken.new.store _
    (c.in_err-counts.ensures.taken_as (form_asks c.requires.ready c.requires.idle c.read_form.ensures e))

pub returns-in_err-counts-clause-idle_again : goal.returns-in_err-counts-clause-idle_again
returns-in_err-counts-clause-idle_again c =
    let w = c.in_ok-form.was in
    let e = rw c.in-Some.is at w in
    let z = c.take_form-taken.ensures.spare_unchanged in
    cleared c.requires.ready c.requires.idle c.read_form.ensures e (front_cleared 0 _ _ (used_inside c.requires.ready c.requires.idle c.read_form.ensures e) c.clear.ensures) z.0 z.1

pub returns-clause-advanced : goal.returns-clause-advanced
returns-clause-advanced c =
    let w = c.in_ok-form.was in
    let e = rw c.in-Some.is at w in
    λ g. form_taken g c.requires.idle c.read_form.ensures e c.take_form-taken.new.board c.take_form-taken.new.store _
    (c.in_ok-counts.ensures.taken_as (form_asks g c.requires.idle c.read_form.ensures e))

pub returns-clause-stay : goal.returns-clause-stay
returns-clause-stay c =
    let w = c.in_ok-form.was in
    let e = rw c.in-Some.is at w in
    taken_stay c.requires.ready c.requires.idle c.read_form.ensures e c.take_form-taken.new.board c.take_form-taken.new.store _
    (c.in_ok-counts.ensures.taken_as (form_asks c.requires.ready c.requires.idle c.read_form.ensures e))

pub returns-clause-idle_again : goal.returns-clause-idle_again
returns-clause-idle_again c =
    let w = c.in_ok-form.was in
    let e = rw c.in-Some.is at w in
    let z = c.take_form-taken.ensures.spare_unchanged in
    cleared c.requires.ready c.requires.idle c.read_form.ensures e (front_cleared 0 _ _ (used_inside c.requires.ready c.requires.idle c.read_form.ensures e) c.clear.ensures) z.0 z.1
