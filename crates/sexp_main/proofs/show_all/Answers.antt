use Rattle.std.proofs.Common.{◌≡◌, Ok, Some}
use Rattle.sexp_main.proofs.Forms as forms
use Rattle.sexp_main.proofs.show_all.Goals as goal

pub invariant_of-show : goal.invariant_of-show
invariant_of-show g c =
    let form = c.in-Ok-Some.form in
    let read : c.read_form.result ≡ Ok (Some form) = cc in
    record { held = forms.held c.loop-form.invariant c.read_form.ensures read }

pub loop-form-preserved : goal.loop-form-preserved
loop-form-preserved g c =
    let form = c.in-Ok-Some.form in
    let read : c.read_form.result ≡ Ok (Some form) = cc in
    forms.next c.loop-form.invariant c.read_form.ensures read c.read_form.auto.words c.clear.ensures
