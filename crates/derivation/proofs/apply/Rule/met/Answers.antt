use mathlib.Core.Path.{◌∙◌}
use Rattle.std.proofs.lemmas.Result.{err_from_is_err_and}
use Rattle.kernel.proofs.Handed.{handed}
use Rattle.derivation.proofs.Meeting.{blank_memo, met_replaceable, met_given, met_other, met_this, met_refused, met_full}
use Rattle.derivation.proofs.apply.Rule.met.Goals as goal

pub substitute-requires : goal.substitute-requires
substitute-requires c =
    let r = met_replaceable c.requires.reads c.requires.theta.0 c.requires.theta.1 in
    record { replaceable = r; id_in_bounds = blank_memo r c.requires.theta.2 }

pub returns-in_err-under-clause-referred_as : goal.returns-in_err-under-clause-referred_as
returns-in_err-under-clause-referred_as c = λ g. let p = err_from_is_err_and c.from_residual.result c.from_residual.ensures.1 in
    rw (p.1, p.2) (met_full g c.requires.theta.0 c.requires.theta.1 _ _ c.in_err-under.ensures.kept.says)

pub reference-requires : goal.reference-requires
reference-requires c = record {
  reads = met_given c.requires.reads c.requires.theta.0 c.requires.theta.1 _ _ c.in_ok-under.ensures.kept.says;
  memo_value = c.substitute.ensures.memo_unchanged ∙ c.requires.theta.2;
}

pub returns-in_err-referred-clause-referred_as : goal.returns-in_err-referred-clause-referred_as
returns-in_err-referred-clause-referred_as c = λ g. rw (handed c.from_residual-in_err-referred.result c.from_residual-in_err-referred.ensures)
    (met_refused g c.requires.theta.0 c.requires.theta.1 _ _ c.in_ok-under.ensures.kept.says _ _ c.in_err-referred.ensures.referred_as)

pub returns-then-referred-under-clause-referred_as : goal.returns-then-referred-under-clause-referred_as
returns-then-referred-under-clause-referred_as c = λ g. met_other g c.requires.theta.0 c.requires.theta.1 _ _ c.in_ok-under.ensures.kept.says _ _
    c.in_ok-referred.ensures.referred_as c.if-referred-under.true

pub returns-clause-referred_as : goal.returns-clause-referred_as
returns-clause-referred_as c = λ g. met_this g c.requires.theta.0 c.requires.theta.1 _ _ c.in_ok-under.ensures.kept.says _ _
    c.in_ok-referred.ensures.referred_as c.if-referred-under.false
