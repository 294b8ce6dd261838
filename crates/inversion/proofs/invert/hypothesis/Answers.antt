use mathlib.Core.Path.{ap}
use mathlib.Core.Bool.{not}
use Rattle.std.proofs.lemmas.Result.{err_from_is_err_and}
use Rattle.inversion.proofs.InvertNaming.{naming_index, naming_missing, naming_fact, naming_other, naming_hyps, naming_stop, naming_read}
use Rattle.inversion.proofs.invert.hypothesis.Goals as goal

pub earlier-requires : goal.earlier-requires
earlier-requires c = naming_index c.requires c.from.ensures

pub returns-in_err-fact : goal.returns-in_err-fact
returns-in_err-fact c = λ g. let p = err_from_is_err_and c.from_residual.result c.from_residual.ensures.1 in
    rw (p.1, p.2) (naming_missing g c.from.ensures c.in_err-fact.ensures)

pub is_plain-requires : goal.is_plain-requires
is_plain-requires c = naming_fact c.requires c.from.ensures c.in_ok-fact.ensures

pub returns-then-not-is_plain : goal.returns-then-not-is_plain
returns-then-not-is_plain c = λ g. naming_other g c.from.ensures c.in_ok-fact.ensures c.is_plain.ensures
    (ap not c.if-not-is_plain.true)

pub any_hyps-requires : goal.any_hyps-requires
any_hyps-requires c = naming_hyps c.requires c.from.ensures c.in_ok-fact.ensures c.is_plain.ensures (ap not c.if-not-is_plain.false) c.from-listed.ensures

pub returns-in_err-hyps : goal.returns-in_err-hyps
returns-in_err-hyps c = λ g. let p = err_from_is_err_and c.from_residual-in_err-hyps.result c.from_residual-in_err-hyps.ensures.1 in
    rw (p.1, p.2) (naming_stop g c.from.ensures c.in_ok-fact.ensures c.is_plain.ensures
    (ap not c.if-not-is_plain.false) c.from-listed.ensures (λ w. (c.in_err-hyps.ensures w).0))

pub returns : goal.returns
returns c = λ g. naming_read g c.from.ensures c.in_ok-fact.ensures c.is_plain.ensures
    (ap not c.if-not-is_plain.false) c.from-listed.ensures c.in_ok-hyps.ensures
