use mathlib.Core.Path.{sym, ◌∙◌}
use borrow.Author.Tests.{eqb-true, eqb-false}
use Rattle.std.proofs.lemmas.Result.{err_from_is_err_and}
use Rattle.kernel.proofs.Handed.{handed}
use Rattle.referring.proofs.Referring.{instance_empty, instance_first, instance_no, instance_rests, instance_opens, opens_asks, rest_given, instance_asks, instance_read, instance_full, instance_unbound}
use Rattle.referring.proofs.source.Source.instance.Goals as goal

pub returns-then-is_empty-clause-referred_as : goal.returns-then-is_empty-clause-referred_as
returns-then-is_empty-clause-referred_as c = λ g. instance_empty g (eqb-true _ 0 (sym c.is_empty.ensures ∙ c.if-is_empty.true))

pub earlier-requires : goal.earlier-requires
earlier-requires c = instance_first c.requires.reads (eqb-false _ 0 (sym c.is_empty.ensures ∙ c.if-is_empty.false))

pub returns-in_err-i-clause-referred_as : goal.returns-in_err-i-clause-referred_as
returns-in_err-i-clause-referred_as c = λ g. rw (handed c.from_residual.result c.from_residual.ensures, c.in_err-i.ensures.0)
    (instance_no g (eqb-false _ 0 (sym c.is_empty.ensures ∙ c.if-is_empty.false)) c.in_err-i.ensures.1)

pub hyps-own-requires : goal.hyps-own-requires
hyps-own-requires c = opens_asks c.requires.reads c.in_ok-i.ensures.1

pub returns-then-own-clause-referred_as : goal.returns-then-own-clause-referred_as
returns-then-own-clause-referred_as c = λ g. instance_rests g (eqb-false _ 0 (sym c.is_empty.ensures ∙ c.if-is_empty.false)) c.in_ok-i.ensures.0
    c.in_ok-i.ensures.1 c.hyps-own.ensures c.if-own.true

pub bindings-requires-clause-reads_items : goal.bindings-requires-clause-reads_items
bindings-requires-clause-reads_items c = rest_given c.requires.reads c.from.ensures

pub judgment-requires : goal.judgment-requires
judgment-requires c = opens_asks c.requires.reads c.in_ok-i.ensures.1

pub substitute-requires : goal.substitute-requires
substitute-requires c =
    let a = instance_asks c.requires.reads (instance_opens c.requires.reads (eqb-false _ 0 (sym c.is_empty.ensures ∙ c.if-is_empty.false)) c.in_ok-i.ensures.0
    c.in_ok-i.ensures.1 c.hyps-own.ensures c.if-own.false) c.from.ensures _ _ _ _ c.in_ok-bindings.ensures.bindings_as c.judgment.ensures c.requires.memo_value in
    record { replaceable = a.0; id_in_bounds = a.1 }

pub returns-in_err-bindings-clause-referred_as : goal.returns-in_err-bindings-clause-referred_as
returns-in_err-bindings-clause-referred_as c = λ g. rw (handed c.from_residual-in_err-bindings.result c.from_residual-in_err-bindings.ensures)
    (instance_unbound g (instance_opens g (eqb-false _ 0 (sym c.is_empty.ensures ∙ c.if-is_empty.false)) c.in_ok-i.ensures.0
    c.in_ok-i.ensures.1 c.hyps-own.ensures c.if-own.false) c.from.ensures _ _ _ _ c.in_err-bindings.ensures.bindings_as)

pub returns-in_err-term-clause-referred_as : goal.returns-in_err-term-clause-referred_as
returns-in_err-term-clause-referred_as c = λ g.
    let p = err_from_is_err_and c.from_residual-in_err-term.result c.from_residual-in_err-term.ensures.1 in
    rw (p.1, p.2) (instance_full g (instance_opens g (eqb-false _ 0 (sym c.is_empty.ensures ∙ c.if-is_empty.false)) c.in_ok-i.ensures.0
    c.in_ok-i.ensures.1 c.hyps-own.ensures c.if-own.false) c.from.ensures _ _ _ _ c.in_ok-bindings.ensures.bindings_as c.judgment.ensures _ _ c.in_err-term.ensures.kept.says)

pub returns-clause-referred_as : goal.returns-clause-referred_as
returns-clause-referred_as c = λ g. instance_read g (instance_opens g (eqb-false _ 0 (sym c.is_empty.ensures ∙ c.if-is_empty.false)) c.in_ok-i.ensures.0
    c.in_ok-i.ensures.1 c.hyps-own.ensures c.if-own.false) c.from.ensures _ _ _ _ c.in_ok-bindings.ensures.bindings_as c.judgment.ensures _ _ c.in_ok-term.ensures.kept.says
