use Rattle.std.proofs.Common.{sym, arith}
use borrow.Author.Tests.{eqb-true, eqb-false}
use Rattle.rules.specs.Index.{digit}
use Rattle.sexp.proofs.IndexLaws.{start, all_read, none_there, no_digit, overflows, more}
use Rattle.sexp.proofs.names.unsigned.Goals as goal

pub returns-then-is_empty : goal.returns-then-is_empty
returns-then-is_empty c = none_there _ (eqb-true _ _ (sym c.if-is_empty.ensures))

pub loop-digit-init : goal.loop-digit-init
loop-digit-init c = start _

pub returns-then-not-is_ascii_digit : goal.returns-then-not-is_ascii_digit
unfolding digit
returns-then-not-is_ascii_digit c = no_digit c.loop-digit.invariant c.loop-digit-test.true (sym c.if-not-is_ascii_digit.ensures.value)

pub returns-in_err-tens : goal.returns-in_err-tens
returns-in_err-tens c = rw c.from_residual.ensures (overflows c.loop-digit.invariant c.loop-digit-test.true (λ h. c.in_err-tens.ensures (omega (arith, h))))

pub returns-in_err-n : goal.returns-in_err-n
returns-in_err-n c = rw c.from_residual-in_err-n.ensures (overflows c.loop-digit.invariant c.loop-digit-test.true (λ h. c.in_err-n.ensures (omega (arith, h, c.from.ensures, c.in_ok-tens.ensures.1))))

pub loop-digit-preserved : goal.loop-digit-preserved
unfolding digit
loop-digit-preserved c =
    more c.loop-digit.invariant c.loop-digit-test.true (sym c.if-not-is_ascii_digit.ensures.value)
    (omega (arith, c.in_ok-n.ensures.1, c.from.ensures, c.in_ok-tens.ensures.1)) (omega (arith, c.in_ok-n.ensures))

pub returns : goal.returns
returns c = all_read c.loop-digit.invariant (eqb-false _ _ (sym c.if-is_empty.ensures)) c.loop-digit-test.false
