use mathlib.Core.Path.{sym}
use Rattle.kernel.proofs.Handed.{handed}
use Rattle.kernel.proofs.Words.{atomic_marked, atomic_stopped, atomic_made}
use Rattle.kernel.proofs.patterns.RuleReader.atomic.Goals as goal

pub returns-then-marked-clause-read : goal.returns-then-marked-clause-read
returns-then-marked-clause-read c = λ T ins h R k. atomic_marked c.args.self.now.known.text.now c.args.start c.args.sort T R (sym c.if-marked.ensures) _ _ _ _ _ _
    c.variable.result (c.variable.ensures.read R k)

pub returns-in_err-constructor-clause-read : goal.returns-in_err-constructor-clause-read
returns-in_err-constructor-clause-read c = λ T ins h R k.
    rw (handed c.from_residual.result c.from_residual.ensures)
    (atomic_stopped c.args.self.now.known.text.now c.args.start c.args.sort T R (sym c.if-marked.ensures) _ _ _
    (rw c.atom.ensures at (c.in_err-constructor.ensures.head T ins h R k.words)))

pub returns-clause-read : goal.returns-clause-read
returns-clause-read c = λ T ins h R k.
    rw (c.in_ok-constructor.ensures.same_vars.vars, c.in_ok-constructor.ensures.same_vars.count)
    (atomic_made c.args.self.now.known.text.now c.args.start c.args.sort T R (sym c.if-marked.ensures) _ _ _
    (rw c.atom.ensures at (c.in_ok-constructor.ensures.head T ins h R k.words)) k)
