use native.Mathlib.Omega.{arith}
use mathlib.Core.Path.{refl, ◌∙◌}
use Rattle.std.proofs.lemmas.Result.{err_from_is_err_and}
use Rattle.terms.specs.Laws.Answers.{after_term, after_full}
use Rattle.terms.specs.Laws.Bound.{cells_zeros}
use Rattle.inversion.proofs.InvertKeeps.{vars_start, vars_over, vars_full, vars_bound}
use Rattle.inversion.proofs.meeting.keep_vars.Goals as goal

pub loop-k-init : goal.loop-k-init
loop-k-init c = (vars_start _ c.requires.0 (cells_zeros _), (refl, refl))

pub keep_var-requires : goal.keep_var-requires
keep_var-requires c = (c.loop-k.invariant.0.on.grown.good, c.requires.1 c.loop-k.k c.loop-k-test.true)

pub returns-in_err-term-clause-kept_as : goal.returns-in_err-term-clause-kept_as
returns-in_err-term-clause-kept_as c = let p = err_from_is_err_and c.from_residual.result c.from_residual.ensures.1 in
    rw (p.1, p.2) (vars_full c.loop-k.invariant.0 c.requires.2 c.loop-k-test.true (after_full c.keep_var.ensures.kept c.in_err-term.was))

pub overflow_cast-bound : goal.overflow_cast-bound
overflow_cast-bound c = let s = after_term c.keep_var.ensures.kept c.in_ok-term.was in omega (arith, s.there, s.grown.good.room)

pub loop-k-preserved : goal.loop-k-preserved
loop-k-preserved c = (
  vars_bound c.loop-k.bound c.loop-k.invariant.0 c.requires.2 c.loop-k-test.true (after_term c.keep_var.ensures.kept c.in_ok-term.was),
  (c.in_ok-term.ensures.same_tables.0 ∙ c.loop-k.invariant.1.0, c.in_ok-term.ensures.same_tables.1 ∙ c.loop-k.invariant.1.1),
)

pub returns-clause-kept_as : goal.returns-clause-kept_as
returns-clause-kept_as c = vars_over c.loop-k.invariant.0 c.loop-k-test.false
