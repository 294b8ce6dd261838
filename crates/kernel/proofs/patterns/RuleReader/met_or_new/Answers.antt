use native.Mathlib.Omega.{arith}
use Rattle.kernel.proofs.Vars.{vars_rows, var_inside, var_place, var_fits, met_again, met_wrongly, met_full, met_new}
use Rattle.kernel.specs.RuleRows.{var_name}
use Rattle.sexp.specs.FoundLaws.{names_of}
use Rattle.kernel.proofs.patterns.RuleReader.met_or_new.Goals as goal

pub numbered-requires : goal.numbered-requires
numbered-requires c = (names_of var_name c.requires.vs, vars_rows c.requires.held)

pub overflow_mul-had : goal.overflow_mul-had
overflow_mul-had c = omega (arith, var_place c.requires.held _ (var_inside c.requires.held _ _ _ (rw c.of.ensures at c.numbered.ensures) c.in-Some.is), c.well_formed)

pub offset_bounds-self-i : goal.offset_bounds-self-i
offset_bounds-self-i c = omega (arith, var_place c.requires.held _ (var_inside c.requires.held _ _ _ (rw c.of.ensures at c.numbered.ensures) c.in-Some.is), c.well_formed)

pub bounds-self-i : goal.bounds-self-i
bounds-self-i c = var_place c.requires.held _ (var_inside c.requires.held _ _ _ (rw c.of.ensures at c.numbered.ensures) c.in-Some.is)

pub returns-then-had-sort-clause-met : goal.returns-then-had-sort-clause-met
returns-then-had-sort-clause-met c = λ R n h k. met_again c.args.sort R n h k _ (rw c.of.ensures at c.numbered.ensures) _ c.in-Some.is c.if-had-sort.true

pub returns-in-Some-clause-met : goal.returns-in-Some-clause-met
returns-in-Some-clause-met c = λ R n h k. met_wrongly c.args.sort R n h k _ (rw c.of.ensures at c.numbered.ensures) _ c.in-Some.is c.if-had-sort.false

pub returns-then-count-ge-RULEVARS-clause-met : goal.returns-then-count-ge-RULEVARS-clause-met
returns-then-count-ge-RULEVARS-clause-met c = λ R n h k. met_full c.args.sort R n h k _ (rw c.of.ensures at c.numbered.ensures) c.in_default.is c.if-count-ge-RULEVARS.true

pub put_span-requires : goal.put_span-requires
put_span-requires c = var_fits (c.requires) c.if-count-ge-RULEVARS.false

pub returns-clause-met : goal.returns-clause-met
returns-clause-met c = λ R n h k. rw c.put_span.ensures (met_new c.args.sort R n h k _ (rw c.of.ensures at c.numbered.ensures) c.in_default.is c.if-count-ge-RULEVARS.false)
