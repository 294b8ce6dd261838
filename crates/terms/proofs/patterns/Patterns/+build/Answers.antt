use native.Mathlib.Omega.{arith}
use lib.ListN.{length-set}
use lib.Seq.{length-take-le}
use Rattle.std.proofs.Common.{refl, sym, ◌∙◌, ◌∷◌, ◌+◌, ◌-◌, replicate, get_or}
use Rattle.std.proofs.lemmas.Result.{err_from_is_err_and}
use Rattle.rules.specs.Limits.{NODE}
use Rattle.terms.proofs.Matches.{reads_in}
use Rattle.terms.proofs.BuildTerms.{filling_on, part_long, variable_in, build_refused, build_known, building_few, building_begins, building_asks, building_falls, building_stops, built_there, node_ready, building_done, building_full}
use Rattle.terms.proofs.patterns.Patterns.+build.Goals as goal

pub offset_bounds-self-at : goal.offset_bounds-self-at
offset_bounds-self-at t c = omega (arith, reads_in _ _ _ c.requires.reads)

pub bounds-self-at : goal.bounds-self-at
bounds-self-at t c = reads_in _ _ _ c.requires.reads

pub bounds-bound-v : goal.bounds-bound-v
bounds-bound-v t c = rw c.in-Variable.ensures.0 (variable_in _ _ _ _ _ _ _ c.requires c.in-Variable.ensures.1)

pub returns-in_err-known-in-Variable-clause-built : goal.returns-in_err-known-in-Variable-clause-built
returns-in_err-known-in-Variable-clause-built t c = let p = err_from_is_err_and c.from_residual.result c.from_residual.ensures.1 in rw (p.1, p.2) (build_refused _ _ _ _ _ _ _ c.requires c.in-Variable.ensures.1 _ _ (sym (rw c.in-Variable.ensures.0 at c.ok_or.ensures.value) ∙ c.in_err-known-in-Variable.was))

pub returns-in-Variable-clause-built : goal.returns-in-Variable-clause-built
returns-in-Variable-clause-built t c = build_known _ _ _ _ _ _ _ c.requires c.in-Variable.ensures.1 _ _ (sym (rw c.in-Variable.ensures.0 at c.ok_or.ensures.value) ∙ c.in_ok-known-in-Variable.was)

pub overflow_add-place : goal.overflow_add-place
overflow_add-place t c = omega (arith, reads_in _ _ _ c.requires.reads)

pub loop-cell-init : goal.loop-cell-init
loop-cell-init t c = record { same = (refl, refl); building = building_begins _ _ _ _ _ _ _ c.requires c.in-Symbol.ensures.1 _ (rw c.in-Symbol.ensures.0 at c.arity_of-count.ensures) _ (part_long (get_or c.args.self.now.words.now c.args.at 0 ∷ replicate (NODE - 1) 0) (c.arity_of-count.result + 1 - 1)) refl; filled = length-take-le _ _ (omega (arith, building_few _ _ _ _ _ _ _ c.requires c.in-Symbol.ensures.1 _ (rw c.in-Symbol.ensures.0 at c.arity_of-count.ensures))) }

pub build-requires : goal.build-requires
build-requires t c = (omega (arith, building_falls _ _ _ _ _ _ _ _ _ _ _ _ _ _ _ c.loop-cell.invariant.building (omega (arith, c.loop-cell-test.true, c.loop-cell.invariant.filled))), building_asks _ _ _ _ _ _ _ _ _ _ _ _ _ _ _ c.loop-cell.invariant.building (omega (arith, c.loop-cell-test.true, c.loop-cell.invariant.filled)))

pub returns-in_err-arg-clause-built : goal.returns-in_err-arg-clause-built
returns-in_err-arg-clause-built t c = let p = err_from_is_err_and c.from_residual-in_err-arg.result c.from_residual-in_err-arg.ensures.1 in rw (p.1, p.2) (building_stops _ _ _ _ _ _ _ _ _ _ _ _ _ _ _ c.loop-cell.invariant.building (omega (arith, c.loop-cell-test.true, c.loop-cell.invariant.filled)) _ _ _ _ c.in_err-arg.ensures.built)

pub overflow_cast-cell : goal.overflow_cast-cell
overflow_cast-cell t c = omega (arith, built_there _ _ _ _ _ _ _ _ _ _ _ _ _ _ _ c.loop-cell.invariant.building (omega (arith, c.loop-cell-test.true, c.loop-cell.invariant.filled)) _ _ _ _ c.in_ok-arg.ensures.built)

pub loop-cell-preserved : goal.loop-cell-preserved
loop-cell-preserved t c = record { same = (c.build.ensures.same_tables.0 ∙ c.loop-cell.invariant.same.0, c.build.ensures.same_tables.1 ∙ c.loop-cell.invariant.same.1); building = filling_on _ _ _ _ _ _ _ _ _ _ _ _ (replicate (NODE - 1) 0) c.loop-cell.cell-items (c.arity_of-count.result + 1 - 1) _ _ _ c.loop-cell.invariant.building (omega (arith, c.loop-cell-test.true, c.loop-cell.invariant.filled)) (omega (arith, c.loop-cell-test.true, c.loop-cell.invariant.filled)) _ _ _ _ c.in_ok-arg.ensures.built; filled = length-set _ _ _ ∙ c.loop-cell.invariant.filled }

pub keep-requires-clause-node : goal.keep-requires-clause-node
keep-requires-clause-node t c = node_ready _ _ _ _ _ _ _ _ _ _ _ _ _ _ _ c.loop-cell.invariant.building (omega (arith, c.loop-cell-test.false, c.loop-cell.invariant.filled))

pub returns-in_err-term-clause-built : goal.returns-in_err-term-clause-built
returns-in_err-term-clause-built t c = let p = err_from_is_err_and c.from_residual-in_err-term.result c.from_residual-in_err-term.ensures.1 in rw (p.1, p.2) (building_full _ _ _ _ _ _ _ _ _ _ _ _ _ _ _ c.loop-cell.invariant.building (omega (arith, c.loop-cell-test.false, c.loop-cell.invariant.filled)) _ _ _ _ c.in_err-term.ensures.kept.says)

pub returns-clause-built : goal.returns-clause-built
returns-clause-built t c = building_done _ _ _ _ _ _ _ _ _ _ _ _ _ _ _ c.loop-cell.invariant.building (omega (arith, c.loop-cell-test.false, c.loop-cell.invariant.filled)) _ _ _ _ c.in_ok-term.ensures.kept.says

pub overflow_add-cell-items : goal.overflow_add-cell-items
overflow_add-cell-items t c = omega (arith, building_few _ _ _ _ _ _ _ c.requires c.in-Symbol.ensures.1 _ (rw c.in-Symbol.ensures.0 at c.arity_of-count.ensures))

pub slice_bounds-node-end : goal.slice_bounds-node-end
slice_bounds-node-end t c = omega (arith, building_few _ _ _ _ _ _ _ c.requires c.in-Symbol.ensures.1 _ (rw c.in-Symbol.ensures.0 at c.arity_of-count.ensures))
