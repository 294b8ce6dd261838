use Rattle.kernel.proofs.Runs.{run_within, run_laid, run_held}
use Rattle.kernel.proofs.parse.parse_exact.Goals as goal

pub wipe_behind-requires : goal.wipe_behind-requires
wipe_behind-requires c = run_within _ _ _ c.read_and_declare-result.ensures.run

pub returns-clause-patterns_after : goal.returns-clause-patterns_after
returns-clause-patterns_after c = run_laid _ _ _ c.read_and_declare-result.ensures.run c.wipe_behind.ensures.wiped

pub returns-clause-laid_held : goal.returns-clause-laid_held
returns-clause-laid_held c = run_held _ _ _ c.read_and_declare-result.ensures.run
