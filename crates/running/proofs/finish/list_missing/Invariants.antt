use Rattle.std.specs.Prelude.{◌≡◌}
use Rattle.rules.specs.Limits.{GOALS}
use Rattle.rules.specs.TheoryTables.{filled}
use Rattle.running.proofs.Missing.{entries}
use Rattle.running.proofs.finish.list_missing.Given as goal

abbrev pub invariant-loop-entry : goal.invariant-loop-entry
invariant-loop-entry l = l.missing ≡ filled GOALS (entries l.yielded)
