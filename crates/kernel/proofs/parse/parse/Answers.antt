use Rattle.kernel.specs.Tables.{lists_of}
use Rattle.kernel.specs.Parsed.{theory_of, verdict}
use Rattle.kernel.specs.Layout.{laid_longer}
use Rattle.kernel.proofs.parse.parse.Goals as goal

pub returns-clause-patterns_after : goal.returns-clause-patterns_after
returns-clause-patterns_after c = laid_longer (lists_of c.args.tables.now) (theory_of (verdict c.args.text.now)) _ _ _ _ _ _ c.parse_parts.ensures.patterns_after
