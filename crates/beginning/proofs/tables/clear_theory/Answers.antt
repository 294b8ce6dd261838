use Rattle.kernel.specs.Tables.{lists_of}
use Rattle.beginning.proofs.Blank.{theory_cleared}
use Rattle.beginning.proofs.tables.clear_theory.Goals as goal

pub returns-clause-cleared : goal.returns-clause-cleared
returns-clause-cleared c =
    theory_cleared (lists_of c.args.tables.now) c.requires _ _ _ _ _ _ c.clear.ensures c.clear-2.ensures c.clear-3.ensures c.clear-4.ensures
    c.clear-5.ensures c.clear-6.ensures
