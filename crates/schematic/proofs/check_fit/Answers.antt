use Rattle.std.proofs.Common.{sym, ◌++◌}
use Rattle.schematic.proofs.Whole.{called_as}
use Rattle.schematic.proofs.check_fit.Goals as goal

pub returns : goal.returns
returns c =
    let t = c.check_long.ensures.same_tables in
    called_as c.requires c.check_long.ensures.filled
    (λ i. c.sorts-1.given.1.1 (sym t.0) i ++ c.split_at_mut-sorts.ensures.back i)
    (λ i. c.symbols-1.given.1.1 (sym t.1) i ++ c.split_at_mut-symbols.ensures.back i)
    (λ i. c.inputs-1.given.1.1 (sym t.2) i ++ c.split_at_mut-inputs.ensures.back i)
    (λ i. c.rules-1.given.1.1 (sym t.3) i ++ c.split_at_mut-rules.ensures.back i)
    (λ i. c.rulevars-1.given.1.1 (sym t.4) i ++ c.split_at_mut-rulevars.ensures.back i)
    (λ i. c.patterns-1.given.1.1 (sym t.5) i ++ c.split_at_mut-patterns.ensures.back i)
