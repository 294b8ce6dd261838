use Rattle.std.proofs.Common.{sym, ◌++◌}
use Rattle.kernel.specs.Parsed.{theory_lists}
use Rattle.stepping.proofs.Fronts.{started_as}
use Rattle.stepping.proofs.begin.begin_fit.Goals as goal

pub returns-clause-started : goal.returns-clause-started
returns-clause-started c =
    let t = c.begin_long.ensures.same_tables in
    started_as (theory_lists c.args.sorts.now c.args.symbols.now c.args.inputs.now c.args.rules.now c.args.rulevars.now c.args.patterns.now)
    c.begin_long.ensures.opened
    (λ i. c.sorts-1.given.1.1 (sym t.0) i ++ c.split_at_mut-sorts.ensures.back i)
    (λ i. c.symbols-1.given.1.1 (sym t.1) i ++ c.split_at_mut-symbols.ensures.back i)
    (λ i. c.inputs-1.given.1.1 (sym t.2) i ++ c.split_at_mut-inputs.ensures.back i)
    (λ i. c.rules-1.given.1.1 (sym t.3) i ++ c.split_at_mut-rules.ensures.back i)
    (λ i. c.rulevars-1.given.1.1 (sym t.4) i ++ c.split_at_mut-rulevars.ensures.back i)
    (λ i. c.patterns-1.given.1.1 (sym t.5) i ++ c.split_at_mut-patterns.ensures.back i)
