use Rattle.std.proofs.Common.{sym, ◌∙◌}
use mathlib.Core.Bool.{true≢false}
use Rattle.kernel.specs.Parsed.{theory_lists}
use Rattle.running.specs.Lent.{working}
use Rattle.schematic.proofs.Whole.{short}
use Rattle.schematic.proofs.check.Goals as goal

pub returns-then-not-fit : goal.returns-then-not-fit
returns-then-not-fit c =
    short c.args.theory.now c.args.goals.now c.args.proof.now
    (theory_lists c.args.sorts.now c.args.symbols.now c.args.inputs.now c.args.rules.now c.args.rulevars.now c.args.patterns.now)
    (working c.args.vars.now c.args.index.now c.args.words.now c.args.defs.now c.args.rows.now c.args.lists.now) c.args.missing.now c.args.facts.now
    (λ a. absurd (true≢false (sym (c.fit.ensures.1 a) ∙ c.if-not-fit.true)))
