use mathlib.Core.Path.{sym, ap, ◌∙◌}
use mathlib.Core.Bool.{Bool, ◌&&◌}
use native.Mathlib.Omega.{arith}
use lib.Dec.{eqb}
use lib.ListN.{get_or}
use borrow.Author.Tests.{lt-ltb}
use Rattle.rules.specs.Theory.{inputs}
use Rattle.reading.proofs.term.takes.Goals as goal

pub returns-then-k-count : goal.returns-then-k-count
returns-then-k-count c = λ T text symbols known h l e.
    ap (eqb c.args.sort) (c.input.ensures.sort T text symbols known h l (omega (arith, e, c.if-k-count.true)))
    ∙ sym (ap (λ (b : Bool). b && eqb c.args.sort (get_or (inputs T c.args.c) c.args.k 0)) (lt-ltb c.args.k c.args.count c.if-k-count.true))
