-- An argument has a smaller number, so the calls end.
use Rattle.terms.specs.Table.{Below}
use Rattle.terms_main.proofs.ShownDisplay.+fmt.Given as goal

abbrev pub decreases-fmt : goal.decreases-fmt
decreases-fmt g l = l.self.now.1

abbrev pub invariant-loop-arg : goal.invariant-loop-arg
invariant-loop-arg g l = Below l.self.1 l.arg-items
