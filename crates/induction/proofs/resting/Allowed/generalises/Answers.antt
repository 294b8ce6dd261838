use native.Mathlib.Omega.{arith}
use Prim.Native.Nat.{◌<◌}
use Rattle.rules.specs.Limits.{VARIABLES}
use Rattle.std.proofs.Common.{◌∙◌, sym, rules, tests}
use Rattle.std.proofs.lemmas.Iterator.{YieldsList-from_slice}
use Rattle.std.proofs.lemmas.Iterator.Search.{all_from_yields_List}
use Rattle.terms.specs.Sets.{holds}
use Rattle.cells.specs.Chains.{serves_from_slice, all_elements}
use Rattle.induction.proofs.Rests.{other}
use Rattle.induction.proofs.resting.Allowed.generalises.Goals as goal

pub all-requires-clause-callable : goal.all-requires-clause-callable
all-requires-clause-callable c = serves_from_slice (λ x q r. search (rules, tests))
    (λ x k l e a b d f g h i. let low : x.now < VARIABLES = rw (sym e, c.iter.ensures.rest) (c.requires k (rw c.iter.ensures.rest at l)) in omega (arith, low))

pub returns : goal.returns
returns c =
    all_from_yields_List (other (holds c.args.self.now.used.now) c.args.self.now.x) _ _ _ c.all.ensures.ran (YieldsList-from_slice c.args.own.now c.iter.ensures.rest)
    (λ x b q k. search (rules, tests))
    ∙ all_elements _ c.args.own.now
