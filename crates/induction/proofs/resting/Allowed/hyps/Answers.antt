use Rattle.std.proofs.Common.{◌∙◌, ap, sym, rules, tests}
use Rattle.std.specs.Prelude.{Bool, ℕ}
use Rattle.std.proofs.lemmas.Iterator.{YieldsList-from_slice}
use Rattle.std.proofs.lemmas.Iterator.Search.{all_from_yields_List}
use Rattle.rules.specs.Find.{all}
use Rattle.cells.specs.Chains.{serves_from_slice, all_elements}
use Rattle.induction.proofs.Allowed.{asked, hyps_are, hyps_there}
use Rattle.induction.proofs.resting.Allowed.hyps.Goals as goal

pub all-requires-clause-callable : goal.all-requires-clause-callable
all-requires-clause-callable c = serves_from_slice (λ x q r. search (rules, tests))
    (λ x k l e a b d f g h. (c.requires.0, rw (sym e, c.iter.ensures.rest) (hyps_there c.requires.0 _ c.requires.1 c.hyps-hyps.ensures k (rw c.iter.ensures.rest at l))))

pub returns : goal.returns
returns c = λ g.
    let p : ℕ → Bool = asked g c.args.i c.requires.1 in
    all_from_yields_List p _ _ _ c.all.ensures.ran (YieldsList-from_slice c.hyps-hyps.result.now c.iter.ensures.rest) (λ x b q k. search (rules, tests, g))
    ∙ all_elements p c.hyps-hyps.result.now
    ∙ ap (all p) (hyps_are g c.args.i c.requires.1 c.hyps-hyps.ensures)
