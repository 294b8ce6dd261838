use Rattle.std.proofs.Common.{◌∙◌, sym, rules, tests}
use Rattle.std.specs.Prelude.{Bool, ℕ}
use Rattle.std.proofs.lemmas.Iterator.{YieldsList-from_slice}
use Rattle.std.proofs.lemmas.Iterator.Search.{all_from_yields_List}
use Rattle.terms.specs.Sets.{holds}
use Rattle.referring.specs.Recall.{fact_of}
use Rattle.cells.specs.Chains.{serves_from_slice, all_elements}
use Rattle.casework.specs.Context.{rests_by}
use Rattle.casework.proofs.context.Grounds.rests_on_all.Goals as goal

pub all-requires-clause-callable : goal.all-requires-clause-callable
all-requires-clause-callable c = serves_from_slice (λ x q r. search (rules, tests))
    (λ x k l e a b d f g h. (c.requires.0, rw (sym e, c.iter.ensures.rest) (c.requires.1 k (rw c.iter.ensures.rest at l))))

pub returns : goal.returns
returns c = λ g.
    let s = c.args.self.now in
    let p : ℕ → Bool = λ h. rests_by g.trees (fact_of g.S h) h (holds s.plain) (holds s.fine) in
    all_from_yields_List p _ _ _ c.all.ensures.ran (YieldsList-from_slice s.own.now c.iter.ensures.rest) (λ x b q k. search (rules, tests, g))
    ∙ all_elements p s.own.now
