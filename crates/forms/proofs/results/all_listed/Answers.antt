use Rattle.state.specs.Records.{fact_rows}
use Rattle.std.proofs.Common.{sym, rules, tests}
use Rattle.std.specs.Prelude.{ℕ, Bool, ◌&&◌}
use Rattle.std.proofs.lemmas.Iterator.{YieldsList-from_slice}
use Rattle.std.proofs.lemmas.Iterator.Search.{all_from_yields_List}
use Rattle.terms.specs.Sets.{holds}
use Rattle.state.specs.Rows.{cell, plain_row}
use Rattle.cells.specs.Chains.{serves_from_slice}
use Rattle.forms.proofs.Covering.{listing_asks, listing_all}
use Rattle.forms.proofs.results.all_listed.Goals as goal

pub all-requires-clause-callable : goal.all-requires-clause-callable
all-requires-clause-callable c = serves_from_slice (λ x q r. search (rules, tests))
    (λ x k l e a b d f g h i j. rw (sym e, c.iter.ensures.rest) (listing_asks c.requires k (rw c.iter.ensures.rest at l)))

pub returns : goal.returns
returns c = λ g hs a e.
    let t = fact_rows c.args.facts.now in
    let p : ℕ → Bool = λ h. plain_row t h && holds c.args.terms.now (cell 6 t h 0) in
    listing_all g hs a c.args.terms.now e
    (all_from_yields_List p _ _ _ c.all.ensures.ran (YieldsList-from_slice c.args.hyps.now c.iter.ensures.rest) (λ x b q k. search (rules, tests)))
