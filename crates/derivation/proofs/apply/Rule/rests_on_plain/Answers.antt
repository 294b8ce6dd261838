use Rattle.state.specs.Records.{fact_rows}
use Rattle.std.proofs.Common.{◌≡◌, sym, rules, tests, true, false, ℕ}
use Rattle.std.proofs.lemmas.Iterator.{cases_from_all, YieldsList-from_slice}
use Rattle.cells.specs.Chains.{serves_from_slice, all_is}
use Rattle.state.specs.Rows.{plain_row}
use Rattle.derivation.proofs.RuleFacts.{hyp_asks, hyps_plain}
use Rattle.derivation.proofs.apply.Rule.rests_on_plain.Goals as goal

pub all-requires-clause-callable : goal.all-requires-clause-callable
all-requires-clause-callable c = serves_from_slice (λ x q r. search (rules, tests))
    (λ x k l e a b d f g h i j. rw (sym e, c.iter.ensures.rest) (hyp_asks c.hyps-hyps.ensures c.requires k (rw c.iter.ensures.rest at l)))

pub returns : goal.returns
returns c = λ g.
    let p = plain_row (fact_rows c.args.facts.now.records.now) in
    hyps_plain c.hyps-hyps.ensures g (all_is p c.hyps-hyps.result.now c.all.result
    (cases_from_all _ _ _ (λ (x : ℕ). p x ≡ true) (λ (x : ℕ). p x ≡ false) c.all.ensures.ran
    (YieldsList-from_slice c.hyps-hyps.result.now c.iter.ensures.rest) (λ x q k. search (rules, tests)) (λ x q k. search (rules, tests))))
