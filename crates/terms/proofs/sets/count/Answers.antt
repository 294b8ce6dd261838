use Rattle.std.proofs.Common.{◌≡◌, ◌∙◌, sum_by, rules}
use Rattle.std.specs.Int.Count.{ones}
use Rattle.std.proofs.iter.runs.Made.{chains}
use Rattle.terms.proofs.SetWords.{count_law}
use Rattle.terms.proofs.sets.count.Goals as goal

pub returns : goal.returns
returns c =
    let e : c.sum.result ≡ sum_by ones c.args.set.now = search (rules, chains) in
    e ∙ count_law _ (λ i. (c.type_inv.set i).fits)
