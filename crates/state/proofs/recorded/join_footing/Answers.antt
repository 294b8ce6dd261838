use mathlib.Core.Path.{◌≡◌, ap, ◌∙◌}
use borrow.Author.Rules.{rules}
use lib.ListN.{length}
use Rattle.rules.specs.Find.{union}
use Rattle.terms.specs.Sets.{holds}
use Rattle.state.proofs.Cells.{below, words_are}
use Rattle.state.proofs.recorded.join_footing.Goals as goal

pub fact_at-requires : goal.fact_at-requires
fact_at-requires c = below c.args.facts.now c.args.i c.requires

pub returns : goal.returns
returns c =
    let four : length c.fact_at.result.footing ≡ 4 = search rules in
    c.union_into.ensures ∙ ap (λ l. union (holds c.args.set.now) (holds l)) (words_are c.args.facts.now c.args.i c.requires c.fact_at.ensures four)
