use mathlib.Core.Path.{refl, ◌∙◌}
use Rattle.terms.specs.Laws.Tables.{shaped_some}
use Rattle.terms.specs.Laws.Terms.{head_tree}
use Rattle.terms.proofs.Arguments.{word_head}
use Rattle.reading.proofs.Leaves.{sort_place, sort_app, sort_asks, sort_var}
use Rattle.reading.proofs.reader.Reader.sort_of.Goals as goal

pub bounds-node-0 : goal.bounds-node-0
bounds-node-0 c = shaped_some c.args.id (rw c.node.ensures (c.requires.good.shaped c.args.id c.requires.there))

pub bounds-self-c : goal.bounds-self-c
bounds-self-c c = rw c.in-Symbol.ensures.0 (sort_place c.requires _ (λ m g l. word_head _ _ m _ g l _ c.node.ensures ∙ head_tree _ _ m g _ l _ refl) c.in-Symbol.ensures.1)

pub returns-in-Symbol : goal.returns-in-Symbol
returns-in-Symbol c = λ g. rw c.in-Symbol.ensures.0 (sort_app g _ (λ m g l. word_head _ _ m _ g l _ c.node.ensures ∙ head_tree _ _ m g _ l _ refl) c.in-Symbol.ensures.1)

pub var_sort-requires : goal.var_sort-requires
var_sort-requires c = rw c.in-Variable.ensures.0 (sort_asks c.requires _ (λ m g l. word_head _ _ m _ g l _ c.node.ensures ∙ head_tree _ _ m g _ l _ refl) c.in-Variable.ensures.1)

pub returns-in-Variable : goal.returns-in-Variable
returns-in-Variable c = λ g. sort_var g _ (λ m g l. word_head _ _ m _ g l _ c.node.ensures ∙ head_tree _ _ m g _ l _ refl) c.in-Variable.ensures.1 (rw c.in-Variable.ensures.0 at c.var_sort.ensures)
