use mathlib.Core.Path.{refl, sym, ◌∙◌}
use Rattle.terms.specs.Laws.Tables.{shaped_some}
use Rattle.terms.specs.Laws.Terms.{head_tree}
use Rattle.terms.proofs.Arguments.{word_head}
use Rattle.inversion.proofs.InvertRounds.{predicate_symbol, predicate_none}
use Rattle.inversion.proofs.turning.predicate_of.Goals as goal

pub bounds-node-0 : goal.bounds-node-0
bounds-node-0 c = shaped_some c.args.s (rw c.node.ensures (c.requires.0.shaped c.args.s c.requires.1))

pub returns-in-Symbol : goal.returns-in-Symbol
returns-in-Symbol c = predicate_symbol c.requires.0 c.requires.1
    (λ m g l. c.in-Symbol.ensures.0 ∙ word_head _ _ m _ g l _ c.node.ensures ∙ head_tree _ _ m g _ l _ refl) (rw (sym c.in-Symbol.ensures.0) at c.in-Symbol.ensures.1)

pub returns-in-Variable : goal.returns-in-Variable
returns-in-Variable c = predicate_none c.requires.0 c.requires.1
    (λ m g l. word_head _ _ m _ g l _ c.node.ensures ∙ head_tree _ _ m g _ l _ refl) c.in-Variable.ensures.1
