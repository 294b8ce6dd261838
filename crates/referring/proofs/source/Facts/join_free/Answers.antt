use mathlib.Core.Path.{◌∙◌, sym}
use borrow.Author.Tests.{eqb-true}
use Rattle.referring.specs.Laws.ScopeFree.{plain_done, joined}
use Rattle.referring.proofs.source.Facts.join_free.Goals as goal

pub returns-then-is_empty : goal.returns-then-is_empty
returns-then-is_empty c = λ g. plain_done g c.requires.recalls.1 c.general.ensures (eqb-true _ 0 (sym c.is_empty.ensures ∙ c.if-is_empty.true)) (c.mention.ensures g)

pub returns : goal.returns
returns c = λ g. joined c.requires.seen (c.mention_free.ensures g)
