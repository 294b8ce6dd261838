use Rattle.std.proofs.Common.{arith}
use Rattle.sexp.proofs.Lists.{list_room, list_none, list_got}
use Rattle.sexp.proofs.items.list.Goals as goal

pub returns-then-words-at : goal.returns-then-words-at
returns-then-words-at c = λ text xs h l. absurd (omega (arith, list_room _ _ c.place-at.ensures h l, c.if-words-at.true))

pub returns-in_default : goal.returns-in_default
returns-in_default c = λ text xs h l. list_none _ _ c.place-at.ensures h l c.item_at.ensures c.in_default.is

pub returns : goal.returns
returns c = λ text xs h l. list_got _ _ c.place-at.ensures h l c.item_at.ensures c.in-List.is c.get.result c.get.ensures.lookup
