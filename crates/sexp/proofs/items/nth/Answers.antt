use Rattle.sexp.proofs.Tallies.{nth_inside, nth_is}
use Rattle.sexp.proofs.items.nth.Goals as goal

pub item_at-requires : goal.item_at-requires
item_at-requires c = nth_inside (c.requires) _ c.place-at.ensures

pub returns : goal.returns
returns c = nth_is _ _ c.place-at.ensures (nth_inside (c.requires) _ c.place-at.ensures) c.item_at.ensures
