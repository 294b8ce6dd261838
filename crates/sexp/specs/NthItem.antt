-- Laws for those who take items by number, of cells that hold a list: what `count`, `place` and `nth` ask, what their answers say of the
-- item, and the rest from an item on as a part of the cells. Assumes nothing.
use Rattle.std.specs.Prelude.{◌≡◌, ℕ, ◌-◌, ◌<◌, ◌≤◌, List, length, take, drop}
use Rattle.std.proofs.Common.{arith}
use Rattle.rules.specs.Sexp.{Sexps, count, item, rest}
use Rattle.sexp.specs.Encode.{encodes}
use Rattle.sexp.specs.Items.{Holds, Items, Reaches, item_of, place}
use Rattle.sexp.specs.ItemLaws.{place_most, place_room}
use Rattle.sexp.specs.WalkLaws.{ListIs, nth_atom, nth_list, part_shorter, rest_walk, walk_rest, spells_item}
use Rattle.sexp.specs.AtomText.{AtomText, text_of}
use Rattle.sexp.specs.FirstItem.{SomeItem}
use Rattle.sexp.specs.declared.items.Item.{Item}
use Rattle.sexp.specs.declared.items.Item.TheVariants.{Atom, List as Part}

module _ {text cells : List ℕ} {xs : Sexps} (h : Holds text cells xs) where
  -- what `count` and `place` ask
  pub has_items : Items cells
  has_items = (xs, h.cells)

  pub reaches : {k : ℕ} → k < count xs → Reaches cells k
  reaches l = (xs, h.cells, l)

  -- The rest, from where `place` says ----------------------------------------------------------------------------------------------

  module _ (k : ℕ) {at : ℕ} (a : (ys : Sexps) → cells ≡ encodes ys → at ≡ place ys k) where
    pub place_high : at ≤ length cells
    place_high = omega (arith, a xs h.cells, place_most xs k h.cells)

    pub rest_holds : Holds text (take (length cells - at) (drop at cells)) (rest xs k)
    rest_holds = walk_rest (rest_walk h k at (a xs h.cells))

    pub place_there : k < count xs → at < length cells
    place_there l = omega (arith, a xs h.cells, place_room xs k h.cells l)

  -- The item that `nth` gives ------------------------------------------------------------------------------------------------------

  module _ (k : ℕ) {r : Item} (a : (ys : Sexps) → cells ≡ encodes ys → r ≡ item_of (place ys k) (item ys k)) where
    pub nth_item : SomeItem text r
    nth_item = (item xs k, place xs k, a xs h.cells, spells_item h k)

    pub nth_text : {p : ℕ} → r ≡ Atom p → AtomText text (item xs k) p
    nth_text f = text_of (nth_atom h k (a xs h.cells) f)

    module _ (l : k < count xs) {start end : ℕ} (f : r ≡ Part start end) where
      pub nth_part : ListIs text cells (item xs k) start end
      nth_part = nth_list h k (a xs h.cells) l f

      pub nth_shorter : length (take (end - start) (drop start cells)) < length cells
      nth_shorter = part_shorter nth_part
