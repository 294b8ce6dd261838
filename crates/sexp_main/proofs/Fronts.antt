-- What the item in front of some items says of their cells. Assumes nothing.
use Rattle.std.proofs.Common.{◌≡◌, ℕ, ◌-◌, ◌≤◌, ◌<◌, List, length, take, drop, arith}
use Rattle.std.proofs.Math.Logic.{∥∥₁_map, ∥∥₁_elim}
use Rattle.std.proofs.Props.{props}
use Rattle.rules.specs.Sexp.{cons}
use Rattle.sexp.specs.Items.{Held, item_at}
use Rattle.sexp.specs.ItemLaws.{More}
use Rattle.sexp.specs.WalkLaws.{Walk, walk_start, walk_more, walk_rest, walk_atom, walk_list, past_atom, past_list, list_on}
use Rattle.sexp.specs.declared.items.Item.{Item}
use Rattle.sexp.specs.declared.items.Item.TheVariants.{Atom, List as Part}

module _ {text words : List ℕ} (some : 0 < length words) {r : Item} (e : r ≡ item_at words 0) where
  module _ (h : Held text words) where
    more : More h.0
    more = walk_more (walk_start h.1) some

    here : Walk text words 0 (cons more.first more.others)
    here = let w : Walk text words 0 h.0 = walk_start h.1 in rw more.is at w

  module _ (h : ∥ Held text words ∥₁) where
    module _ {p : ℕ} (f : r ≡ Atom p) where
      pub atom_start : p ≤ length text
      atom_start = ∥∥₁_elim h (hlevel props) (λ k. omega (arith, (walk_atom (here k) e f).stands.inside))

      pub after_atom : ∥ Held text (take (length words - 1) (drop 1 words)) ∥₁
      after_atom = ∥∥₁_map h (λ k. ((more k).others, walk_rest (past_atom (here k) e f)))

    module _ {a b : ℕ} (f : r ≡ Part a b) where
      pub list_lies : (a ≤ b) × (b ≤ length words) × (0 < b) × (b - a < length words)
      list_lies = ∥∥₁_elim h (hlevel props) (λ k. let l = walk_list (here k) e f in (l.low, l.high, list_on (here k) e f, l.shorter))

      pub list_items : ∥ Held text (take (b - a) (drop a words)) ∥₁
      list_items = ∥∥₁_map h (λ k. let l = walk_list (here k) e f in (l.items, l.holds))

      pub after_list : ∥ Held text (take (length words - b) (drop b words)) ∥₁
      after_list = ∥∥₁_map h (λ k. ((more k).others, walk_rest (past_list (here k) e f)))
