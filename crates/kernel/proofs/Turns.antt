-- A round of a walk over the items of a list: the item at hand by its own cells, and the walk behind it. Assumes nothing.
use mathlib.Core.Path.{◌≡◌, ap, ◌∙◌, subst}
use Prim.Native.Nat.{ℕ}
use mathlib.Core.List.{List}
use native.Mathlib.Omega.{arith}
use lib.ListN.{length}
use Rattle.rules.specs.Sexp.{Sexps, cons}
use Rattle.sexp.specs.Each.{Here, item_long}
use Rattle.sexp.specs.FirstItem.{ItemFirst, first_item}
use Rattle.sexp.specs.ItemLaws.{at_next, behind_item, item_here}
use Rattle.sexp.specs.Items.{Holds, item_at, behind}
use Rattle.sexp.specs.WalkLaws.{Walk, walk_rest}
use Rattle.sexp.specs.declared.items.Item.{Item}
use Rattle.sexp.specs.declared.items.Each.{Each}

module _ {text cells item : List ℕ} {left : Sexps} {at : ℕ} {next : Each} (k : Walk text cells at left) (h : Here cells item at next) where
  pub turn_holds : Holds text item left
  turn_holds = rw h.is (walk_rest k)

  pub turn_some : length item ≡ 0 → ⊥
  turn_some z = omega (arith, z, h.inside, item_long cells item at h.is)

  -- it is the first of those that are left
  pub turn_first : (r : Item) → r ≡ item_at item 0 → ItemFirst text item left r (behind 0 (item_at item 0))
  turn_first r e = first_item r turn_holds turn_some e

  -- the others come next
  pub turn_rest : {r : Item} {n : ℕ} (f : ItemFirst text item left r n) → Walk text cells next.at f.ys
  turn_rest f =
      let w : Walk text cells at (cons f.x f.ys) = subst (λ z. Walk text cells at z) f.is k in
      let b = h.behind ∙ ap (behind at) (item_here f.x w.here) ∙ behind_item at f.x in
      record { here = rw b (at_next w.here); spelt = w.spelt.1 }
