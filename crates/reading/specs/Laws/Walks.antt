-- A loop over the items of a list, each time the first of the cells that are left. Assumes nothing.
use Rattle.std.specs.Prelude.{◌≡◌, refl, ℕ, ◌+◌, ◌-◌, ◌<◌, List, length, take, drop}
use Rattle.std.proofs.Common.{sym, ap, ◌∙◌, subst, arith}
use Rattle.rules.specs.Out.{Out, ok, refuse, then}
use Rattle.rules.specs.Sexp.{Sexp, Sexps, cons}
use Rattle.sexp.specs.Encode.{encode}
use Rattle.sexp.specs.Items.{Holds, item_at, behind}
use Rattle.sexp.specs.ItemLaws.{At, at_next, at_room, item_here, behind_item, some_cells}
use Rattle.sexp.specs.WalkLaws.{Walk, walk_start, walk_more, walk_rest, walk_atom, walk_list, AtomIs, ListIs}
use Rattle.sexp.specs.declared.items.Item.{Item}
use Rattle.sexp.specs.declared.items.Item.TheVariants.{Atom, List as Part}

-- The place behind an item ------------------------------------------------------------------------------------------------------------

module _ {text cells : List ℕ} {at : ℕ} {x : Sexp} {ys : Sexps} (k : Walk text cells at (cons x ys)) {next : ℕ} (e : next ≡ behind at (item_at cells at)) where
  next_is : next ≡ at + length (encode x)
  next_is = e ∙ ap (behind at) (item_here x k.here) ∙ behind_item at x

  pub walk_next : Walk text cells next ys
  walk_next = record { here = subst (λ (z : ℕ). At cells z ys) (sym next_is) (at_next k.here); spelt = k.spelt.1 }

  pub walk_on : at < next
  walk_on = omega (arith, next_is, some_cells x)

-- Where the loop stands ----------------------------------------------------------------------------------------------------------------

-- an item is left, and the rest of the cells begins with it
pub record Here (text cells : List ℕ) (at : ℕ) (left : Sexps) : Type 0 where
  pub x : Sexp
  pub ys : Sexps
  pub is : left ≡ cons x ys
  pub walk : Walk text cells at (cons x ys)
  pub holds : Holds text (take (length cells - at) (drop at cells)) (cons x ys)

pub here : {text cells : List ℕ} {at : ℕ} {left : Sexps} → Walk text cells at left → at < length cells → Here text cells at left
here {text} {cells} {at} {left} w l =
    let m = walk_more w l in
    let k : Walk text cells at (cons m.first m.others) = subst (λ z. Walk text cells at z) m.is w in
    record { x = m.first; ys = m.others; is = m.is; walk = k; holds = walk_rest k }

-- the place behind that item
pub record Next (text cells : List ℕ) (at next : ℕ) (ys : Sexps) : Type 0 where
  pub walk : Walk text cells next ys
  pub on : at < next

pub go_on : {text cells : List ℕ} {at : ℕ} {left : Sexps} {next : ℕ} (h : Here text cells at left) → next ≡ behind at (item_at cells at) →
    Next text cells at next h.ys
go_on h e = record { walk = walk_next h.walk e; on = walk_on h.walk e }

-- where it begins, nothing is ahead of what the rest answers
pub then_same : {S A : Type 0} (o : Out S A) → o ≡ then o (λ a s. ok a s)
unfolding then
then_same (ok a s) = refl
then_same (refuse n d s) = refl

-- The first item is an atom, or a list ---------------------------------------------------------------------------------------------------

module _ {text cells : List ℕ} {x : Sexp} {ys : Sexps} (h : Holds text cells (cons x ys)) {item : Item} (e : item ≡ item_at cells 0) where
  pub first_atom : {p : ℕ} → item ≡ Atom p → AtomIs text x p
  first_atom f = walk_atom (walk_start h) e f

  pub first_list : {a b : ℕ} → item ≡ Part a b → ListIs text cells x a b
  first_list f = walk_list (walk_start h) e f

-- there are cells
pub first_some : {text cells : List ℕ} {x : Sexp} {ys : Sexps} → Holds text cells (cons x ys) → 0 < length cells
first_some {x = x} h = let r = at_room (walk_start h).here in let s = some_cells x in omega arith
